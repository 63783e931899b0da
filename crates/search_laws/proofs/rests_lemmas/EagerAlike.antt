-- Where a term with slots stands for a term with names, the local rule of the one is eager where that of the other is.
use Rattle.std.proofs.Common.{◌≡◌, ℕ, List, [], false, not, ◌&&◌, ◌||◌, Option, Some, None, refl, sym, ap, ◌∙◌, append-nil}
use Rattle.hs_base.specs.declared.mask.Mask.{Mask}
use Rattle.hs_base.specs.declared.mask.Mask.TheVariants.{Unmasked, Masked, Uninterruptible}
use Rattle.hs_base.specs.declared.tree.script.Script.{Script}
use Rattle.rules_expansion.specs.trees.Trees.{T}
use Rattle.rules_expansion.specs.trees.Programs.{Fn, script_of}
use Rattle.rules_expansion.specs.Core.{Core}
use Rattle.rules_meaning.specs.Values.{V, Env}
use Rattle.rules_meaning.specs.CoreMeaning.{code_of}
use Rattle.rules_sorts.specs.Sorts.{Sort}
use Rattle.rules_typing.specs.TypingScripts.{Accepted}
use Rattle.rules_code.specs.CodeTrees.{Sa, code_trees}
use Rattle.hs_rules.specs.Terms as named
use Rattle.hs_rules.specs.Terms.{Do, term, mask_at}
use Rattle.hs_rules.specs.LocalRules as name
use Rattle.hs_rules.specs.Entries as entries
use Rattle.outcome_laws.specs.reduction.EagerRules as by_names
use Rattle.hs_progress.proofs.Heads.{heads_kept}
use Rattle.slot_laws.specs.SlotRules as slot
use Rattle.slot_laws.specs.SlotRules.{SlotPart, SlotFrame, SlotTerm, at, mask_from}
use Rattle.slot_laws.specs.Standing.{Reads, PartStands, ret_stands, throw_stands, do_stands, op_stands, FramesStand, none_stand, bind_stands, then_stands, catch_stands, mask_stands, StepsTo}
use Rattle.slot_laws.proofs.Simulation.{does_go}
use Rattle.slot_states.proofs.Reading.{same_masks}
use Rattle.term_graph.specs.Eager as by_slots

unmasked_alike : (m : Mask) → by_slots.is_unmasked m ≡ entries.is_unmasked m
unmasked_alike Unmasked = refl
unmasked_alike Masked = refl
unmasked_alike Uninterruptible = refl

module _ (cells : ℕ → T → Type 0) (ds : List Fn) where
  throw_alike : {p : SlotPart} {q : named.Part} {k : Sort} → PartStands cells ds p q k → by_slots.is_throw p ≡ entries.is_throw q
  throw_alike (ret_stands h) = refl
  throw_alike _ = refl

  passes_alike : {k : Sort} {ss : List SlotFrame} {fs : List named.Frame} → FramesStand cells ds k ss fs → by_slots.passes_all ss ≡ by_names.passes_all fs
  passes_alike none_stand = refl
  passes_alike (bind_stands w b) = passes_alike b
  passes_alike (then_stands r b) = passes_alike b
  passes_alike (catch_stands w b) = refl
  passes_alike (mask_stands {m} {ss} {fs} b) = ap (λ z. z && by_slots.passes_all ss) (unmasked_alike m) ∙ ap (λ z. entries.is_unmasked m && z) (passes_alike b)

  -- nothing is masked inside the one frames where nothing is inside the others
  open_alike : {k : Sort} {ss : List SlotFrame} {fs : List named.Frame} → FramesStand cells ds k ss fs → by_slots.is_unmasked (mask_from Unmasked ss) ≡ entries.is_unmasked (mask_at fs)
  open_alike {fs} b = ap by_slots.is_unmasked (same_masks cells ds b) ∙ unmasked_alike (mask_at fs)

  leaving_alike : {k : Sort} {ss : List SlotFrame} {fs : List named.Frame} → FramesStand cells ds k ss fs → by_slots.leaving_is_eager ss ≡ by_names.leaving_is_eager fs
  leaving_alike none_stand = refl
  leaving_alike (bind_stands w b) = open_alike b
  leaving_alike (then_stands r b) = open_alike b
  leaving_alike (catch_stands w b) = refl
  leaving_alike (mask_stands {m} {ss} {fs} b) = ap (λ z. z && by_slots.is_unmasked (mask_from Unmasked ss)) (unmasked_alike m) ∙ ap (λ z. entries.is_unmasked m && z) (open_alike b)

  -- what the first steps of an action add
  step_alike : (o : Option SlotTerm) (r : Option named.Term) → StepsTo cells ds (slot.on_top [] o) (name.on_top [] r) → by_slots.step_is_eager o ≡ by_names.step_is_eager r
  step_alike None r h = absurd h
  step_alike (Some st) None h = absurd h
  step_alike (Some st) (Some t) h =
      ap (λ z. not z && by_slots.passes_all st.frames) (throw_alike h.part)
      ∙ ap (λ z. not (entries.is_throw t.part) && z)
      (ap by_slots.passes_all (sym (append-nil st.frames)) ∙ (passes_alike h.frames ∙ ap by_names.passes_all (append-nil t.frames)))

module _ (cells : ℕ → T → Type 0) (script : Script) (accepted : Accepted script) where
  abbrev ds : List Fn
  ds = script_of script

  -- the first step of an action in a masking state, where a thread can receive something there
  action_alike : {tree : Sa} {vs : List V} {a : Core} {env : Env} {k : Sort} → Reads cells ds tree vs a env k → (m : Mask)
      → (not (by_slots.is_unmasked m) || by_slots.step_is_eager (slot.first_step (code_trees ds) m tree vs)) ≡ (not (entries.is_unmasked m) || by_names.step_is_eager (name.first_step (code_of ds) m a env))
  action_alike {tree} {vs} {a} {env} {k} r Unmasked =
      step_alike cells ds (slot.first_step (code_trees ds) Unmasked tree vs) (name.first_step (code_of ds) Unmasked a env)
      (does_go cells script accepted (heads_kept script accepted) tree vs [] (term (Do a env) []) (record { sort = k; part = do_stands r; frames = none_stand }))
  action_alike r Masked = refl
  action_alike r Uninterruptible = refl

  pub eager_alike : {p : SlotPart} {q : named.Part} {k : Sort} {ss : List SlotFrame} {fs : List named.Frame} → PartStands cells ds p q k → FramesStand cells ds k ss fs
      → by_slots.is_eager (code_trees ds) (at p ss) ≡ by_names.is_eager (code_of ds) q fs
  eager_alike {ss} {fs} (ret_stands h) b = ap (λ z. not z || by_slots.leaving_is_eager ss) (open_alike cells ds b) ∙ ap (λ z. not (entries.is_unmasked (mask_at fs)) || z) (leaving_alike cells ds b)
  eager_alike throw_stands b = refl
  eager_alike {fs} (do_stands {tree} {vs} r) b =
      ap (λ m. not (by_slots.is_unmasked m) || by_slots.step_is_eager (slot.first_step (code_trees ds) m tree vs)) (same_masks cells ds b) ∙ action_alike r (mask_at fs)
  eager_alike (op_stands h) b = ap (λ z. not z || false) (open_alike cells ds b)

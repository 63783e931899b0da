-- What a stack is of a term with names, and a slice in the frames of a stack.
use Rattle.std.proofs.Common.{◌≡◌, ℕ, suc, List, [], ◌∷◌, ◌++◌, length, Option, Some, refl, sym, ap, ◌∙◌, subst}
use Rattle.std.proofs.Math.Logic.{∥∥₁_map}
use Rattle.hs_base.specs.declared.exn.Exn.{Exn}
use Rattle.hs_base.specs.declared.mask.Mask.{Mask}
use Rattle.hs_base.specs.declared.mask.Mask.TheVariants.{Unmasked}
use Rattle.rules_expansion.specs.trees.Trees.{T}
use Rattle.rules_expansion.specs.trees.Programs.{Fn, script_of}
use Rattle.rules_expansion.specs.declared.primitive.Primitive.{Primitive}
use Rattle.rules_meaning.specs.Values.{V}
use Rattle.rules_meaning.specs.CoreMeaning.{code_of}
use Rattle.rules_sorts.specs.Sorts.{Sort}
use Rattle.rules_code.specs.declared.code.CodeBody.{CodeBody}
use Rattle.rules_code.specs.CodeTrees.{StandsFor, code_trees}
use Rattle.hs_rules.specs.Terms as named
use Rattle.hs_rules.specs.Terms.{Ret, Throw, Performs, Calls, Term, mask_at}
use Rattle.hs_rules.specs.LocalRules as rules
use Rattle.hs_progress.specs.TypedStates.{Store}
use Rattle.hs_progress.proofs.Heads.{heads_kept}
use Rattle.slot_laws.specs.SlotRules.{ret, throw, performs, calls, at, locals}
use Rattle.slot_laws.specs.Standing.{cells_of, PartStands, ret_stands, throw_stands, op_stands, calls_stands, FramesStand, none_stand, bind_stands, then_stands, catch_stands, mask_stands, Stands}
use Rattle.slot_laws.proofs.SlotFraming.{framed}
use Rattle.slot_laws.proofs.Simulation.{same_rules, moved}
use Rattle.local_steps.specs.declared.active.Frame.{Frame}
use Rattle.local_steps.specs.declared.active.Frame.TheVariants as f
use Rattle.local_steps.specs.Frames.{mask_inside}
use Rattle.local_steps.specs.Machine.{frame_of, frames_of, funs_of}
use Rattle.local_steps.proofs.Codes.{masks_inside}
use Rattle.frame_stack.specs.declared.control.Control.{Control}
use Rattle.frame_stack.specs.Parts.{Stacked, stacked, part_of, term_of}
use Rattle.frame_stack.specs.Slicing.{Moves}

module _ (cells : ℕ → T → Type 0) (ds : List Fn) where
  pub same_masks : {k : Sort} (b : CodeBody) (fs : List Frame) {gs : List named.Frame} → FramesStand cells ds k (frames_of b fs) gs → mask_inside Unmasked fs ≡ mask_at gs
  same_masks b [] none_stand = refl
  same_masks b (f.Bind i w ∷ fs) (bind_stands w' h) = same_masks b fs h
  same_masks b (f.Then i vs ∷ fs) (then_stands r h) = same_masks b fs h
  same_masks b (f.Catch i w ∷ fs) (catch_stands w' h) = same_masks b fs h
  same_masks b (f.Mask m ∷ fs) (mask_stands h) = refl

  pub as_many : {k : Sort} (b : CodeBody) (fs : List Frame) {gs : List named.Frame} → FramesStand cells ds k (frames_of b fs) gs → length fs ≡ length gs
  as_many b [] none_stand = refl
  as_many b (f.Bind i w ∷ fs) (bind_stands w' h) = ap suc (as_many b fs h)
  as_many b (f.Then i vs ∷ fs) (then_stands r h) = ap suc (as_many b fs h)
  as_many b (f.Catch i w ∷ fs) (catch_stands w' h) = ap suc (as_many b fs h)
  as_many b (f.Mask m ∷ fs) (mask_stands h) = ap suc (as_many b fs h)

  pub same_value : {k : Sort} {v : V} {x : named.Part} → PartStands cells ds (ret v) x k → x ≡ Ret v
  same_value (ret_stands h) = refl

  pub same_exception : {k : Sort} {e : Exn} {x : named.Part} → PartStands cells ds (throw e) x k → x ≡ Throw e
  same_exception throw_stands = refl

  pub same_primitive : {k : Sort} {p : Primitive} {vs : List V} {x : named.Part} → PartStands cells ds (performs (calls p vs)) x k → x ≡ Performs (Calls p vs)
  same_primitive (op_stands (calls_stands q h)) = refl

-- local rules of a stack are those of each term that it stands for
pub moves_as_term : (store : Option Store) (b : CodeBody) → StandsFor b.nodes b.acts b.funs b.main b.of.value → (k : ℕ) (s u : Stacked) (t : Term) → Stands (cells_of store) (script_of b.of.value) (term_of b s) t
    → locals (funs_of b) Unmasked k (term_of b s) ≡ Some (term_of b u) → (v : Term) × (rules.locals (code_of (script_of b.of.value)) k t ≡ Some v) × Stands (cells_of store) (script_of b.of.value) (term_of b u) v
moves_as_term store b stands k s u t h e =
    let heads = heads_kept b.of.value stands.accepted in
    moved (cells_of store) b.of.value stands.accepted heads (locals (code_trees (script_of b.of.value)) Unmasked k (term_of b s)) (rules.locals (code_of (script_of b.of.value)) k t) (term_of b u)
    (ap (λ z. locals z Unmasked k (term_of b s)) (sym stands.functions) ∙ e)
    (same_rules (cells_of store) b.of.value stands.accepted heads k (term_of b s) t h)

pub frames_joined : (b : CodeBody) (fs gs : List Frame) → frames_of b (fs ++ gs) ≡ frames_of b fs ++ frames_of b gs
frames_joined b [] gs = refl
frames_joined b (f ∷ fs) gs = ap (λ z. frame_of b f ∷ z) (frames_joined b fs gs)

one_fits : (b : CodeBody) (k : ℕ) (start end : Control) (pushed fs : List Frame) → Moves b (mask_inside Unmasked fs) k start end pushed
    → locals (funs_of b) Unmasked k (term_of b (stacked start fs)) ≡ Some (term_of b (stacked end (pushed ++ fs)))
one_fits b k start end pushed fs h =
    framed (funs_of b) Unmasked (frames_of b fs) k (at (part_of b start) []) (at (part_of b end) (frames_of b pushed))
    (ap (λ m. locals (funs_of b) m k (at (part_of b start) [])) (sym (masks_inside b Unmasked fs)) ∙ h)
    ∙ ap (λ z. Some (at (part_of b end) z)) (sym (frames_joined b pushed fs))

-- a slice that was made in a stack's masking state moves the stack
pub slice_fits : (b : CodeBody) (m : Mask) (k : ℕ) (start end : Control) (pushed fs : List Frame) → m ≡ mask_inside Unmasked fs → ∥ Moves b m k start end pushed ∥₁
    → ∥ locals (funs_of b) Unmasked k (term_of b (stacked start fs)) ≡ Some (term_of b (stacked end (pushed ++ fs))) ∥₁
slice_fits b m k start end pushed fs e h = ∥∥₁_map h (λ w. one_fits b k start end pushed fs (subst (λ z. Moves b z k start end pushed) e w))

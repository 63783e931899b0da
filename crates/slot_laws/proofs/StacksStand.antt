-- Stacks stand for the threads of a state through each entry.
use Rattle.std.proofs.Common.{◌≡◌, ℕ, ◌<◌, ◌==◌, Bool, true, cond, List, length, Some, refl, sym, ap, ◌∙◌, subst, arith, slice_get, slice_set, ⊎_elim, ◌⊎◌, false, inl, inr, Option}
use Rattle.hs_base.specs.declared.mask.Mask.TheVariants.{Unmasked}
use Rattle.hs_base.specs.declared.tree.script.Script.{Script}
use Rattle.hs_rules.specs.declared.entry.Entry.{Entry}
use Rattle.rules_expansion.specs.trees.Trees.{T}
use Rattle.rules_expansion.specs.trees.Programs.{Fn, script_of}
use Rattle.rules_expansion.specs.Names.{Name}
use Rattle.rules_meaning.specs.Values.{V, Env}
use Rattle.rules_sorts.specs.Sorts.{Sort}
use Rattle.rules_expansion.specs.Core.{Core}
use Rattle.rules_typing.specs.TypingScripts.{Accepted}
use Rattle.rules_code.specs.CodeTrees.{Sa, code_trees}
use Rattle.hs_rules.specs.Runs.{IsRun}
use Rattle.rules_meaning.specs.CoreMeaning.{code_of}
use Rattle.hs_rules.specs.State.{Thread, State, with_term, move}
use Rattle.hs_rules.specs.Entries.{next}
use Rattle.hs_rules.specs.Terms as named
use Rattle.hs_rules.specs.Terms.{term}
use Rattle.hs_rules.specs.LocalRules as name
use Rattle.hs_laws.proofs.Lists.{equal_or, item_same, some_item, item_below}
use Rattle.hs_base.specs.declared.exn.Exn.TheVariants.{BlockedIndefinitely}
use Rattle.hs_rules.specs.declared.entry.Entry.TheVariants as entry
use Rattle.rules_waiting.specs.Waiting.{is_blocked}
use Rattle.hs_rules.specs.Terms.{Throw}
use Rattle.hs_laws.specs.MaskLaw.{AreStranded, WaitsOpen, thrown_out}
use Rattle.hs_laws.proofs.Stranding.{are_stranded}
use Rattle.hs_laws.proofs.States.{other_thread}
use Rattle.hs_progress.specs.TypedStates.{Runs, Awaits, OpTyped, calls_typed, forks_typed, forks_unmask_typed, PartTyped, ret_typed, throw_typed, do_typed, op_typed, FramesTyped, no_frames, bind_typed, then_typed, catch_typed, mask_typed, has, with_sort, Follows, Stays}
use Rattle.hs_progress.proofs.Heads.{heads_kept}
use Rattle.hs_progress.proofs.Sounds.{moved_sound}
use Rattle.hs_progress.proofs.Entries.{types_follow}
use Rattle.slot_laws.specs.SlotRules as slot
use Rattle.slot_laws.specs.SlotRules.{SlotOp, SlotPart, SlotFrame, SlotTerm, at}
use Rattle.slot_laws.specs.Standing as slotted
use Rattle.slot_laws.specs.Standing.{Reads, OpStands, calls_stands, forks_stands, forks_unmask_stands, PartStands, ret_stands, throw_stands, do_stands, op_stands, FramesStand, none_stand, bind_stands, then_stands, catch_stands, mask_stands, Stands, StandsIn, EndsAs}
use Rattle.slot_laws.specs.Stacks.{StacksStand, with_stack, Resumed, stayed, resumed}
use Rattle.slot_laws.proofs.Simulation.{same_rules, moved}
use Rattle.slot_laws.proofs.Stacking.{still_stands, answered_stands}

-- ---- what stands is typed

module _ (cells : ℕ → T → Type 0) (ds : List Fn) where
  runs_of : {tree : Sa} {vs : List V} {a : Core} {env : Env} {k : Sort} → Reads cells ds tree vs a env k → Runs cells ds a env k
  runs_of r = record { here = r.here; scope = r.scope; does = r.does; fits = r.fits.sorts }

  awaits_of : {x : Name} {j : Sort} {tree : Sa} {vs : List V} {a : Core} {env : Env} {k : Sort} → slotted.Awaits cells ds x j tree vs a env k → Awaits cells ds x j a env k
  awaits_of w = record { here = w.here; scope = w.scope; binds = w.binds; does = w.does; fits = w.fits.sorts }

  op_of : {p : SlotOp} {op : named.Operation} {k : Sort} → OpStands cells ds p op k → OpTyped cells ds op k
  op_of (calls_stands p h) = calls_typed p h
  op_of (forks_stands r) = forks_typed (runs_of r)
  op_of (forks_unmask_stands w) = forks_unmask_typed (awaits_of w)

  pub part_typed : {p : SlotPart} {q : named.Part} {k : Sort} → PartStands cells ds p q k → PartTyped cells ds q k
  part_typed (ret_stands h) = ret_typed h
  part_typed throw_stands = throw_typed
  part_typed (do_stands r) = do_typed (runs_of r)
  part_typed (op_stands h) = op_typed (op_of h)

  pub frames_typed : {k : Sort} {ss : List SlotFrame} {fs : List named.Frame} → FramesStand cells ds k ss fs → FramesTyped cells ds k fs
  frames_typed none_stand = no_frames
  frames_typed (bind_stands w b) = bind_typed (awaits_of w) (frames_typed b)
  frames_typed (then_stands r b) = then_typed (runs_of r) (frames_typed b)
  frames_typed (catch_stands w b) = catch_typed (awaits_of w) (frames_typed b)
  frames_typed (mask_stands b) = mask_typed (frames_typed b)

pub term_is : (a b : Thread) → Some a ≡ Some b → a.term ≡ b.term
term_is a b e = let z : a ≡ b = cc e in ap (λ (x : Thread). x.term) z

-- ---- local rules of one thread

module _ (ds : List Fn) (stacks : ℕ → SlotTerm) (s : State) (w : StacksStand ds stacks s) (t : ℕ) (th : Thread) (is : slice_get s.threads t ≡ Some th) (st : SlotTerm) (u : named.Term) (h : Stands (has w.store) ds st u) where
  abbrev Either : Bool → ℕ → named.Term → Type 0
  Either c v x = PartStands (has w.store) ds (cond c st (stacks v)).part x.part (cond c h.sort (w.store.sorts v)) × FramesStand (has w.store) ds (cond c h.sort (w.store.sorts v)) (cond c st (stacks v)).frames x.frames

  one_moved : (v : ℕ) (b : Thread) → slice_get (move t u s).threads v ≡ Some b → Either (v == t) v b.term
  one_moved v b q =
      ⊎_elim
      (λ e.
      let new : Thread = record { term = u; finished = th.finished } in
      let a : with_term t (slice_get s.threads t) u s.threads ≡ slice_set s.threads t new = ap (λ o. with_term t o u s.threads) is in
      let c : slice_get (with_term t (slice_get s.threads t) u s.threads) v ≡ Some new = ap (λ ts. slice_get ts v) a ∙ (ap (slice_get (slice_set s.threads t new)) e.1 ∙ item_same s.threads t th new is) in
      let same : u ≡ b.term = term_is new b (sym c ∙ q) in
      subst (λ z. Either z v b.term) (sym e.0) (subst (λ x. Either true v x) same (h.part, h.frames)))
      (λ e. subst (λ z. Either z v b.term) (sym e.0) (w.stands v b (sym (other_thread s.threads t v (slice_get s.threads t) u e.1) ∙ q)))
      (equal_or v t)

  stacks_moved : StacksStand ds (with_stack t st stacks) (move t u s)
  stacks_moved = record {
    store = with_sort t h.sort w.store;
    sound = moved_sound ds w.store s t th u is w.sound (record { sort = h.sort; part = part_typed (has w.store) ds h.part; frames = frames_typed (has w.store) ds h.frames });
    stands = one_moved;
  }

pub locals_stand : (script : Script) → Accepted script → (stacks : ℕ → SlotTerm) (s : State) (t k : ℕ) (th : Thread) → StacksStand (script_of script) stacks s → slice_get s.threads t ≡ Some th → (st : SlotTerm)
    → slot.locals (code_trees (script_of script)) Unmasked k (stacks t) ≡ Some st
    → (u : named.Term) × (name.locals (code_of (script_of script)) k th.term ≡ Some u) × StacksStand (script_of script) (with_stack t st stacks) (move t u s)
locals_stand script accepted stacks s t k th w is st e =
    let h = w.stands t th is in
    let m = moved (has w.store) script accepted (heads_kept script accepted) (slot.locals (code_trees (script_of script)) Unmasked k (stacks t)) (name.locals (code_of (script_of script)) k th.term) st e
    (same_rules (has w.store) script accepted (heads_kept script accepted) k (stacks t) th.term (record { sort = w.store.sorts t; part = h.0; frames = h.1 })) in
    (m.0, m.1, stacks_moved (script_of script) stacks s w t th is st m.0 m.2)

-- ---- entries that resume threads

module _ (ds : List Fn) (stacks stacks' : ℕ → SlotTerm) (s v : State) (e : Entry) (w : StacksStand ds stacks s) (f : Follows ds w.store (Stays e) v) (all : (t : ℕ) → Stays e t) where
  one_resumed : (t : ℕ) (a b : Thread) → slice_get s.threads t ≡ Some a → slice_get v.threads t ≡ Some b → t < w.store.count → (st' : SlotTerm) (u' : named.Term) → b.term ≡ u' → Resumed (stacks t) a.term st' u' → StandsIn ds f.store t st' u'
  one_resumed t a b ia ib lt st' u' q (stayed p r) =
      subst (λ z. StandsIn ds f.store t z u') (sym p) (subst (λ z. StandsIn ds f.store t (stacks t) z) (sym r) (still_stands ds w.store (Stays e) v f t lt (all t) (stacks t) a.term (w.stands t a ia)))
  one_resumed t a b ia ib lt st' u' q (resumed p x end r g) =
      subst (λ z. StandsIn ds f.store t z u') (sym r) (subst (λ z. StandsIn ds f.store t (at p (stacks t).frames) z) (sym g)
      (answered_stands ds w.store (Stays e) v f t lt (all t) (stacks t) a.term x p b (w.stands t a ia) ib (q ∙ g) end))

  resumed_stand : ((t : ℕ) (b : Thread) → slice_get v.threads t ≡ Some b → (a : Thread) × (slice_get s.threads t ≡ Some a))
      → ((t : ℕ) (a b : Thread) → slice_get s.threads t ≡ Some a → slice_get v.threads t ≡ Some b → Resumed (stacks t) a.term (stacks' t) b.term) → StacksStand ds stacks' v
  resumed_stand was r = record {
    store = f.store;
    sound = f.sound;
    stands = λ t b ib.
        let a = was t b ib in
        let below : t < length s.threads = item_below s.threads t a.0 a.1 in
        let c : w.store.count ≡ length s.threads = w.sound.counted in
        one_resumed t a.0 b a.1 ib (omega (arith, below, c)) (stacks' t) b.term refl (r t a.0 b a.1 ib);
  }

-- as many threads as there were, so each was there
was_there : (ts us : List Thread) → length us ≡ length ts → (t : ℕ) (b : Thread) → slice_get us t ≡ Some b → (a : Thread) × (slice_get ts t ≡ Some a)
was_there ts us long t b e = let below : t < length us = item_below us t b e in some_item ts t (omega (arith, below, long))

pub entries_stand : (script : Script) → Accepted script → (es : List Entry) (s v : State) (e : Entry) → IsRun (script_of script) es s → next (code_of (script_of script)) s e ≡ Some v → ((t : ℕ) → Stays e t) → length v.threads ≡ length s.threads
    → (stacks stacks' : ℕ → SlotTerm) → StacksStand (script_of script) stacks s
    → ((t : ℕ) (a b : Thread) → slice_get s.threads t ≡ Some a → slice_get v.threads t ≡ Some b → Resumed (stacks t) a.term (stacks' t) b.term) → StacksStand (script_of script) stacks' v
entries_stand script accepted es s v e r n all long stacks stacks' w h =
    resumed_stand (script_of script) stacks stacks' s v e w (types_follow script accepted es s v e r n (record { store = w.store; sound = w.sound })) all (was_there s.threads v.threads long) h

-- ---- a Stranded

module _ (s v : State) (g : AreStranded s v) where
  waits_or : (t : ℕ) → WaitsOpen s t ⊎ ¬ WaitsOpen s t
  waits_or t = by (is_blocked t s.blocked) (is_blocked t v.blocked) refl refl
    where
      by : (a b : Bool) → is_blocked t s.blocked ≡ a → is_blocked t v.blocked ≡ b → WaitsOpen s t ⊎ ¬ WaitsOpen s t
      by true false p q = inl ((g.removed t).0 (p, q))
      by true true p q = inr (λ w. let r = (g.removed t).1 w in let z : true ≡ false = sym q ∙ r.1 in cc z)
      by false b p q = inr (λ w. let r = (g.removed t).1 w in let z : false ≡ true = sym p ∙ r.0 in cc z)

  was_stranded : (t : ℕ) (b : Thread) → slice_get v.threads t ≡ Some b → (a : Thread) × (slice_get s.threads t ≡ Some a)
  was_stranded t b e = ⊎_elim (λ w. (w.thread, w.is)) (λ n. (b, sym (g.others t n).0 ∙ e)) (waits_or t)

  same_thread : (o r : Option Thread) (a b : Thread) → o ≡ r → o ≡ Some a → r ≡ Some b → a ≡ b
  same_thread o r a b e p q = let z : Some a ≡ Some b = sym p ∙ (e ∙ q) in cc z

  stranded_as : (stacks then : ℕ → SlotTerm) → ((t : ℕ) → WaitsOpen s t → then t ≡ at (slot.throw BlockedIndefinitely) (stacks t).frames) → ((t : ℕ) → ¬ WaitsOpen s t → then t ≡ stacks t)
      → (t : ℕ) (a b : Thread) → slice_get s.threads t ≡ Some a → slice_get v.threads t ≡ Some b → Resumed (stacks t) a.term (then t) b.term
  stranded_as stacks then hit kept t a b ia ib =
      ⊎_elim
      (λ w.
      let same : w.thread ≡ a = same_thread (slice_get s.threads t) (slice_get s.threads t) w.thread a refl w.is ia in
      let new : thrown_out w.thread ≡ b = same_thread (slice_get v.threads t) (slice_get v.threads t) (thrown_out w.thread) b refl (g.throw t w) ib in
      resumed (slot.throw BlockedIndefinitely) (Throw BlockedIndefinitely) refl (hit t w)
      (sym (ap (λ (x : Thread). x.term) new) ∙ ap (λ (x : Thread). term (Throw BlockedIndefinitely) x.term.frames) same))
      (λ n. stayed (kept t n) (ap (λ (x : Thread). x.term) (same_thread (slice_get v.threads t) (slice_get s.threads t) b a (g.others t n).0 ib ia)))
      (waits_or t)

pub stranded_stand : (script : Script) → Accepted script → (es : List Entry) (s v : State) → IsRun (script_of script) es s → next (code_of (script_of script)) s entry.Stranded ≡ Some v → (stacks then : ℕ → SlotTerm) → StacksStand (script_of script) stacks s
    → ((t : ℕ) → WaitsOpen s t → then t ≡ at (slot.throw BlockedIndefinitely) (stacks t).frames) → ((t : ℕ) → ¬ WaitsOpen s t → then t ≡ stacks t) → StacksStand (script_of script) then v
stranded_stand script accepted es s v r n stacks then w hit kept =
    let g = are_stranded (code_of (script_of script)) s v n in
    resumed_stand (script_of script) stacks then s v entry.Stranded w (types_follow script accepted es s v entry.Stranded r n (record { store = w.store; sound = w.sound })) (λ t. tt)
    (was_stranded s v g) (stranded_as s v g stacks then hit kept)

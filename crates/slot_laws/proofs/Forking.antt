-- Stacks stand for the threads of a first state, and after a fork.
use Rattle.std.proofs.Common.{◌≡◌, ℕ, zero, suc, ◌<◌, ◌≤◌, ◌==◌, true, false, List, [], ◌∷◌, ◌++◌, length, Some, refl, sym, ap, ◌∙◌, subst, arith, slice_get, slice_set, ⊎_elim}
use Rattle.plain_laws.proofs.Lists.{get_last, get_before_last}
use Rattle.hs_base.specs.declared.mask.Mask.{Mask}
use Rattle.hs_base.specs.declared.mask.Mask.TheVariants.{Unmasked}
use Rattle.hs_base.specs.declared.tree.script.Script.{Script}
use Rattle.rules_expansion.specs.trees.Trees.{T, unit, thread}
use Rattle.rules_expansion.specs.trees.Programs.{Fn, script_of}
use Rattle.rules_meaning.specs.Values as val
use Rattle.rules_expansion.specs.Names.{Name}
use Rattle.rules_meaning.specs.Values.{V, Env, Restore, with_name}
use Rattle.rules_sorts.specs.Sorts.{Sort, a_value}
use Rattle.rules_expansion.specs.Core.{Core}
use Rattle.rules_typing.specs.TypingScripts.{Accepted}
use Rattle.rules_code.specs.CodeTrees.{Sa, main_tree}
use Rattle.rules_expansion.specs.Expansion.{main_of}
use Rattle.hs_rules.specs.State.{Thread, State, with_term, frames_of, answer, spawn, first}
use Rattle.hs_rules.specs.Terms as named
use Rattle.hs_rules.specs.Terms.{term, Ret, Do, Performs, Forks, ForksUnmask, MaskIn}
use Rattle.hs_laws.proofs.Lists.{equal_or, cond_true, cond_false, item_same}
use Rattle.hs_laws.proofs.States.{other_thread}
use Rattle.hs_laws.proofs.Growing.{term_length}
use Rattle.hs_progress.specs.TypedStates.{no_frames, mask_typed, ThreadTyped, stored, Store, has, with_thread}
use Rattle.hs_progress.proofs.Stores.{stored_more}
use Rattle.hs_progress.proofs.Operations.{fork_sound}
use Rattle.slot_laws.specs.SlotRules as slot
use Rattle.slot_laws.specs.SlotRules.{SlotPart, SlotTerm, at, mask_in}
use Rattle.slot_laws.specs.Standing.{Reads, forks_stands, forks_unmask_stands, PartStands, ret_stands, do_stands, op_stands, FramesStand, none_stand, mask_stands, StandsIn}
use Rattle.slot_laws.specs.Stacks.{StacksStand, with_stack}
use Rattle.slot_laws.proofs.Heads.{main_reads}
use Rattle.slot_laws.proofs.Steps.{awaited}
use Rattle.slot_laws.proofs.Stacking.{part_more, frames_more}
use Rattle.slot_laws.proofs.StacksStand.{part_typed, term_is}

-- ---- forks

module _ (ds : List Fn) (stacks : ℕ → SlotTerm) (s : State) (w : StacksStand ds stacks s) (t : ℕ) (th : Thread) (is : slice_get s.threads t ≡ Some th) (j : Sort) (p : SlotPart) (q : named.Part) (m : Mask) (same : a_value thread ≡ w.store.sorts t) (h : PartStands (has w.store) ds p q j) where
  abbrev n : ℕ
  n = length s.threads

  abbrev more : Store
  more = with_thread j w.store

  abbrev answered : named.Term
  answered = term (Ret (val.Thread n)) (frames_of (slice_get s.threads t))

  abbrev ts : List Thread
  ts = with_term t (slice_get s.threads t) answered s.threads

  abbrev then : ℕ → SlotTerm
  then = with_stack n (at p (mask_in m ∷ [])) (with_stack t (at (slot.ret (val.Thread n)) (stacks t).frames) stacks)

  grow : (c : ℕ) (v : T) → has w.store c v → has more c v
  grow = let le : w.store.count ≤ suc w.store.count = omega arith in stored_more w.store.cells w.store.cells w.store.count (suc w.store.count) (λ c v e. e) le

  place : (v : ℕ) (x : named.Term) (k : Sort) (st : SlotTerm) → more.sorts v ≡ k → then v ≡ st → PartStands (has more) ds st.part x.part k × FramesStand (has more) ds k st.frames x.frames → StandsIn ds more v (then v) x
  place v x k st e f r = subst (λ (z : SlotTerm). PartStands (has more) ds z.part x.part (more.sorts v) × FramesStand (has more) ds (more.sorts v) z.frames x.frames) (sym f)
      (subst (λ z. PartStands (has more) ds st.part x.part z × FramesStand (has more) ds z st.frames x.frames) (sym e) r)

  new_stands : (v : ℕ) → v ≡ n → more.sorts v ≡ j → then v ≡ at p (mask_in m ∷ []) → (b : Thread) → slice_get (ts ++ record { term = term q (MaskIn m ∷ []); finished = false } ∷ []) v ≡ Some b → StandsIn ds more v (then v) b.term
  new_stands v e k f b g =
      let new : Thread = record { term = term q (MaskIn m ∷ []); finished = false } in
      let long : length ts ≡ n = term_length t (slice_get s.threads t) answered s.threads in
      let c : slice_get (ts ++ new ∷ []) v ≡ Some new = ap (slice_get (ts ++ new ∷ [])) (e ∙ sym long) ∙ get_last ts new in
      subst (StandsIn ds more v (then v)) (term_is new b (sym c ∙ g)) (place v new.term j (at p (mask_in m ∷ [])) k f (part_more (has w.store) (has more) grow ds h, mask_stands none_stand))

  old_stands : (v : ℕ) → more.sorts v ≡ w.store.sorts v → then v ≡ with_stack t (at (slot.ret (val.Thread n)) (stacks t).frames) stacks v → (b : Thread) → slice_get ts v ≡ Some b → StandsIn ds more v (then v) b.term
  old_stands v k f b g =
      ⊎_elim
      (λ e.
      let ret : Thread = record { term = term (Ret (val.Thread n)) th.term.frames; finished = th.finished } in
      let a : ts ≡ slice_set s.threads t ret = ap (λ o. with_term t o (term (Ret (val.Thread n)) (frames_of o)) s.threads) is in
      let c : slice_get ts v ≡ Some ret = ap (λ z. slice_get z v) a ∙ (ap (slice_get (slice_set s.threads t ret)) e.1 ∙ item_same s.threads t th ret is) in
      let r = w.stands t th is in
      let lt : n < suc w.store.count = let z : w.store.count ≡ n = w.sound.counted in omega (arith, z) in
      let ans : PartStands (has more) ds (slot.ret (val.Thread n)) (Ret (val.Thread n)) (w.store.sorts t) = subst (PartStands (has more) ds (slot.ret (val.Thread n)) (Ret (val.Thread n))) same (ret_stands lt) in
      subst (StandsIn ds more v (then v)) (term_is ret b (sym c ∙ g))
      (place v ret.term (w.store.sorts t) (at (slot.ret (val.Thread n)) (stacks t).frames) (k ∙ ap w.store.sorts e.1)
      (f ∙ cond_true (v == t) (at (slot.ret (val.Thread n)) (stacks t).frames) (stacks v) e.0)
      (ans, frames_more (has w.store) (has more) grow ds r.1)))
      (λ e.
      let r = w.stands v b (sym (other_thread s.threads t v (slice_get s.threads t) answered e.1) ∙ g) in
      place v b.term (w.store.sorts v) (stacks v) k (f ∙ cond_false (v == t) (at (slot.ret (val.Thread n)) (stacks t).frames) (stacks v) e.0)
      (part_more (has w.store) (has more) grow ds r.0, frames_more (has w.store) (has more) grow ds r.1))
      (equal_or v t)

  all_stand : (v : ℕ) (b : Thread) → slice_get (ts ++ record { term = term q (MaskIn m ∷ []); finished = false } ∷ []) v ≡ Some b → StandsIn ds more v (then v) b.term
  all_stand v b g =
      let counted : w.store.count ≡ n = w.sound.counted in
      let long : length ts ≡ n = term_length t (slice_get s.threads t) answered s.threads in
      ⊎_elim
      (λ e. new_stands v (e.1 ∙ counted) (cond_true (v == w.store.count) j (w.store.sorts v) e.0)
      (cond_true (v == n) (at p (mask_in m ∷ [])) (with_stack t (at (slot.ret (val.Thread n)) (stacks t).frames) stacks v) (subst (λ z. (v == z) ≡ true) counted e.0)) b g)
      (λ e. old_stands v (cond_false (v == w.store.count) j (w.store.sorts v) e.0)
      (cond_false (v == n) (at p (mask_in m ∷ [])) (with_stack t (at (slot.ret (val.Thread n)) (stacks t).frames) stacks v) (subst (λ z. (v == z) ≡ false) counted e.0)) b
      (sym (get_before_last ts (record { term = term q (MaskIn m ∷ []); finished = false }) v (λ x. e.1 (x ∙ (long ∙ sym counted)))) ∙ g))
      (equal_or v w.store.count)

  forked_stand : StacksStand ds then (spawn (term q (MaskIn m ∷ [])) (answer t (val.Thread n) s))
  forked_stand = record {
    store = more;
    sound = fork_sound ds w.store s t (term q (MaskIn m ∷ [])) same w.sound j (part_typed (has w.store) ds h, mask_typed no_frames);
    stands = all_stand;
  }

module _ (cells : ℕ → T → Type 0) (ds : List Fn) where
  forks_child : {tree : Sa} {vs : List V} {a : Core} {env : Env} {k : Sort} → PartStands cells ds (slot.performs (slot.forks tree vs)) (Performs (Forks a env)) k → (a_value thread ≡ k) × (j : Sort) × PartStands cells ds (slot.doing tree vs) (Do a env) j
  forks_child (op_stands (forks_stands {j} r)) = (refl, j, do_stands r)

  forks_unmask_child : {x : Name} {tree : Sa} {vs : List V} {a : Core} {env : Env} {k : Sort} → PartStands cells ds (slot.performs (slot.forks_unmask tree vs)) (Performs (ForksUnmask x a env)) k
      → (a_value thread ≡ k) × (j : Sort) × PartStands cells ds (slot.doing tree (vs ++ Restore Unmasked ∷ [])) (Do a (with_name x (Restore Unmasked) env)) j
  forks_unmask_child (op_stands (forks_unmask_stands {j} w)) = (refl, j, do_stands (awaited cells ds w (Restore Unmasked) tt))

-- the part of a thread's stack stands for its part
part_here : (ds : List Fn) (stacks : ℕ → SlotTerm) (s : State) (w : StacksStand ds stacks s) (t : ℕ) (th : Thread) → slice_get s.threads t ≡ Some th → (p : SlotPart) (q : named.Part) → (stacks t).part ≡ p → th.term.part ≡ q → PartStands (has w.store) ds p q (w.store.sorts t)
part_here ds stacks s w t th is p q e f =
    let r = w.stands t th is in
    subst (λ z. PartStands (has w.store) ds z q (w.store.sorts t)) e (subst (λ z. PartStands (has w.store) ds (stacks t).part z (w.store.sorts t)) f r.0)

pub forks_stand : (ds : List Fn) (stacks : ℕ → SlotTerm) (s : State) → StacksStand ds stacks s → (t : ℕ) (th : Thread) → slice_get s.threads t ≡ Some th → (m : Mask) (tree : Sa) (vs : List V) (a : Core) (env : Env) → (stacks t).part ≡ slot.performs (slot.forks tree vs) → th.term.part ≡ Performs (Forks a env)
    → StacksStand ds (with_stack (length s.threads) (at (slot.doing tree vs) (mask_in m ∷ [])) (with_stack t (at (slot.ret (val.Thread (length s.threads))) (stacks t).frames) stacks)) (spawn (term (Do a env) (MaskIn m ∷ [])) (answer t (val.Thread (length s.threads)) s))
forks_stand ds stacks s w t th is m tree vs a env e f =
    let c = forks_child (has w.store) ds (part_here ds stacks s w t th is (slot.performs (slot.forks tree vs)) (Performs (Forks a env)) e f) in
    forked_stand ds stacks s w t th is c.1 (slot.doing tree vs) (Do a env) m c.0 c.2

pub forks_unmask_stand : (ds : List Fn) (stacks : ℕ → SlotTerm) (s : State) → StacksStand ds stacks s → (t : ℕ) (th : Thread) → slice_get s.threads t ≡ Some th → (m : Mask) (tree : Sa) (vs : List V) (x : Name) (a : Core) (env : Env) → (stacks t).part ≡ slot.performs (slot.forks_unmask tree vs) → th.term.part ≡ Performs (ForksUnmask x a env)
    → StacksStand ds (with_stack (length s.threads) (at (slot.doing tree (vs ++ Restore Unmasked ∷ [])) (mask_in m ∷ [])) (with_stack t (at (slot.ret (val.Thread (length s.threads))) (stacks t).frames) stacks)) (spawn (term (Do a (with_name x (Restore Unmasked) env)) (MaskIn m ∷ [])) (answer t (val.Thread (length s.threads)) s))
forks_unmask_stand ds stacks s w t th is m tree vs x a env e f =
    let c = forks_unmask_child (has w.store) ds (part_here ds stacks s w t th is (slot.performs (slot.forks_unmask tree vs)) (Performs (ForksUnmask x a env)) e f) in
    forked_stand ds stacks s w t th is c.1 (slot.doing tree (vs ++ Restore Unmasked ∷ [])) (Do a (with_name x (Restore Unmasked) env)) m c.0 c.2

-- ---- the first state

first_stands : (ds : List Fn) (a : Core) (tree : Sa) → Reads (stored [] 1) ds tree [] a [] (a_value unit) → StacksStand ds (λ t. at (slot.doing tree []) []) (first a)
first_stands ds a tree r = record {
  store = record { cells = []; count = 1; sorts = λ t. a_value unit };
  sound = record { threads = typed; contents = λ c. tt; counted = refl };
  stands = here;
}
  where
    typed : (t : ℕ) → ThreadTyped (stored [] 1) ds (a_value unit) (slice_get (first a).threads t)
    typed zero = (part_typed (stored [] 1) ds (do_stands r), no_frames)
    typed (suc t) = tt

    here : (t : ℕ) (b : Thread) → slice_get (first a).threads t ≡ Some b → PartStands (stored [] 1) ds (slot.doing tree []) b.term.part (a_value unit) × FramesStand (stored [] 1) ds (a_value unit) [] b.term.frames
    here zero b e =
        let new : Thread = record { term = term (Do a []) []; finished = false } in
        let z : new ≡ b = cc e in
        subst (λ (x : Thread). PartStands (stored [] 1) ds (slot.doing tree []) x.term.part (a_value unit) × FramesStand (stored [] 1) ds (a_value unit) [] x.term.frames) z (do_stands r, none_stand)
    here (suc t) b e = absurd (cc e)

pub main_stands : (script : Script) → Accepted script → (a : Core) × (main_of (script_of script) ≡ Some a) × StacksStand (script_of script) (λ t. at (slot.doing (main_tree (script_of script)) []) []) (first a)
main_stands script accepted = let r = main_reads script accepted in (r.0, r.1, first_stands (script_of script) r.0 (main_tree (script_of script)) (r.2 (stored [] 1)))

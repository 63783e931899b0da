-- One eager local rule after another.
use Rattle.std.proofs.Common.{◌≡◌, ◌≤◌, ◌+◌, ℕ, zero, suc, true, false, List, [], ◌∷◌, ◌++◌, Some, slice_get, get_or, slice_set, refl, sym, ap, ◌∙◌, subst, arith, append-nil, append_assoc, length-append}
use Rattle.hs_rules.specs.declared.entry.Entry.{Entry}
use Rattle.hs_rules.specs.declared.entry.Entry.TheVariants as entry
use Rattle.hs_rules.specs.declared.entry.LimitKind.TheVariants as limit
use Rattle.rules_code.specs.CodeTrees.{SlottedFunction}
use Rattle.hs_base.specs.declared.mask.Mask.TheVariants.{Unmasked}
use Rattle.rules_code.specs.declared.code.CodeBody.{CodeBody}
use Rattle.slot_laws.specs.SlotRules.{SlotTerm, local}
use Rattle.term_graph.specs.Eager.{is_eager}
use Rattle.local_steps.specs.Machine.{funs_of}
use Rattle.slot_states.specs.SlotStates.{SlotThread, SlotState, set_thread, changed, moving, moves}
use Rattle.number_states.specs.Stocks.{Stock, HasGrown, IsTerm, term_at}
use Rattle.number_states.specs.States.{thread_of, slots}
use Rattle.number_states.specs.declared.state.NumberState.{NumberState}
use Rattle.number_states.proofs.Growth.{term_at_on}
use Rattle.number_states.proofs.Changes.{got_mapped, got_read}
use Rattle.search_laws.proofs.Candidates.{there_below}
use Rattle.number_states.specs.declared.state.NumberThread.{NumberThread}
use Rattle.slot_states.specs.Resting.{used}
use Rattle.search_laws.proofs.Growing.{entries_more}
use Rattle.number_moves.specs.rests.Resting.{IsFree, MovesOn, Rests}
use Rattle.number_moves.specs.rests.Rules.{LeadsEagerly}

-- before any rule
pub rests_none : (funs : List SlottedFunction) (most : ℕ) (old : List Entry) (x : SlotState) → Rests funs most 0 old old x x
rests_none funs most old x = record { locals = []; behind = sym (append-nil old); many = refl; rests = refl }

-- one more rule
pub rests_more : (funs : List SlottedFunction) (most k : ℕ) (old new : List Entry) (x y z : SlotState) (t : ℕ) → Rests funs most k old new x y → MovesOn funs most t y z true → Rests funs most (k + 1) old (new ++ entry.Local t 1 ∷ []) x z
rests_more funs most k old new x y z t r (move, is, few) = record {
  locals = r.locals ++ entry.Local t 1 ∷ [];
  behind = ap (λ es. es ++ entry.Local t 1 ∷ []) r.behind ∙ append_assoc old r.locals (entry.Local t 1 ∷ []);
  many = omega (arith, length-append r.locals (entry.Local t 1 ∷ []), r.many);
  rests = entries_more funs most r.locals x y z t r.rests move is few;
}

-- none
pub rests_same : (funs : List SlottedFunction) (most k : ℕ) (old new : List Entry) (x y z : SlotState) (t : ℕ) → Rests funs most k old new x y → MovesOn funs most t y z false → Rests funs most k old new x z
rests_same funs most k old new x y z t r e = subst (λ q. Rests funs most k old new x q) (sym e) r

-- ---- one rule

-- the thread that is read is the one that is free
pub read_is : (n : NumberState) (t : ℕ) (free : IsFree n t) (th : NumberThread) → th ≡ get_or n.threads.items t th → th.term ≡ free.thread.term
read_is n t free th e =
    let k : Some th ≡ Some free.thread = sym (got_read n.threads.items t th (there_below n.threads.items t free.thread free.is) e) ∙ free.is in
    let same : th ≡ free.thread = cc k in ap (λ (z : NumberThread). z.term) same

-- what the thread that goes has in numbers
pub moved_eagerly : (b : CodeBody) (g h : Stock) (n m : NumberState) (t most term new : ℕ) (free : IsFree n t) → term ≡ free.thread.term → HasGrown g h → IsTerm g term → LeadsEagerly b h term new → slots h b m ≡ moves t (term_at h b new) (slots h b n) → slots h b n ≡ slots g b n
    → used limit.Frames (slots h b m) ≤ most → MovesOn (funs_of b) most t (slots g b n) (slots h b m) true
moved_eagerly b g h n m t most term new free is grown there rule made same few =
    let of_thread : term_at h b term ≡ term_at g b free.thread.term = term_at_on g h grown b term there ∙ ap (term_at g b) is in (
      record {
        number = t;
        thread = thread_of g b free.thread;
        is = got_mapped (thread_of g b) n.threads.items t free.thread free.is;
        unfinished = free.unfinished;
        free = free.free;
        main = record { main = thread_of g b free.main; is = got_mapped (thread_of g b) n.threads.items 0 free.main free.main_is; unfinished = free.main_goes };
        term = term_at h b new;
        leads = subst (λ (st : SlotTerm). local (funs_of b) Unmasked st.part st.frames ≡ Some (term_at h b new)) of_thread rule.leads;
        eager = subst (λ st. is_eager (funs_of b) st ≡ true) of_thread rule.eager;
        moved = made ∙ ap (moves t (term_at h b new)) same;
      },
      refl,
      few,
    )

-- ---- and back

set_twice : {A : Type 0} → (xs : List A) (t : ℕ) (a b : A) → slice_set (slice_set xs t a) t b ≡ slice_set xs t b
set_twice [] zero a b = refl
set_twice [] (suc t) a b = refl
set_twice (x ∷ xs) zero a b = refl
set_twice (x ∷ xs) (suc t) a b = ap (λ ys. x ∷ ys) (set_twice xs t a b)

set_same : {A : Type 0} → (xs : List A) (t : ℕ) (a : A) → slice_get xs t ≡ Some a → slice_set xs t a ≡ xs
set_same [] zero a e = refl
set_same [] (suc t) a e = refl
set_same (x ∷ xs) zero a e = let h : x ≡ a = cc e in ap (λ y. y ∷ xs) (sym h)
set_same (x ∷ xs) (suc t) a e = ap (λ ys. x ∷ ys) (set_same xs t a e)

set_there : {A : Type 0} → (xs : List A) (t : ℕ) (a b : A) → slice_get xs t ≡ Some a → slice_get (slice_set xs t b) t ≡ Some b
set_there [] zero a b e = absurd (cc e)
set_there [] (suc t) a b e = absurd (cc e)
set_there (x ∷ xs) zero a b e = refl
set_there (x ∷ xs) (suc t) a b e = set_there xs t a b e

changed_is : (ths : List SlotThread) (t : ℕ) (f : SlotThread → SlotThread) (th : SlotThread) → slice_get ths t ≡ Some th → changed t f ths ≡ slice_set ths t (f th)
changed_is ths t f th e = ap (λ o. set_thread t f o ths) e

-- a thread that is given another term and its own again is as before
moves_back : (x : SlotState) (t : ℕ) (th : SlotThread) (st : SlotTerm) → slice_get x.threads t ≡ Some th → moves t th.term (moves t st x) ≡ x
moves_back x t th st e =
    let first = changed_is x.threads t (moving st) th e in
    let second : changed t (moving th.term) (changed t (moving st) x.threads) ≡ x.threads =
    ap (changed t (moving th.term)) first ∙ (changed_is (slice_set x.threads t (moving st th)) t (moving th.term) (moving st th) (set_there x.threads t th (moving st th) e)
    ∙ (set_twice x.threads t (moving st th) th ∙ set_same x.threads t th e)) in
    ap (λ ths. record x { threads = ths }) second

pub moved_back : (b : CodeBody) (g h : Stock) (n m k : NumberState) (t term new : ℕ) (free : IsFree n t) → term ≡ free.thread.term → slots h b m ≡ moves t (term_at h b new) (slots h b n) → slots h b k ≡ moves t (term_at h b term) (slots h b m) → slots h b n ≡ slots g b n →
    slots h b k ≡ slots g b n
moved_back b g h n m k t term new free is made undone same =
    let at = got_mapped (thread_of h b) n.threads.items t free.thread free.is in
    undone ∙ (ap (moves t (term_at h b term)) made ∙ (ap (λ z. moves t (term_at h b z) (moves t (term_at h b new) (slots h b n))) is ∙ (moves_back (slots h b n) t (thread_of h b free.thread) (term_at h b new) at ∙ same)))

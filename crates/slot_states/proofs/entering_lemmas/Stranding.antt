-- Whether all rest, and who waits at a cell and can be interrupted, found by going through the threads.
use Rattle.std.proofs.Common.{◌≡◌, ◌≢◌, ◌↔◌, ℕ, zero, suc, ◌+◌, Bool, true, false, not, ◌&&◌, ◌||◌, List, [], ◌∷◌, Some, refl, sym, ap, subst, arith, slice_get, inl, inr, ⊎_elim}
use Rattle.std.specs.Prelude.{Contains}
use Rattle.std.proofs.lemmas.Bool.{and_parts, and_from}
use Rattle.hs_base.specs.declared.mask.Mask.TheVariants.{Unmasked}
use Rattle.rules_meaning.specs.Values as val
use Rattle.rules_meaning.specs.Values.{V}
use Rattle.rules_expansion.specs.declared.primitive.Primitive.{Primitive}
use Rattle.rules_expansion.specs.declared.primitive.Primitive.TheVariants.{TakeMVar, PutMVar, ReadMVar}
use Rattle.rules_waiting.specs.Waiting.{Flying, flying_to, first_awake}
use Rattle.hs_rules.specs.Entries.{is_interruptible}
use Rattle.hs_laws.proofs.Lists.{cond_cases, cond_true, StandsIn}
use Rattle.slot_laws.specs.SlotRules.{calls, SlotPart, performs, mask_from}
use Rattle.slot_states.specs.SlotStates.{SlotThread, SlotState}
use Rattle.slot_states.specs.Resting.{is_receptive, WaitsAt, takes, reads, puts, WaitsOpen, AllRest}
use Rattle.slot_states.proofs.Places.{contains_stands, stands_contains}
use Rattle.slot_states.specs.entering.Entering.{is_empty, rests, rest_from, waits_to, waits_at_cell, waits_open, waiting_from}
use Rattle.hs_laws.proofs.cases_lemmas.Entering.{not_hard, interruptible}

-- ---- who rests

is_none : (fs : List Flying) → is_empty fs ≡ true → fs ≡ []
is_none [] e = refl
is_none (f ∷ fs) e = absurd (cc e)

rest_parts : (f b r e : Bool) → f || (b && (not r || e)) ≡ true → f ≡ false → (b ≡ true) × (r ≡ true → e ≡ true)
rest_parts true b r e h g = absurd (cc g)
rest_parts false true true true h g = (refl, λ k. refl)
rest_parts false true true false h g = absurd (cc h)
rest_parts false true false e h g = (refl, λ k. absurd (cc k))
rest_parts false false r e h g = absurd (cc h)

parts_rest : (f b r e : Bool) → (f ≡ false → b ≡ true) → (f ≡ false → r ≡ true → e ≡ true) → f || (b && (not r || e)) ≡ true
parts_rest false true true false h g = g refl refl
parts_rest false false r e h g = h refl
parts_rest _ _ _ _ h g = refl

rest_at : (fs : List Flying) (n : ℕ) (ths : List SlotThread) → rest_from fs n ths ≡ true → (t k : ℕ) (th : SlotThread) → slice_get ths t ≡ Some th → n + t ≡ k → rests fs k th ≡ true
rest_at fs n [] h t k th is e = absurd (cc is)
rest_at fs n (a ∷ ths) h zero k th is e =
    let same : n ≡ k = omega (arith, e) in
    let it : a ≡ th = cc is in
    subst (λ z. rests fs k z ≡ true) it (subst (λ z. rests fs z a ≡ true) same (and_parts (rests fs n a) (rest_from fs (suc n) ths) h).0)
rest_at fs n (a ∷ ths) h (suc t) k th is e = rest_at fs (suc n) ths (and_parts (rests fs n a) (rest_from fs (suc n) ths) h).1 t k th is (omega (arith, e))

at_rest : (fs : List Flying) (n : ℕ) (ths : List SlotThread) → ((t k : ℕ) (th : SlotThread) → slice_get ths t ≡ Some th → n + t ≡ k → rests fs k th ≡ true) → rest_from fs n ths ≡ true
at_rest fs n [] h = refl
at_rest fs n (a ∷ ths) h =
    and_from (rests fs n a) (rest_from fs (suc n) ths) (h 0 n a refl (omega arith))
    (at_rest fs (suc n) ths (λ t k th is e. h (suc t) k th is (omega (arith, e))))

-- all rest exactly where all threads are found to, where nobody sleeps
pub all_rest : (x : SlotState) → x.sleepers ≡ [] → rest_from x.flight 0 x.threads ≡ true → AllRest x
all_rest x none h = record {
  blocked = λ t th is f. (parts t th is f).0;
  unheard = λ t th is f r. is_none (flying_to t x.flight) ((parts t th is f).1 r);
  asleep = ap (first_awake x.clock) none;
}
  where
    parts : (t : ℕ) (th : SlotThread) → slice_get x.threads t ≡ Some th → th.finished ≡ false → (th.blocked ≡ true) × (is_receptive th ≡ true → is_empty (flying_to t x.flight) ≡ true)
    parts t th is f = rest_parts th.finished th.blocked (is_receptive th) (is_empty (flying_to t x.flight)) (rest_at x.flight 0 x.threads h t t th is (omega arith)) f

pub rest_all : (x : SlotState) → AllRest x → rest_from x.flight 0 x.threads ≡ true
rest_all x r = at_rest x.flight 0 x.threads (λ t k th is e. by t k th is (omega (arith, e)))
  where
    by : (t k : ℕ) (th : SlotThread) → slice_get x.threads t ≡ Some th → t ≡ k → rests x.flight k th ≡ true
    by t k th is e =
        subst (λ z. rests x.flight z th ≡ true) e
        (parts_rest th.finished th.blocked (is_receptive th) (is_empty (flying_to t x.flight)) (r.blocked t th is) (λ f c. ap is_empty (r.unheard t th is f c)))

-- ---- who waits at a cell and can be interrupted

call_waits : (p : Primitive) (vs : List V) → waits_to p vs ≡ true → (m : ℕ) × WaitsAt m (performs (calls p vs))
call_waits TakeMVar (val.Cell m ∷ []) e = (m, takes)
call_waits ReadMVar (val.Cell m ∷ []) e = (m, reads)
call_waits PutMVar (val.Cell m ∷ v ∷ []) e = (m, puts)
call_waits _ _ e = absurd (cc e)

part_waits : (p : SlotPart) → waits_at_cell p ≡ true → (m : ℕ) × WaitsAt m p
part_waits (performs (calls p vs)) e = call_waits p vs e
part_waits _ e = absurd (cc e)

waits_part : (m : ℕ) (p : SlotPart) → WaitsAt m p → waits_at_cell p ≡ true
waits_part m p takes = refl
waits_part m p reads = refl
waits_part m p puts = refl

found_open : (x : SlotState) (t : ℕ) (th : SlotThread) → slice_get x.threads t ≡ Some th → waits_open th ≡ true → WaitsOpen x t
found_open x t th is e =
    let a = and_parts th.blocked (waits_at_cell th.term.part && is_interruptible (mask_from Unmasked th.term.frames)) e in
    let b = and_parts (waits_at_cell th.term.part) (is_interruptible (mask_from Unmasked th.term.frames)) a.1 in
    let c = part_waits th.term.part b.0 in
    record { thread = th; is = is; blocked = a.0; cell = c.0; at = c.1; open_now = not_hard (mask_from Unmasked th.term.frames) b.1 }

open_found : (x : SlotState) (t : ℕ) (w : WaitsOpen x t) → waits_open w.thread ≡ true
open_found x t w =
    and_from w.thread.blocked _ w.blocked
    (and_from (waits_at_cell w.thread.term.part) (is_interruptible (mask_from Unmasked w.thread.term.frames)) (waits_part w.cell w.thread.term.part w.at) (interruptible (mask_from Unmasked w.thread.term.frames) w.open_now))

-- one of these threads, which are numbered from n, has number u and waits so
abbrev Found : ℕ → List SlotThread → ℕ → Type 0
Found n ths u = (t : ℕ) × (th : SlotThread) × (n + t ≡ u) × (slice_get ths t ≡ Some th) × (waits_open th ≡ true)

further : (n : ℕ) (a : SlotThread) (ths : List SlotThread) (u : ℕ) → Found (suc n) ths u → Found n (a ∷ ths) u
further n a ths u w = let e = w.2 in (suc w.0, w.1, omega (arith, e), w.3, w.4)

waiting_at : (n : ℕ) (ths : List SlotThread) (u : ℕ) → StandsIn u (waiting_from n ths) → Found n ths u
waiting_at n [] u h = absurd h
waiting_at n (a ∷ ths) u h =
    cond_cases (λ us. StandsIn u us → Found n (a ∷ ths) u) (waits_open a) (n ∷ waiting_from (suc n) ths) (waiting_from (suc n) ths)
    (λ b k. ⊎_elim (λ e. (0, a, omega (arith, e), refl, b)) (λ r. further n a ths u (waiting_at (suc n) ths u r)) k)
    (λ b k. further n a ths u (waiting_at (suc n) ths u k)) h

at_waiting : (n : ℕ) (ths : List SlotThread) (t u : ℕ) (th : SlotThread) → n + t ≡ u → slice_get ths t ≡ Some th → waits_open th ≡ true → StandsIn u (waiting_from n ths)
at_waiting n [] t u th e is w = absurd (cc is)
at_waiting n (a ∷ ths) zero u th e is w =
    let it : th ≡ a = cc is in
    subst (StandsIn u) (sym (cond_true (waits_open a) (n ∷ waiting_from (suc n) ths) (waiting_from (suc n) ths) (subst (λ z. waits_open z ≡ true) it w))) (inl (omega (arith, e)))
at_waiting n (a ∷ ths) (suc t) u th e is w =
    let rest = at_waiting (suc n) ths t u th (omega (arith, e)) is w in
    cond_cases (StandsIn u) (waits_open a) (n ∷ waiting_from (suc n) ths) (waiting_from (suc n) ths) (λ b. inr rest) (λ b. rest)

open_stands : (x : SlotState) (u : ℕ) → WaitsOpen x u → StandsIn u (waiting_from 0 x.threads)
open_stands x u w = at_waiting 0 x.threads u u w.thread (omega arith) w.is (open_found x u w)

stands_open : (x : SlotState) (u : ℕ) → StandsIn u (waiting_from 0 x.threads) → WaitsOpen x u
stands_open x u h =
    let w = waiting_at 0 x.threads u h in
    let e = w.2 in
    let same : w.0 ≡ u = omega (arith, e) in
    found_open x u w.1 (subst (λ z. slice_get x.threads z ≡ Some w.1) same w.3) w.4

-- those that are found are all
pub all_waiting : (x : SlotState) (ts : List ℕ) → waiting_from 0 x.threads ≡ ts → (u : ℕ) → Contains ts u ↔ WaitsOpen x u
all_waiting x ts e u = (
  λ h. stands_open x u (subst (StandsIn u) (sym e) (contains_stands ts u h)),
  λ w. stands_contains ts u (subst (StandsIn u) e (open_stands x u w)),
)

-- where somebody waits so, somebody is found
pub some_waiting : (x : SlotState) (u : ℕ) → WaitsOpen x u → waiting_from 0 x.threads ≢ []
some_waiting x u w e = subst (StandsIn u) e (open_stands x u w)

-- Exceptions in flight to a thread, and what a Receive makes of them.
use Rattle.std.proofs.Common.{◌≡◌, ℕ, ◌==◌, true, false, cond, List, [], ◌∷◌, Some, None, refl, sym, ap, ◌∙◌, subst}
use Rattle.std.specs.List.{AllByRecursion}
use Rattle.hs_base.specs.declared.exn.Exn.{Exn}
use Rattle.rules_waiting.specs.Waiting.{flying_to, first_thrown}
use Rattle.slot_states.specs.SlotStates.{SlotThread, SlotState, receives}
use Rattle.slot_states.specs.Resting.{is_receptive}
use Rattle.slot_states.specs.entering.Entering.{received, receive_entry}
use Rattle.number_states.specs.declared.waits.flight.Thrown.{Thrown}
use Rattle.number_states.specs.waits.Throwing.{thrown_to, first_of, map_flight, map_thrown}
use Rattle.number_states.proofs.waits_lemmas.Without.{flight_to}

first_mapped : (f : ℕ → Exn) (xs : List Thrown) → map_thrown f (first_of xs) ≡ first_thrown (map_flight f xs)
first_mapped f [] = refl
first_mapped f (x ∷ xs) = refl

pub first_flying : (f : ℕ → Exn) (t : ℕ) (xs : List Thrown) → first_thrown (flying_to t (map_flight f xs)) ≡ map_thrown f (first_of (thrown_to t xs))
first_flying f t xs = ap first_thrown (sym (flight_to f t xs)) ∙ sym (first_mapped f (thrown_to t xs))

all_thrown : (P : Thrown → Type 0) (t : ℕ) (xs : List Thrown) → AllByRecursion P xs → AllByRecursion P (thrown_to t xs)
all_thrown P t [] h = tt
all_thrown P t (x ∷ xs) h =
    let rest = all_thrown P t xs h.1 in
    elim (x.target == t) as (λ b. AllByRecursion P (cond b (x ∷ thrown_to t xs) (thrown_to t xs))) [ true ↦ (h.0, rest) | false ↦ rest ]

first_has : (P : Thrown → Type 0) (xs : List Thrown) (x : Thrown) → AllByRecursion P xs → first_of xs ≡ Some x → P x
first_has P [] x h e = absurd (cc e)
first_has P (y ∷ xs) x h e = let is : y ≡ x = cc e in subst P is h.0

pub first_within : (P : Thrown → Type 0) (t : ℕ) (xs : List Thrown) (x : Thrown) → AllByRecursion P xs → first_of (thrown_to t xs) ≡ Some x → P x
first_within P t xs x h e = first_has P (thrown_to t xs) x (all_thrown P t xs h) e

pub receive_closed : (t : ℕ) (th : SlotThread) (x : SlotState) → is_receptive th ≡ false → receive_entry t th x ≡ None
receive_closed t th x e = ap (λ z. cond z (received t (first_thrown (flying_to t x.flight)) x) None) e

pub receive_none : (t : ℕ) (th : SlotThread) (x : SlotState) → is_receptive th ≡ true → first_thrown (flying_to t x.flight) ≡ None → receive_entry t th x ≡ None
receive_none t th x e h = ap (λ z. cond z (received t (first_thrown (flying_to t x.flight)) x) None) e ∙ ap (λ o. received t o x) h

pub receive_first : (t : ℕ) (th : SlotThread) (x : SlotState) (w : ℕ) (e : Exn) → is_receptive th ≡ true → first_thrown (flying_to t x.flight) ≡ Some (w, e) → receive_entry t th x ≡ Some (receives t w e x)
receive_first t th x w e hears h = ap (λ z. cond z (received t (first_thrown (flying_to t x.flight)) x) None) hears ∙ ap (λ o. received t o x) h

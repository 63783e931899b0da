-- The exceptions in flight of a list are moved to another.
use Rattle.std.proofs.Common.{◌≡◌, ℕ, ◌<◌, ◌≤◌, ◌+◌, false, List, [], ◌∷◌, ◌++◌, length, take, drop, Option, Some, None, nat_eq, refl, ap, sym, subst, ◌∙◌, arith, set}
use Rattle.std.proofs.lemmas.List.{get_or-set_other, length-set, length-append, take-append-drop, append-nil}
use Rattle.std.specs.HashMap.{get}
use Rattle.std.specs.Map.{lookup}
use Rattle.hs_base.specs.declared.exn.Exn.{Exn}
use Rattle.rules_waiting.specs.Waiting.{Flying, is_throwing}
use Rattle.exn_flight.specs.declared.throws.Throw.{Throw}
use Rattle.exn_flight.specs.declared.throws.Throws.{Throws}
use Rattle.exn_flight.specs.Flights.{AreThrowers}
use Rattle.exn_flight.specs.Throwing.{throw_at, no_throw, flying, with_exn, spare_of, IsSound, IsEmpty, AreThrows, Refills}
use Rattle.exn_flight.proofs.Numbers.{distinct_front, distinct_last}
use Rattle.exn_flight.proofs.Growing.{live_within, not_none}
use Rattle.exn_flight.proofs.Flying.{flying_append, flying_more, none_live}

-- one exception more
more_of : (ts : List Throw) (i : ℕ) (e : Exn) → i < length ts → (throw_at ts i).exn ≡ Some e → flying (take (i + 1) ts) ≡ flying (take i ts) ++ record { thrower = (throw_at ts i).thrower; target = (throw_at ts i).target; exn = e } ∷ []
more_of ts i e lt x =
    flying_more ts i lt ∙ ap (λ o. flying (take i ts) ++ with_exn (throw_at ts i).thrower (throw_at ts i).target o []) x

all_of : (ts : List Throw) (i : ℕ) → flying ts ≡ flying (take i ts) ++ flying (drop i ts)
all_of ts i = ap flying (sym (take-append-drop i ts)) ∙ flying_append (take i ts) (drop i ts)

pub refill_alone : (ts us : List Throw) (n i : ℕ) (a : Throws) (e : Exn) → Refills ts us n a i → i < length ts → (throw_at us i).exn ≡ Some e → AreThrowers (flying ts) → is_throwing (throw_at us i).thrower (flying a.list.items) ≡ false
refill_alone ts us n i a e h lt x d =
    let number : Flying → ℕ = λ (f : Flying). f.thrower in
    let same = h.rest i (omega arith) in
    let f : Flying = record { thrower = (throw_at ts i).thrower; target = (throw_at ts i).target; exn = e } in
    let x' : (throw_at ts i).exn ≡ Some e = ap (λ (t : Throw). t.exn) (sym same) ∙ x in
    let front : AreThrowers (flying (take i ts) ++ f ∷ []) = subst AreThrowers (more_of ts i e lt x') (distinct_front number (flying (take (i + 1) ts)) (flying (drop (i + 1) ts)) (subst AreThrowers (all_of ts (i + 1)) d)) in
    ap (λ fs. is_throwing (throw_at us i).thrower fs) h.list ∙ ap (λ (t : Throw). is_throwing t.thrower (flying (take i ts))) same ∙ distinct_last number (flying (take i ts)) f front

pub refill_spare : (ts us : List Throw) (n i : ℕ) (a : Throws) (e : Exn) → Refills ts us n a i → i < length ts → (throw_at us i).exn ≡ Some e → length (flying ts) ≤ n → 1 ≤ spare_of a
refill_spare ts us n i a e h lt x fits =
    let same = h.rest i (omega arith) in
    let f : Flying = record { thrower = (throw_at ts i).thrower; target = (throw_at ts i).target; exn = e } in
    let x' : (throw_at ts i).exn ≡ Some e = ap (λ (t : Throw). t.exn) (sym same) ∙ x in
    let all : length (flying ts) ≡ length (flying (take (i + 1) ts)) + length (flying (drop (i + 1) ts)) = ap length (all_of ts (i + 1)) ∙ length-append (flying (take (i + 1) ts)) (flying (drop (i + 1) ts)) in
    let more : length (flying (take (i + 1) ts)) ≡ length (flying (take i ts)) + 1 = ap length (more_of ts i e lt x') ∙ length-append (flying (take i ts)) (record { thrower = (throw_at ts i).thrower; target = (throw_at ts i).target; exn = e } ∷ []) in
    omega (arith, all, more, fits, h.spare)

rest_set : (ts us : List Throw) (i : ℕ) (y : Throw) → ((k : ℕ) → i ≤ k → throw_at us k ≡ throw_at ts k) → (k : ℕ) → i + 1 ≤ k → throw_at (set us i y) k ≡ throw_at ts k
rest_set ts us i y h k le = get_or-set_other us i k y no_throw (omega (arith, le)) ∙ h k (omega (arith, le))

pub refill_some : (ts us vs : List Throw) (n i : ℕ) (a b : Throws) (y : Throw) (e : Exn) → Refills ts us n a i → i < length ts → (throw_at us i).exn ≡ Some e → vs ≡ set us i y → IsSound b
    → flying b.list.items ≡ flying a.list.items ++ record { thrower = (throw_at us i).thrower; target = (throw_at us i).target; exn = e } ∷ [] → spare_of a ≤ spare_of b + 1 → Refills ts vs n b (i + 1)
refill_some ts us vs n i a b y e h lt x is sound list spare =
    let same = h.rest i (omega arith) in
    let x' : (throw_at ts i).exn ≡ Some e = ap (λ (t : Throw). t.exn) (sym same) ∙ x in
    let more : length (flying (take (i + 1) ts)) ≡ length (flying (take i ts)) + 1 = ap length (more_of ts i e lt x') ∙ length-append (flying (take i ts)) (record { thrower = (throw_at ts i).thrower; target = (throw_at ts i).target; exn = e } ∷ []) in
    record {
      size = ap length is ∙ length-set us i y ∙ h.size;
      rest = λ k le. ap (λ ws. throw_at ws k) is ∙ rest_set ts us i y h.rest k le;
      sound = sound;
      list = list ∙ ap (λ (t : Throw). flying a.list.items ++ record { thrower = t.thrower; target = t.target; exn = e } ∷ []) same ∙ ap (λ fs. fs ++ record { thrower = (throw_at ts i).thrower; target = (throw_at ts i).target; exn = e } ∷ []) h.list ∙ sym (more_of ts i e lt x');
      spare = omega (arith, h.spare, spare, more);
    }

pub refill_none : (ts us vs : List Throw) (n i : ℕ) (a : Throws) (y : Throw) → Refills ts us n a i → i < length ts → (throw_at us i).exn ≡ None → vs ≡ set us i y → Refills ts vs n a (i + 1)
refill_none ts us vs n i a y h lt x is =
    let same = h.rest i (omega arith) in
    let x' : (throw_at ts i).exn ≡ None = ap (λ (t : Throw). t.exn) (sym same) ∙ x in
    let nothing : flying (take (i + 1) ts) ≡ flying (take i ts) = flying_more ts i lt ∙ ap (λ fs. flying (take i ts) ++ fs) (none_live (throw_at ts i) x') ∙ append-nil (flying (take i ts)) in
    record {
      size = ap length is ∙ length-set us i y ∙ h.size;
      rest = λ k le. ap (λ ws. throw_at ws k) is ∙ rest_set ts us i y h.rest k le;
      sound = h.sound;
      list = h.list ∙ sym nothing;
      spare = omega (arith, h.spare, ap length nothing);
    }

-- ---- nothing is moved yet
abbrev NoneIn : (ℕ → Option ℕ) → Type 0
NoneIn f = (q : ℕ) → f q ≡ None

sound_of : (ts : List Throw) (at first last : ℕ → Option ℕ) → ts ≡ [] → NoneIn at → NoneIn first → NoneIn last → AreThrows ts at first last
sound_of [] at first last e p q r =
    record {
      at = record { place = λ t i z. absurd (not_none (at t) i z (p t)); thrower = λ i l. (let lt = live_within [] i l in let no : ⊥ = omega (arith, lt) in absurd no) };
      first = record { some = λ u i z. absurd (not_none (first u) i z (q u)); none = λ u z k l t. (let lt = live_within [] k l in let no : ⊥ = omega (arith, lt) in no) };
      last = record { some = λ u i z. absurd (not_none (last u) i z (r u)); none = λ u z k lt t. (let no : ⊥ = omega (arith, lt) in no) };
      links = λ i lt. (let no : ⊥ = omega (arith, lt) in absurd no);
    }
sound_of (t ∷ ts) at first last e p q r = let no : ⊥ = cc in absurd no

pub sound_empty : (a : Throws) → IsEmpty a → IsSound a
sound_empty a h =
    sound_of a.list.items (get nat_eq a.throwers) (get nat_eq a.firsts) (get nat_eq a.lasts) h.list (λ t. ap (lookup (nat_eq t)) h.throwers) (λ t. ap (lookup (nat_eq t)) h.firsts) (λ t. ap (lookup (nat_eq t)) h.lasts)

pub refill_begun : (ts : List Throw) (n : ℕ) (a : Throws) → IsEmpty a → n ≡ spare_of a → Refills ts ts n a 0
refill_begun ts n a h e =
    record { size = refl; rest = λ k le. refl; sound = sound_empty a h; list = ap flying h.list; spare = omega (arith, e) }

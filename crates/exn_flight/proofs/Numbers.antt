-- Lists in which no two items have one number.
use Rattle.std.proofs.Common.{◌≡◌, ℕ, ◌==◌, true, false, cond, List, [], ◌∷◌, ◌++◌, refl, ap, ◌∙◌}
use Rattle.plain_laws.proofs.Booleans.{both_false}
use Rattle.plain_laws.proofs.Numbers.{unequal_back}
use Rattle.rules_waiting.specs.Waiting.{has, without}
use Rattle.exn_flight.specs.Numbered.{AreDistinct}

module _ {A : Type 0} (number : A → ℕ) where
  has_front : (t : ℕ) (xs ys : List A) → has number t (xs ++ ys) ≡ false → has number t xs ≡ false
  has_front t [] ys h = refl
  has_front t (x ∷ xs) ys h =
      let s = both_false (number x == t) (has number t (xs ++ ys)) h in
      ap (λ b. cond b true (has number t xs)) s.0 ∙ has_front t xs ys s.1

  pub distinct_front : (xs ys : List A) → AreDistinct number (xs ++ ys) → AreDistinct number xs
  distinct_front [] ys d = tt
  distinct_front (x ∷ xs) ys d = (has_front (number x) xs ys d.0, distinct_front xs ys d.1)

  has_end : (t : ℕ) (xs : List A) (a : A) → has number t (xs ++ a ∷ []) ≡ false → number a == t ≡ false
  has_end t [] a h = (both_false (number a == t) false h).0
  has_end t (x ∷ xs) a h = has_end t xs a (both_false (number x == t) (has number t (xs ++ a ∷ [])) h).1

  -- the last one's number is not among those before
  pub distinct_last : (xs : List A) (a : A) → AreDistinct number (xs ++ a ∷ []) → has number (number a) xs ≡ false
  distinct_last [] a d = refl
  distinct_last (x ∷ xs) a d =
      ap (λ b. cond b true (has number (number a) xs)) (unequal_back (number a) (number x) (has_end (number x) xs a d.0)) ∙ distinct_last xs a d.1

  pub without_absent : (t : ℕ) (xs : List A) → has number t xs ≡ false → without number t xs ≡ xs
  without_absent t [] h = refl
  without_absent t (x ∷ xs) h =
      let s = both_false (number x == t) (has number t xs) h in
      ap (λ b. cond b (without number t xs) (x ∷ without number t xs)) s.0 ∙ ap (λ ys. x ∷ ys) (without_absent t xs s.1)

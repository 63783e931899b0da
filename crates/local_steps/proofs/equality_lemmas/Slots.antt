-- Lists of one length with equal items at each place are equal.
use Rattle.std.proofs.Common.{◌≡◌, ℕ, suc, ◌<◌, List, [], ◌∷◌, length, slice_get, refl, ap₂}
use Rattle.std.proofs.lemmas.Option.{same_Some}
use native.Mathlib.Omega.{arith}

pub same_at_each : {X : Type 0} (xs ys : List X) → length xs ≡ length ys → ((k : ℕ) → k < length xs → slice_get xs k ≡ slice_get ys k) → xs ≡ ys
same_at_each [] [] e h = refl
same_at_each [] (y ∷ ys) e h = absurd (omega arith)
same_at_each (x ∷ xs) [] e h = absurd (omega arith)
same_at_each (x ∷ xs) (y ∷ ys) e h = ap₂ (λ z zs. z ∷ zs) (same_Some x y (h 0 (omega arith))) (same_at_each xs ys (omega arith) (λ k l. h (suc k) (omega arith)))

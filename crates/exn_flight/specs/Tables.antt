-- Tables as functions from a thread's number to a place.
use Rattle.std.specs.Prelude.{◌≡◌, ℕ, ◌==◌, cond, Option, Some, None}

-- the second is the first with this at the thread
abbrev pub IsPut : (ℕ → Option ℕ) → (ℕ → Option ℕ) → ℕ → Option ℕ → Type 0
IsPut f g t o = (q : ℕ) → g q ≡ cond (t == q) o (f q)

-- what was there, or this place
abbrev pub or_place : Option ℕ → ℕ → Option ℕ
or_place None place = Some place
or_place (Some old) place = Some old

abbrev pub IsPutFirst : (ℕ → Option ℕ) → (ℕ → Option ℕ) → ℕ → ℕ → Type 0
IsPutFirst f g t place = IsPut f g t (or_place (f t) place)

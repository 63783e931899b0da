-- Tests on numbers.
use Rattle.std.proofs.Common.{◌≡◌, ℕ, ◌+◌, ◌<◌, ◌==◌, nat_le, true, false, ◌⊎◌, arith}

-- numbers that differ do so the other way round
pub unequal_back : (a b : ℕ) → a == b ≡ false → b == a ≡ false
unequal_back a b h = grind arith

-- of two numbers one is at most the other
pub le_back : (a b : ℕ) → nat_le a b ≡ false → nat_le b a ≡ true
le_back a b h = grind arith

pub le_itself : (a : ℕ) → nat_le a a ≡ true
le_itself a = grind arith

-- below one more is below, or the last
pub below_or_last : (i n : ℕ) → i < n + 1 → (i < n) ⊎ (i ≡ n)
below_or_last i n h = grind arith

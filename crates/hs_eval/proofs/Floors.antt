-- Quotients and rests by a negative number.
use Rattle.std.proofs.Common.{◌≡◌, ◌≢◌, ℕ, zero, suc, ◌-◌, ◌/◌, ◌%◌, ◌<◌, ◌≤◌, true, false, ℤ, pos, negsuc, neg_ℤ, ◌<ℤ◌, refl, ap, ◌∙◌, sym, subst, arith, w64, FitsSigned, to_z, of_z}
use Rattle.std.specs.Int.{w128}
use Rattle.std.proofs.lemmas.Int.{ints}
use Rattle.std.proofs.Math.Facts.{to_z-of_z}
use Rattle.std.proofs.Math.Nat.{div-le_self, div-lt_self}
use Rattle.std.specs.Int.{int_div_euclid, int_rem_euclid}
use Rattle.rules_meaning.specs.Meaning.{floor_by, rest_by, floor_quotient, floor_rest, has_no_quotient}

by_positive : (z : ℤ) (k : ℕ) → int_div_euclid z (pos k) ≡ floor_by z k
by_positive (pos m) k = refl
by_positive (negsuc m) k = refl

rest_by_positive : (z : ℤ) (k : ℕ) → int_rem_euclid z (pos k) ≡ rest_by z k
rest_by_positive (pos m) k = refl
rest_by_positive (negsuc m) k = refl

pub negative_quotient : (a b : ℤ) → b <ℤ pos 0 → int_div_euclid (neg_ℤ a) (neg_ℤ b) ≡ floor_quotient a b
negative_quotient a (pos k) h = absurd (omega (arith, ints))
negative_quotient a (negsuc k) h = by_positive (neg_ℤ a) (suc k)

pub negative_rest : (a b : ℤ) → b <ℤ pos 0 → neg_ℤ (int_rem_euclid (neg_ℤ a) (neg_ℤ b)) ≡ floor_rest a b
negative_rest a (pos k) h = absurd (omega (arith, ints))
negative_rest a (negsuc k) h = ap neg_ℤ (rest_by_positive (neg_ℤ a) (suc k))

fits_pos : (n : ℕ) → n < 9223372036854775808 → FitsSigned w64 (pos n)
fits_pos n h = omega (arith, ints)

fits_negsuc : (n : ℕ) → n < 9223372036854775808 → FitsSigned w64 (negsuc n)
fits_negsuc n h = omega (arith, ints)

fits_negative : (n : ℕ) → n ≤ 9223372036854775808 → FitsSigned w64 (neg_ℤ (pos n))
fits_negative zero h = fits_pos 0 (omega arith)
fits_negative (suc n) h = fits_negsuc n (omega arith)

pos_below : (n : ℕ) → FitsSigned w64 (pos n) → n < 9223372036854775808
pos_below n f = omega (arith, ints)

negsuc_below : (n : ℕ) → FitsSigned w64 (negsuc n) → n < 9223372036854775808
negsuc_below n f = omega (arith, ints)

not_least : (m : ℕ) → has_no_quotient (negsuc m) (negsuc 0) ≡ false → m ≢ 9223372036854775807
not_least m h e = let z : true ≡ false = subst (λ k. has_no_quotient (negsuc k) (negsuc 0) ≡ false) e h in cc

pub quotient_fits : (a b : ℤ) → FitsSigned w64 a → has_no_quotient a b ≡ false → b <ℤ pos 0 → FitsSigned w64 (floor_quotient a b)
quotient_fits a (pos k) f h l = absurd (omega (arith, ints))
quotient_fits (pos zero) (negsuc k) f h l = fits_pos (0 / suc k) (let d = div-le_self 0 (suc k) in omega (arith, d))
quotient_fits (pos (suc m)) (negsuc k) f h l = fits_negsuc (m / suc k) (let d = div-le_self m (suc k) in let g = pos_below (suc m) f in omega (arith, d, g))
quotient_fits (negsuc m) (negsuc zero) f h l = fits_pos (suc m / 1) (let d = div-le_self (suc m) 1 in let g = negsuc_below m f in let n = not_least m h in omega (arith, d, g, n))
quotient_fits (negsuc m) (negsuc (suc k)) f h l = fits_pos (suc m / suc (suc k)) (let d = div-lt_self {n = suc m} {k = suc (suc k)} (omega arith) (omega arith) in let g = negsuc_below m f in omega (arith, d, g))

pub rest_fits : (a b : ℤ) → FitsSigned w64 b → b <ℤ pos 0 → FitsSigned w64 (floor_rest a b)
rest_fits a (pos k) f l = absurd (omega (arith, ints))
rest_fits (pos zero) (negsuc k) f l = fits_negative (0 % suc k) (let g = negsuc_below k f in omega (arith, g))
rest_fits (pos (suc m)) (negsuc k) f l = fits_negative (suc k - 1 - m % suc k) (let g = negsuc_below k f in omega (arith, g))
rest_fits (negsuc m) (negsuc k) f l = fits_negative (suc m % suc k) (let g = negsuc_below k f in omega (arith, g))

fits_wide : (z : ℤ) → FitsSigned w64 z → FitsSigned w128 z
fits_wide z f = omega (arith, ints)

fits_wide_negative : (z : ℤ) → FitsSigned w64 z → FitsSigned w128 (neg_ℤ z)
fits_wide_negative z f = omega (arith, ints)

-- the quotient as the code computes it, through 128 bits
pub computed_quotient : (a b x y q : ℤ) → FitsSigned w64 a → FitsSigned w64 b → has_no_quotient a b ≡ false → b <ℤ pos 0 → x ≡ neg_ℤ a → y ≡ neg_ℤ b
    → q ≡ int_div_euclid x y → to_z w64 (of_z w64 (to_z w128 (of_z w128 q))) ≡ floor_quotient a b
computed_quotient a b x y q fa fb h l ex ey eq =
    let e : q ≡ floor_quotient a b = eq ∙ (ap (λ z. int_div_euclid z y) ex ∙ (ap (int_div_euclid (neg_ℤ a)) ey ∙ negative_quotient a b l)) in
    let f : FitsSigned w64 q = subst (FitsSigned w64) (sym e) (quotient_fits a b fa h l) in
    ap (λ z. to_z w64 (of_z w64 z)) (to_z-of_z (fits_wide q f)) ∙ (to_z-of_z f ∙ e)

-- what is left as the code computes it
pub computed_rest : (a b x y r s : ℤ) → FitsSigned w64 a → FitsSigned w64 b → b <ℤ pos 0 → x ≡ neg_ℤ a → y ≡ neg_ℤ b
    → r ≡ int_rem_euclid x y → s ≡ neg_ℤ r → to_z w64 (of_z w64 (to_z w128 (of_z w128 s))) ≡ floor_rest a b
computed_rest a b x y r s fa fb l ex ey er es =
    let e : s ≡ floor_rest a b = es ∙ (ap neg_ℤ (er ∙ (ap (λ z. int_rem_euclid z y) ex ∙ ap (int_rem_euclid (neg_ℤ a)) ey)) ∙ negative_rest a b l) in
    let f : FitsSigned w64 s = subst (FitsSigned w64) (sym e) (rest_fits a b fb l) in
    ap (λ z. to_z w64 (of_z w64 z)) (to_z-of_z (fits_wide s f)) ∙ (to_z-of_z f ∙ e)

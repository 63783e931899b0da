-- The number that digits write, digit by digit.
use Rattle.std.proofs.Common.{◌≡◌, ℕ, zero, suc, ◌+◌, ◌-◌, ◌*◌, ◌<◌, ◌≤◌, ◌/◌, List, [], ◌∷◌, ◌++◌, length, take, drop, get_or, true, ◌&&◌, leb, refl, sym, ap, ◌∙◌, arith}
use Rattle.std.specs.List.{list_all}
use Rattle.std.specs.Char.{is_ascii_digit}
use Rattle.std.proofs.lemmas.Bool.{and_parts, leb-true}
use Rattle.std.proofs.lemmas.List.{take_more, take-append-drop}
use Rattle.rules_tokens.specs.Tokens.{number_from, number_of, greatest_number}

number_from-append : (n : ℕ) (xs ys : List ℕ) → number_from n (xs ++ ys) ≡ number_from (number_from n xs) ys
number_from-append n [] ys = refl
number_from-append n (x ∷ xs) ys = number_from-append (10 * n + (x - 48)) xs ys

number_from-ge : (n : ℕ) (xs : List ℕ) → n ≤ number_from n xs
number_from-ge n [] = omega arith
number_from-ge n (x ∷ xs) = let h : 10 * n + (x - 48) ≤ number_from (10 * n + (x - 48)) xs = number_from-ge (10 * n + (x - 48)) xs in omega arith

pub number_more : (xs : List ℕ) (i c : ℕ) → i < length xs → get_or xs i 0 ≡ c → number_of (take (i + 1) xs) ≡ 10 * number_of (take i xs) + (c - 48)
number_more xs i c more e =
    let next : take (i + 1) xs ≡ take i xs ++ c ∷ [] = take_more xs i 0 more ∙ ap (λ z. take i xs ++ z ∷ []) e in
    ap number_of next ∙ number_from-append 0 (take i xs) (c ∷ [])

pub number_front : (xs : List ℕ) (i : ℕ) → number_of (take i xs) ≤ number_of xs
number_front xs i =
    let all : number_of xs ≡ number_from (number_of (take i xs)) (drop i xs) = ap number_of (sym (take-append-drop i xs)) ∙ number_from-append 0 (take i xs) (drop i xs) in
    let ge : number_of (take i xs) ≤ number_from (number_of (take i xs)) (drop i xs) = number_from-ge (number_of (take i xs)) (drop i xs) in
    omega (arith, all, ge)

pub digit_at : (xs : List ℕ) (i c : ℕ) → list_all is_ascii_digit xs ≡ true → i < length xs → get_or xs i 0 ≡ c → (48 ≤ c) × (c ≤ 57)
digit_at [] i c all more e = absurd (omega arith)
digit_at (x ∷ xs) zero c all more e =
    let digit : (leb 48 x && leb x 57) ≡ true = (and_parts _ _ all).0 in
    let both = and_parts (leb 48 x) (leb x 57) digit in
    let low : 48 ≤ x = leb-true 48 x both.0 in
    let high : x ≤ 57 = leb-true x 57 both.1 in
    (omega (arith, e), omega (arith, e))
digit_at (x ∷ xs) (suc i) c all more e = digit_at xs i c ((and_parts _ _ all).1) (omega arith) e

-- the test of the code
pub too_big : (value digit : ℕ) → digit ≤ 9 → (9223372036854775807 - digit) / 10 < value → greatest_number < 10 * value + digit
too_big value digit d h = omega arith

pub still_fits : (value digit : ℕ) → digit ≤ 9 → value ≤ (9223372036854775807 - digit) / 10 → 10 * value + digit ≤ greatest_number
still_fits value digit d h = omega arith

-- Numbers at the begin of some bytes.
use Rattle.std.proofs.Common.{◌≡◌, ◌≢◌, ℕ, zero, suc, ◌<◌, ◌≤◌, ◌^◌, List, ◌∷◌, ◌++◌, length, take, drop, get_or, sym, ap, ◌∙◌, subst, arith, ⊎_elim}
use Rattle.std.specs.Fmt.{decimal}
use Rattle.std.specs.Prelude.{Result, Ok, Err, None, MatchResult}
use Rattle.std.specs.Result.{OkIff, result_ok}
use Rattle.std.specs.Str.{IsUtf8}
use Rattle.std.proofs.lemmas.Str.{IsUtf8-from_ascii}
use Rattle.std.specs.Str.Parse.{AllDigits, digits_value}
use Rattle.std.proofs.lemmas.Fmt.{decimal_is_IsNumeral, first_decimal, decimal_digit, decimal-digits_value, IsAscii-from_digits}
use Rattle.std.proofs.lemmas.Bool.{cases_lt}
use Rattle.std.proofs.lemmas.List.{take-append-drop}
use Rattle.std.proofs.Math.Seq.{take-append_seam, drop-append_seam}
use Rattle.std.proofs.lemmas.Str.Parse.{IsNumeralModel, numerals_by_value, tells_digits}
use Rattle.trace_text.specs.Fields.{EndsNumber, HasNumberForm, ReadsNumber}
use Rattle.trace_text.proofs.Digits.{DigitsEnd, digits_apart}

-- std's digits, as std's own words
pub own : IsNumeralModel (AllDigits 10) (digits_value 10)
own = numerals_by_value (AllDigits 10) tells_digits

-- a number of 32 bits is one of 64
pub wider : (bytes : List ℕ) (n : ℕ) (rest : List ℕ) → ReadsNumber 32 bytes n rest → ReadsNumber 64 bytes n rest
wider bytes n rest r = record { fits = let f : n < 2 ^ 32 = r.fits in omega arith; spelled = r.spelled; ends = r.ends }

-- bytes begin with one number
pub one_number : (bytes : List ℕ) (m n : ℕ) (x y : List ℕ) → ReadsNumber 64 bytes m x → ReadsNumber 64 bytes n y → (m ≡ n) × (x ≡ y)
one_number bytes m n x y r s =
    let a = decimal_is_IsNumeral m r.fits in
    let b = decimal_is_IsNumeral n s.fits in
    let same : 32 ∷ (decimal m ++ x) ≡ 32 ∷ (decimal n ++ y) = sym r.spelled ∙ s.spelled in
    let tails : decimal m ++ x ≡ decimal n ++ y = cc in
    let both = digits_apart (decimal m) (decimal n) x y a.0.1 b.0.1 r.ends s.ends tails in
    (sym a.1 ∙ (ap (digits_value 10) both.0 ∙ b.1), both.1)

-- a number of more than one digit doesn't begin with a zero
lead : (n : ℕ) → n < 2 ^ 64 → 1 < length (decimal n) → get_or (decimal n) 0 0 ≢ 48
lead zero small more first = omega (arith, ap length (decimal_digit 0 (omega arith)))
lead (suc n) small more first = omega (arith, first_decimal (suc n) (omega arith) small)

one : (len : ℕ) → 0 < len → (1 < len → ⊥) → len ≡ 1
one len some few = ⊎_elim (λ (h : 1 < len). absurd (few h)) (λ (h : len ≤ 1). let r : len ≡ 1 = omega arith in r) (cases_lt 1 len)

front_is : (tail : List ℕ) (len : ℕ) (d : DigitsEnd tail len) → take len tail ≡ d.front
front_is tail len d = ap (take len) d.whole ∙ (ap (λ k. take k (d.front ++ d.after)) (sym d.long) ∙ take-append_seam d.front d.after)

back_is : (tail : List ℕ) (len : ℕ) (d : DigitsEnd tail len) → drop len tail ≡ d.after
back_is tail len d = ap (drop len) d.whole ∙ (ap (λ k. drop k (d.front ++ d.after)) (sym d.long) ∙ drop-append_seam d.front d.after)

-- the longest front of digits is all digits
pub front_digits : (tail : List ℕ) (len : ℕ) → DigitsEnd tail len → AllDigits 10 (take len tail)
front_digits tail len d = subst (AllDigits 10) (sym (front_is tail len d)) d.digits

-- the digits of a number that the bytes begin with are their longest front of digits
pub number_digits : (bytes tail : List ℕ) (len n : ℕ) (rest : List ℕ) → bytes ≡ 32 ∷ tail → DigitsEnd tail len → ReadsNumber 64 bytes n rest → take len tail ≡ decimal n
number_digits bytes tail len n rest e d r =
    let b = decimal_is_IsNumeral n r.fits in
    let same : 32 ∷ tail ≡ 32 ∷ (decimal n ++ rest) = sym e ∙ r.spelled in
    let tails : tail ≡ decimal n ++ rest = cc in
    let both = digits_apart d.front (decimal n) d.after rest d.digits b.0.1 d.ends r.ends (sym d.whole ∙ tails) in
    front_is tail len d ∙ both.0

-- the digits of a number have its form
pub number_form : (digits : List ℕ) (n : ℕ) → n < 2 ^ 64 → digits ≡ decimal n → HasNumberForm digits
number_form digits n small e =
    let b = decimal_is_IsNumeral n small in
    let same : length digits ≡ length (decimal n) = ap length e in
    (omega (arith, b.0.0), λ more zero. lead n small (omega arith) (ap (λ ds. get_or ds 0 0) (sym e) ∙ zero))

-- digits of that form are a number
pub number_of_digits : (bytes tail : List ℕ) (len n : ℕ) → bytes ≡ 32 ∷ tail → DigitsEnd tail len → HasNumberForm (take len tail) → n ≡ digits_value 10 (take len tail) → n < 2 ^ 64 → ReadsNumber 64 bytes n (drop len tail)
number_of_digits bytes tail len n e d form is small =
    let fits : digits_value 10 (take len tail) < 2 ^ 64 = omega (arith, is) in
    let spelled : decimal (digits_value 10 (take len tail)) ≡ take len tail =
    decimal-digits_value own (take len tail) (front_digits tail len d) form.0 (λ zero. one (length (take len tail)) form.0 (λ more. form.1 more zero)) fits in
    record {
      fits = small;
      spelled = e ∙ ap (λ z. 32 ∷ z) (sym (take-append-drop len tail) ∙ ap (λ z. z ++ drop len tail) (sym spelled ∙ ap decimal (sym is)));
      ends = subst EndsNumber (sym (back_is tail len d)) d.ends;
    }

-- digits are UTF-8
pub no_digits : {A E : Type 0} (r : Result A E) (P : A → Type 0) (Q : E → Type 0) (U : Type 0) → MatchResult r P (λ e. ¬ U × Q e) → U → result_ok r ≡ None → ⊥
no_digits (Ok x) P Q U h u e = cc
no_digits (Err x) P Q U h u e = h.0 u

pub digits_are_text : (digits : List ℕ) → AllDigits 10 digits → IsUtf8 digits
digits_are_text digits d = IsUtf8-from_ascii digits (IsAscii-from_digits digits d)

pub none_ok : {A E : Type 0} (r : Result A E) (P : Type 0) (v : A) → OkIff r P v → result_ok r ≡ None → P → ⊥
none_ok (Ok x) P v h e q = cc
none_ok (Err x) P v h e q = h q

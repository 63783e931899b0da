-- Digits at the begin of some bytes.
use Rattle.std.proofs.Common.{◌≡◌, ℕ, ◌+◌, ◌<◌, ◌≤◌, List, [], ◌∷◌, ◌++◌, length, true, false, not, Option, refl, sym, ap, ◌∙◌, subst, arith, ⊎_elim}
use Rattle.std.specs.Char.{is_ascii_digit, digit_value}
use Rattle.std.specs.List.{prefix_len, position}
use Rattle.std.specs.Option.{unwrap_or}
use Rattle.std.specs.Str.Parse.{AllDigits}
use Rattle.std.proofs.lemmas.Bool.{cases_Bool, cond-true, cond-false}
use Rattle.std.proofs.lemmas.Bool.Decides.{nat_tests}
use Rattle.plain_laws.proofs.Lists.{until, prefix_not_not}
use Rattle.trace_text.specs.Fields.{EndsNumber}

-- digits go so far, and no further
pub record DigitsEnd (bytes : List ℕ) (len : ℕ) : Type 0 where
  pub front : List ℕ
  pub after : List ℕ
  pub whole : bytes ≡ front ++ after
  pub long : length front ≡ len
  pub digits : AllDigits 10 front
  pub ends : EndsNumber after

digit_true : (b : ℕ) → is_ascii_digit b ≡ true → digit_value b < 10
digit_true b e = grind (arith, nat_tests)

digit_false : (b : ℕ) → is_ascii_digit b ≡ false → 10 ≤ digit_value b
digit_false b e = grind (arith, nat_tests)

longer : (b : ℕ) (bs : List ℕ) (n : ℕ) → is_ascii_digit b ≡ true → DigitsEnd bs n → DigitsEnd (b ∷ bs) (1 + n)
longer b bs n e r = record {
  front = b ∷ r.front;
  after = r.after;
  whole = ap (λ z. b ∷ z) r.whole;
  long = let l : length r.front ≡ n = r.long in omega arith;
  digits = (digit_true b e, r.digits);
  ends = r.ends;
}

none : (b : ℕ) (bs : List ℕ) → is_ascii_digit b ≡ false → DigitsEnd (b ∷ bs) 0
none b bs e = record { front = []; after = b ∷ bs; whole = refl; long = refl; digits = tt; ends = digit_false b e }

prefix_ends : (bs : List ℕ) → DigitsEnd bs (prefix_len is_ascii_digit bs)
prefix_ends [] = record { front = []; after = []; whole = refl; long = refl; digits = tt; ends = tt }
prefix_ends (b ∷ bs) =
    ⊎_elim (λ (e : is_ascii_digit b ≡ true). subst (DigitsEnd (b ∷ bs)) (sym (cond-true (is_ascii_digit b) (1 + prefix_len is_ascii_digit bs) 0 e)) (longer b bs (prefix_len is_ascii_digit bs) e (prefix_ends bs)))
    (λ (e : is_ascii_digit b ≡ false). subst (DigitsEnd (b ∷ bs)) (sym (cond-false (is_ascii_digit b) (1 + prefix_len is_ascii_digit bs) 0 e)) (none b bs e))
    (cases_Bool (is_ascii_digit b))

-- where the code finds that digits end
pub digits_end : (bytes : List ℕ) (found : Option ℕ) (len : ℕ) → found ≡ position (λ b. not (is_ascii_digit b)) bytes → len ≡ unwrap_or found (length bytes) → DigitsEnd bytes len
digits_end bytes found len e f =
    subst (DigitsEnd bytes) (sym (f ∙ (ap (λ z. unwrap_or z (length bytes)) e ∙ (until (λ b. not (is_ascii_digit b)) bytes ∙ prefix_not_not is_ascii_digit bytes)))) (prefix_ends bytes)

-- bytes have one longest front of digits
pub digits_apart : (ds es x y : List ℕ) → AllDigits 10 ds → AllDigits 10 es → EndsNumber x → EndsNumber y → ds ++ x ≡ es ++ y → (ds ≡ es) × (x ≡ y)
digits_apart [] [] x y d e ex ey h = (refl, h)
digits_apart [] (b ∷ bs) x y d e ex ey h = let late : EndsNumber (b ∷ (bs ++ y)) = subst EndsNumber h ex in absurd (omega (arith, e.0, late))
digits_apart (b ∷ bs) [] x y d e ex ey h = let late : EndsNumber (b ∷ (bs ++ x)) = subst EndsNumber (sym h) ey in absurd (omega (arith, d.0, late))
digits_apart (b ∷ bs) (c ∷ cs) x y d e ex ey h =
    let tail : bs ++ x ≡ cs ++ y = cc in
    let head : b ≡ c = cc in
    let both = digits_apart bs cs x y d.1 e.1 ex ey tail in
    (let fronts : bs ≡ cs = both.0 in cc, both.1)

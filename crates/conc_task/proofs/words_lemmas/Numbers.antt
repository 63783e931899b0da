-- What the getters of numbers read.
use Rattle.std.proofs.Common.{◌≡◌, ◌∙◌, ◌<◌, ◌≤◌, cond, ◌^◌, ◌&&◌, ℕ, Bool, true, false, List, [], ◌∷◌, Option, Some, None, Result, Ok, Err, length, refl, sym, ap, nat_lt, lt-ltb, ltb-true, true≢false}
use Rattle.std.specs.Prelude.{option_and_then, pos}
use Rattle.std.specs.List.{list_all}
use Rattle.std.specs.Char.{digit_value}
use Rattle.std.specs.Str.Parse.{AllDigits, IsNumeral, ParsesUnsigned, digits_value, without_leading_plus}
use Rattle.std.proofs.lemmas.Bool.{and_parts}
use Rattle.clap.specs.Words.{ReadsOne, without_minus}
use Rattle.clap.specs.ValueTests.{accepts, is_numeral}
use Rattle.clap.specs.declared.builder.value_parser.ValueParser.TheVariants as parser
use Rattle.clap.proofs.CallerReads.{signed_reads}
use Rattle.clap.proofs.ValueTestLemmas.{accepts-Accepts}
use Rattle.conc_task.specs.words.Commands.{written}

digits_pass : (ds : List ℕ) → AllDigits 10 ds → list_all (λ d. nat_lt (digit_value d) 10) ds ≡ true
digits_pass [] h = refl
digits_pass (d ∷ ds) h = rw (lt-ltb (digit_value d) 10 h.0) (digits_pass ds h.1)

digits_from : (ds : List ℕ) → list_all (λ d. nat_lt (digit_value d) 10) ds ≡ true → AllDigits 10 ds
digits_from [] e = tt
digits_from (d ∷ ds) e =
    let parts = and_parts _ _ e in
    (ltb-true _ _ parts.0, digits_from ds parts.1)

pub numeral_passes : (ds : List ℕ) → IsNumeral 10 ds → is_numeral ds ≡ true
numeral_passes ds h = rw (lt-ltb 0 (length ds) h.0) (digits_pass ds h.1)

pub numeral_from : (ds : List ℕ) → is_numeral ds ≡ true → IsNumeral 10 ds
numeral_from ds e =
    let parts = and_parts _ _ e in
    (ltb-true _ _ parts.0, digits_from ds parts.1)

-- a text read at an unsigned type is the number that it writes
read_ok : (E : Type 0) (bits : ℕ) (text : List ℕ) (n : ℕ) → ParsesUnsigned {E = E} bits 10 text (Ok n) → Some n ≡ written bits text
read_ok E bits text n h = rw (numeral_passes (without_leading_plus text) h.0.0, lt-ltb (digits_value 10 (without_leading_plus text)) (2 ^ bits) h.0.1) (ap Some h.1)

-- and where it is refused it writes none that the type holds
read_err : {E : Type 0} (bits : ℕ) (text : List ℕ) (e : E) → ParsesUnsigned bits 10 text (Err e) → None ≡ written bits text
read_err bits text e h = go (is_numeral (without_leading_plus text) && nat_lt (digits_value 10 (without_leading_plus text)) (2 ^ bits)) refl
  where
    go : (b : Bool) → (is_numeral (without_leading_plus text) && nat_lt (digits_value 10 (without_leading_plus text)) (2 ^ bits)) ≡ b → None ≡ written bits text
    go false t = rw t refl
    go true t =
        let parts = and_parts _ _ t in
        absurd (h (numeral_from _ parts.0, ltb-true _ _ parts.1))

-- and so `get_one` gives the number that an entry writes
pub got_is : (E : Type 0) (G : List ℕ → Result ℕ E → Type 0) (bits : ℕ) (entry : Option (List ℕ)) (got : Option ℕ)
    → ((u : List ℕ) (r : Result ℕ E) → G u r → ParsesUnsigned bits 10 u r)
    → (entry ≡ None → got ≡ None) → ((t : List ℕ) → entry ≡ Some t → ReadsOne G t got) → got ≡ option_and_then (written bits) entry
got_is E G bits None got only none some = none refl
got_is E G bits (Some t) got only none some = go got (some t refl)
  where
    go : (o : Option ℕ) → ReadsOne G t o → o ≡ written bits t
    go (Some n) h = read_ok E bits t n (only t (Ok n) h)
    go None h = read_err bits t h.0 (only t (Err h.0) h.1)

-- a text that passed a range with no negative number writes a number in it
pub range_is : (bits low high : ℕ) (ignore_case : Bool) (text : List ℕ) → high < 2 ^ bits → accepts ignore_case (parser.Signed (pos low) (pos high)) text ≡ true
    → (n : ℕ) × (written bits (without_minus text) ≡ Some n) × (low ≤ n) × (n ≤ high)
range_is bits low high ignore_case text fits e =
    signed_reads ℕ (λ u r. ParsesUnsigned bits 10 u r) bits low high text (written bits (without_minus text)) (reads (without_minus text)) (λ u r g. g) fits
    (accepts-Accepts ignore_case (parser.Signed (pos low) (pos high)) text e)
  where
    reads : (t : List ℕ) → ReadsOne {E = ℕ} (λ u r. ParsesUnsigned bits 10 u r) t (written bits t)
    reads t = go (is_numeral (without_leading_plus t) && nat_lt (digits_value 10 (without_leading_plus t)) (2 ^ bits)) refl
      where
        none : (IsNumeral 10 (without_leading_plus t) × (digits_value 10 (without_leading_plus t) < 2 ^ bits)) → (is_numeral (without_leading_plus t) && nat_lt (digits_value 10 (without_leading_plus t)) (2 ^ bits)) ≡ true
        none h = rw (numeral_passes (without_leading_plus t) h.0, lt-ltb (digits_value 10 (without_leading_plus t)) (2 ^ bits) h.1) refl

        go : (b : Bool) → (is_numeral (without_leading_plus t) && nat_lt (digits_value 10 (without_leading_plus t)) (2 ^ bits)) ≡ b
            → ReadsOne {E = ℕ} (λ u r. ParsesUnsigned bits 10 u r) t (cond b (Some (digits_value 10 (without_leading_plus t))) None)
        go true e =
            let parts = and_parts _ _ e in
            ((numeral_from _ parts.0, ltb-true _ _ parts.1), refl)
        go false e = (0, λ h. true≢false (sym (none h) ∙ e))

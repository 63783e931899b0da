use Rattle.std.proofs.Common.{◌≡◌, ◌∷◌, take, drop, refl, true, false, sym, ap, ◌∙◌, subst, arith}
use Rattle.std.specs.Str.Parse.{AllDigits}
use Rattle.std.specs.Str.Parse.{digits_value}
use Rattle.std.specs.Fmt.{decimal}
use Rattle.std.proofs.lemmas.Fmt.{decimal_is_IsNumeral}
use Rattle.trace_text.specs.Fields.{HasNumberForm, ReadsNumber}
use Rattle.trace_text.proofs.Digits.{digits_end}
use Rattle.trace_text.proofs.Numbers.{front_digits, number_digits, number_form, number_of_digits}
use Rattle.trace_text.proofs.number.number_at.Goals as goal

pub returns-then-not-has_number_form : goal.returns-then-not-has_number_form
returns-then-not-has_number_form c n rest r =
    let tail = c.in_ok-blank.bytes.now in
    let blank : c.in_ok-blank.blank.now ≡ 32 = omega arith in
    let is : c.args.bytes.now ≡ 32 ∷ tail = c.in_ok-blank.ensures.cases.0 ∙ ap (λ z. z ∷ tail) blank in
    let d = digits_end tail c.digits_end.result c.unwrap_or-len.result c.digits_end.ensures c.unwrap_or-len.ensures in
    let same : c.split_at.result.0.now ≡ decimal n = c.split_at.ensures.front ∙ number_digits c.args.bytes.now tail c.unwrap_or-len.result n rest is d r in
    let no : false ≡ true = c.if-not-has_number_form.ensures.1 (number_form c.split_at.result.0.now n r.fits same) in
    cc

pub value-requires-clause-digits : goal.value-requires-clause-digits
value-requires-clause-digits c =
    let tail = c.in_ok-blank.bytes.now in
    let d = digits_end tail c.digits_end.result c.unwrap_or-len.result c.digits_end.ensures c.unwrap_or-len.ensures in
    subst (AllDigits 10) (sym c.split_at.ensures.front) (front_digits tail c.unwrap_or-len.result d)

pub returns-in_err-value : goal.returns-in_err-value
returns-in_err-value c =
    rw c.from_residual-in_err-value.ensures
    (λ n rest r.
    let tail = c.in_ok-blank.bytes.now in
    let blank : c.in_ok-blank.blank.now ≡ 32 = omega arith in
    let is : c.args.bytes.now ≡ 32 ∷ tail = c.in_ok-blank.ensures.cases.0 ∙ ap (λ z. z ∷ tail) blank in
    let d = digits_end tail c.digits_end.result c.unwrap_or-len.result c.digits_end.ensures c.unwrap_or-len.ensures in
    let same : c.split_at.result.0.now ≡ decimal n = c.split_at.ensures.front ∙ number_digits c.args.bytes.now tail c.unwrap_or-len.result n rest is d r in
    let whole : digits_value 10 c.split_at.result.0.now ≡ n = ap (digits_value 10) same ∙ (decimal_is_IsNumeral n r.fits).1 in
    omega (arith, c.in_err-value.ensures, whole, r.fits))

pub returns : goal.returns
returns c =
    let tail = c.in_ok-blank.bytes.now in
    let blank : c.in_ok-blank.blank.now ≡ 32 = omega arith in
    let is : c.args.bytes.now ≡ 32 ∷ tail = c.in_ok-blank.ensures.cases.0 ∙ ap (λ z. z ∷ tail) blank in
    let d = digits_end tail c.digits_end.result c.unwrap_or-len.result c.digits_end.ensures c.unwrap_or-len.ensures in
    let form : HasNumberForm c.split_at.result.0.now = c.if-not-has_number_form.ensures.0 refl in
    let value : c.in_ok-value.field-0 ≡ digits_value 10 (take c.unwrap_or-len.result tail) = c.in_ok-value.ensures ∙ ap (digits_value 10) c.split_at.ensures.front in
    let read : ReadsNumber 64 c.args.bytes.now c.in_ok-value.field-0 (drop c.unwrap_or-len.result tail) =
    number_of_digits c.args.bytes.now tail c.unwrap_or-len.result c.in_ok-value.field-0 is d (subst HasNumberForm c.split_at.ensures.front form) value (omega arith) in
    subst (ReadsNumber 64 c.args.bytes.now c.in_ok-value.field-0) (sym c.split_at.ensures.back) read

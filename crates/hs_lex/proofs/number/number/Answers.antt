use Rattle.std.proofs.Common.{◌≡◌, ℕ, List, ◌≤◌, length, take, Option, subst, sym, ap, ◌∙◌, arith, w64, to_z, of_z}
use Rattle.std.proofs.Math.Facts.{to_z_pos}
use Rattle.std.specs.Prelude.{not, ℤ}
use Rattle.std.specs.List.{position}
use Rattle.std.specs.Option.{unwrap_or}
use Rattle.std.specs.Char.{is_ascii_digit}
use Rattle.rules_tokens.specs.Tokens.{number_of, greatest_number}
use Rattle.hs_lex.specs.Fronts.{Begins}
use Rattle.hs_lex.proofs.Runs.{IsRun, run_while}
use Rattle.hs_lex.proofs.Pieces.{NumberFront, number_run, number_digits, number_front, big_front}
use Rattle.hs_lex.proofs.number.number.Goals as goal

digits_run : (rest : List ℕ) (found : Option ℕ) (len : ℕ) → Begins is_ascii_digit rest → found ≡ position (λ x. not (is_ascii_digit x)) rest → len ≡ unwrap_or found (length rest) → NumberFront rest len
digits_run rest found len b e f =
    number_run rest len b (subst (IsRun is_ascii_digit rest) (sym (f ∙ ap (λ z. unwrap_or z (length rest)) e)) (run_while is_ascii_digit rest))

pub value-requires : goal.value-requires
value-requires c = number_digits c.args.rest.now c.unwrap_or-len.result (digits_run c.args.rest.now c.number_end.result c.unwrap_or-len.result c.requires c.number_end.ensures c.unwrap_or-len.ensures)

pub returns-in-Some : goal.returns-in-Some
returns-in-Some c =
    let small : number_of (take c.unwrap_or-len.result c.args.rest.now) ≤ greatest_number = c.in-Some.ensures.1 in
    let back : to_z w64 (of_z w64 c.in-Some.value) ≡ c.in-Some.value =
    (let P : ℤ → Type 0 = λ z. to_z w64 (of_z w64 z) ≡ z in
    subst P (sym c.in-Some.ensures.0) (to_z_pos w64 {n = number_of (take c.unwrap_or-len.result c.args.rest.now)} (omega arith))) in
    number_front c.args.rest.now c.unwrap_or-len.result (to_z w64 (of_z w64 c.in-Some.value)) (digits_run c.args.rest.now c.number_end.result c.unwrap_or-len.result c.requires c.number_end.ensures c.unwrap_or-len.ensures) (back ∙ c.in-Some.ensures.0) small

pub returns-in-None : goal.returns-in-None
returns-in-None c = big_front c.args.rest.now c.unwrap_or-len.result (digits_run c.args.rest.now c.number_end.result c.unwrap_or-len.result c.requires c.number_end.ensures c.unwrap_or-len.ensures) c.in-None.ensures

use Rattle.std.proofs.Common.{◌-◌, ◌^◌, ◌∙◌, arith}
use Rattle.hs_lex.proofs.Ends.{text_of_chars, text_small, end_place}
use Rattle.hs_lex.proofs.lexer.end_of.Goals as goal

pub past-end-requires-clause-small : goal.past-end-requires-clause-small
past-end-requires-clause-small c =
    text_small c.args.text.now c.as_slice-all.result.now (2 ^ 32 - 1) (text_of_chars c.args.text.now c.as_slice-all.result.now c.utf8.text (c.as_slice-all.ensures.value ∙ c.in_ok-chars.ensures)) c.requires

pub returns : goal.returns
returns c =
    end_place c.args.text.now c.as_slice-all.result.now c.past-end.result (text_of_chars c.args.text.now c.as_slice-all.result.now c.utf8.text (c.as_slice-all.ensures.value ∙ c.in_ok-chars.ensures)) c.past-end.ensures.place (omega (arith, c.past-end.ensures.at))

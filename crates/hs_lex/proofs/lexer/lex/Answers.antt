use Rattle.std.proofs.Common.{sym, ◌∙◌, subst}
use Rattle.std.specs.Str.{IsUtf8}
use Rattle.rules_tokens.specs.Tokens.{NotUtf8}
use Rattle.hs_lex.specs.Answers.{IsRight}
use Rattle.hs_lex.proofs.Ends.{text_of_chars}
use Rattle.hs_lex.proofs.Outcomes.{outcome_same}
use Rattle.hs_lex.proofs.Rights.{complete_from_right}
use Rattle.hs_lex.proofs.Spans.{spans_of, slices_of}
use Rattle.hs_lex.proofs.lexer.lex.Goals as goal

pub text_tokens-requires-clause-same : goal.text_tokens-requires-clause-same
text_tokens-requires-clause-same c =
    text_of_chars c.in-Ok.text.now c.as_slice.result.now (subst IsUtf8 (sym c.in-Ok.ensures.cases.0) c.in-Ok.ensures.cases.1) (c.as_slice.ensures.value ∙ c.in_ok-chars-in-Ok.ensures)

pub returns-in_ok-chars-in-Ok-clause-complete : goal.returns-in_ok-chars-in-Ok-clause-complete
returns-in_ok-chars-in-Ok-clause-complete c =
    complete_from_right c.args.bytes.now c.text_tokens.result (subst (λ z. IsRight z c.text_tokens.result) c.in-Ok.ensures.cases.0 c.text_tokens.ensures)

pub returns-in_ok-broken_at-in-Err-clause-complete : goal.returns-in_ok-broken_at-in-Err-clause-complete
returns-in_ok-broken_at-in-Err-clause-complete c outcome h = outcome_same c.args.bytes.now (NotUtf8 c.in_ok-broken_at-in-Err.field-0) outcome c.in_ok-broken_at-in-Err.ensures h

pub returns-in_ok-chars-in-Ok-clause-spans : goal.returns-in_ok-chars-in-Ok-clause-spans
returns-in_ok-chars-in-Ok-clause-spans c =
    spans_of c.args.bytes.now c.text_tokens.result (subst (λ z. IsRight z c.text_tokens.result) c.in-Ok.ensures.cases.0 c.text_tokens.ensures)

pub returns-in_ok-chars-in-Ok-clause-slices : goal.returns-in_ok-chars-in-Ok-clause-slices
returns-in_ok-chars-in-Ok-clause-slices c =
    slices_of c.args.bytes.now c.text_tokens.result (subst (λ z. IsRight z c.text_tokens.result) c.in-Ok.ensures.cases.0 c.text_tokens.ensures)

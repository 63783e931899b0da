use Rattle.std.proofs.Common.{drop, length, sym, ap, ◌∙◌, subst, arith}
use Rattle.std.proofs.lemmas.List.Sums.{prefix_len-le-length}
use Rattle.claim_lines.specs.declared.lines.Body.TheVariants.{WrongBefore}
use Rattle.claim_lines.specs.Lines.{separates}
use Rattle.claim_lines.specs.Fronts.{IsBody}
use Rattle.claim_lines.proofs.Cuts.{run_at}
use Rattle.claim_lines.proofs.Pieces.{IsReadTo, body_ended, breaks_off, read_word, nothing, next_word, never_more, goes_on, first_at}
use Rattle.claim_lines.proofs.lines.read_body.Goals as goal

pub past-rest-requires : goal.past-rest-requires
past-rest-requires c = omega (arith, c.blanks_len.ensures, prefix_len-le-length separates c.words.behind.now)

pub returns-then-is_empty : goal.returns-then-is_empty
returns-then-is_empty c =
    body_ended c.args.body.now c.words.draft c.words.behind.now c.blanks_len.result c.ended.result c.words.invariant
    (run_at separates c.words.behind.now c.blanks_len.result c.blanks_len.ensures)
    (nothing (drop c.blanks_len.result c.words.behind.now) c.past-rest.result.now c.past-rest.ensures c.if-is_empty.ensures)
    c.ended.ensures

pub first_word-requires : goal.first_word-requires
first_word-requires c =
    next_word c.words.behind.now c.past-rest.result.now c.blanks_len.result (run_at separates c.words.behind.now c.blanks_len.result c.blanks_len.ensures) c.past-rest.ensures c.if-is_empty.ensures

pub returns-in-None : goal.returns-in-None
returns-in-None c =
    subst (λ z. IsBody c.args.body.now (WrongBefore (length z))) (sym c.past-rest.ensures)
    (breaks_off c.args.body.now c.words.draft c.words.behind.now c.blanks_len.result c.in_ok-len.len c.in_ok-len.word c.words.invariant
    (run_at separates c.words.behind.now c.blanks_len.result c.blanks_len.ensures)
    (first_at c.past-rest.result.now (drop c.blanks_len.result c.words.behind.now) c.in_ok-len.len c.in_ok-len.word c.past-rest.ensures c.in_ok-len.ensures)
    (never_more c.in_ok-more.field-0 c.words.draft c.in_ok-len.word c.in-None.is c.in_ok-more.ensures))

pub words-preserved : goal.words-preserved
words-preserved c =
    subst (IsReadTo c.args.body.now c.in-Some.more) (sym (c.past-behind.ensures ∙ ap (drop c.in_ok-len.len) c.past-rest.ensures))
    (read_word c.args.body.now c.words.draft c.in-Some.more c.words.behind.now c.blanks_len.result c.in_ok-len.len c.in_ok-len.word c.words.invariant
    (run_at separates c.words.behind.now c.blanks_len.result c.blanks_len.ensures)
    (first_at c.past-rest.result.now (drop c.blanks_len.result c.words.behind.now) c.in_ok-len.len c.in_ok-len.word c.past-rest.ensures c.in_ok-len.ensures)
    (goes_on c.in_ok-more.field-0 c.words.draft c.in-Some.more c.in_ok-len.word c.in-Some.is c.in_ok-more.ensures))

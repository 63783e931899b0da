use Rattle.std.proofs.Common.{refl}
use Rattle.std.proofs.lemmas.Result.{err_from_is_err_and}
use Rattle.parse_exprs.proofs.Parts.{if_ok, if_first, if_then, if_branches}
use Rattle.parse_exprs.proofs.forms.behind_if.Goals as goal

pub returns-in_err-test-clause-reads : goal.returns-in_err-test-clause-reads
returns-in_err-test-clause-reads b c =
    let p = err_from_is_err_and c.from_residual.result c.from_residual.ensures.1 in
    rw (p.1, p.2) (if_first c.args.depth _ _ _ c.args.pos _ c.in_err-test.ensures.reads)

pub returns-in_err-word-clause-reads : goal.returns-in_err-word-clause-reads
returns-in_err-word-clause-reads b c =
    let p = err_from_is_err_and c.from_residual-in_err-word.result c.from_residual-in_err-word.ensures.1 in
    rw (p.1, p.2) (if_then c.args.depth _ _ _ _ c.args.pos _ _ c.in_ok-test.ensures.reads c.in_err-word.ensures.reads)

pub returns-in_err-branches-clause-reads : goal.returns-in_err-branches-clause-reads
returns-in_err-branches-clause-reads b c =
    let p = err_from_is_err_and c.from_residual-in_err-branches.result c.from_residual-in_err-branches.ensures.1 in
    rw (p.1, p.2) (if_branches c.args.depth _ _ _ _ _ c.args.pos _ _ _ c.in_ok-test.ensures.reads c.in_ok-word.ensures.reads c.in_err-branches.ensures.reads)

pub returns-clause-reads : goal.returns-clause-reads
returns-clause-reads b c = if_ok c.args.depth _ _ _ _ c.args.pos _ _ _ _ c.in_ok-test.ensures.reads c.in_ok-word.ensures.reads c.in_ok-branches.ensures.reads (refl, refl)

use Rattle.std.proofs.Common.{rules}
use Rattle.std.proofs.lemmas.Result.{err_from_is_err_and}
use Rattle.parse_exprs.proofs.Parts.{compare_ok, compare_err}
use Rattle.parse_exprs.proofs.chains.compare_end.Goals as goal

pub returns-in_err-rest-clause-reads : goal.returns-in_err-rest-clause-reads
returns-in_err-rest-clause-reads b c =
    let p = err_from_is_err_and c.from_residual.result c.from_residual.ensures.1 in
    rw (p.1, p.2) (compare_err c.args.depth _ _ _ c.args.first _ c.in_err-rest.ensures.reads)

pub returns-clause-reads : goal.returns-clause-reads
returns-clause-reads b c = search (rules, compare_ok)

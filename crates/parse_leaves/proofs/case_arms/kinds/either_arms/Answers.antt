use Rattle.std.proofs.Common.{refl}
use Rattle.std.proofs.lemmas.Result.{err_from_is_err_and}
use Rattle.rules_grammar.specs.Grammar.{either_arms}
use Rattle.parse_leaves.proofs.case_arms_lemmas.Parts.{apart_ok, apart_first, apart_last}
use Rattle.parse_leaves.proofs.case_arms.kinds.either_arms.Goals as goal

pub returns-in_err-left-clause-reads : goal.returns-in_err-left-clause-reads
unfolding either_arms
returns-in_err-left-clause-reads b c =
    let p = err_from_is_err_and c.from_residual.result c.from_residual.ensures.1 in
    rw (p.1, p.2) (apart_first c.args.depth _ _ _ _ _ _ _ c.in_err-left.ensures.reads)

pub returns-in_err-right-clause-reads : goal.returns-in_err-right-clause-reads
unfolding either_arms
returns-in_err-right-clause-reads b c =
    let p = err_from_is_err_and c.from_residual-in_err-right.result c.from_residual-in_err-right.ensures.1 in
    rw (p.1, p.2) (apart_last c.args.depth _ _ _ _ _ _ _ _ _ c.in_ok-left.ensures.reads c.in_err-right.ensures.reads)

pub returns-clause-reads : goal.returns-clause-reads
unfolding either_arms
returns-clause-reads b c = apart_ok c.args.depth _ _ _ _ _ _ _ _ _ c.in_ok-left.ensures.reads c.in_ok-right.ensures.reads (c.either.ensures, refl)

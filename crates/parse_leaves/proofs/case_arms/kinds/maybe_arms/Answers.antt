use Rattle.std.proofs.Common.{rules, refl}
use Rattle.std.proofs.lemmas.Result.{err_from_is_err_and}
use Rattle.rules_grammar.specs.Grammar.{maybe_arms}
use Rattle.parse_leaves.proofs.case_arms_lemmas.Parts.{apart_ok, apart_first, apart_last}
use Rattle.parse_leaves.proofs.case_arms.kinds.maybe_arms.Goals as goal

pub returns-in_err-nothing-clause-reads : goal.returns-in_err-nothing-clause-reads
unfolding maybe_arms
returns-in_err-nothing-clause-reads b c = search (rules, apart_first)

pub returns-in_err-just-clause-reads : goal.returns-in_err-just-clause-reads
unfolding maybe_arms
returns-in_err-just-clause-reads b c =
    let p = err_from_is_err_and c.from_residual-in_err-just.result c.from_residual-in_err-just.ensures.1 in
    rw (p.1, p.2) (apart_last c.args.depth _ _ _ _ _ _ _ _ _ c.in_ok-nothing.ensures.reads c.in_err-just.ensures.reads)

pub returns-clause-reads : goal.returns-clause-reads
unfolding maybe_arms
returns-clause-reads b c = apart_ok c.args.depth _ _ _ _ _ _ _ _ _ c.in_ok-nothing.ensures.reads c.in_ok-just.ensures.reads (c.maybe.ensures, refl)

use Rattle.std.proofs.Common.{rules, refl}
use Rattle.std.proofs.lemmas.Result.{err_from_is_err_and}
use Rattle.rules_grammar.specs.Grammar.{list_arms}
use Rattle.parse_leaves.proofs.case_arms_lemmas.Parts.{apart_ok, apart_first, apart_last}
use Rattle.parse_leaves.proofs.case_arms.kinds.list_arms.Goals as goal

pub returns-in_err-empty-clause-reads : goal.returns-in_err-empty-clause-reads
unfolding list_arms
returns-in_err-empty-clause-reads b c = search (rules, apart_first)

pub returns-in_err-items-clause-reads : goal.returns-in_err-items-clause-reads
unfolding list_arms
returns-in_err-items-clause-reads b c =
    let p = err_from_is_err_and c.from_residual-in_err-items.result c.from_residual-in_err-items.ensures.1 in
    rw (p.1, p.2) (apart_last c.args.depth _ _ _ _ _ _ _ _ _ c.in_ok-empty.ensures.reads c.in_err-items.ensures.reads)

pub returns-clause-reads : goal.returns-clause-reads
unfolding list_arms
returns-clause-reads b c = apart_ok c.args.depth _ _ _ _ _ _ _ _ _ c.in_ok-empty.ensures.reads c.in_ok-items.ensures.reads (c.list.ensures, refl)

use Rattle.std.proofs.Common.{rules}
use Rattle.std.proofs.lemmas.Result.{err_from_is_err_and}
use Rattle.hs_grammar.specs.Parser.{read_then}
use Rattle.rules_grammar.specs.Grammar.{pair_arm}
use Rattle.parse_leaves.proofs.Parts.{part_steps}
use Rattle.parse_leaves.proofs.case_arms_lemmas.Parts.{pair_symbol}
use Rattle.parse_leaves.proofs.Steps.{steps}
use Rattle.parse_leaves.proofs.case_arms.kinds.pair_arm.Goals as goal

pub returns-in_err-names-clause-reads : goal.returns-in_err-names-clause-reads
unfolding read_then pair_arm
returns-in_err-names-clause-reads b c = search (rules, steps, part_steps)

pub returns-in_err-symbol-clause-reads : goal.returns-in_err-symbol-clause-reads
returns-in_err-symbol-clause-reads b c =
    let p = err_from_is_err_and c.from_residual-in_err-symbol.result c.from_residual-in_err-symbol.ensures.1 in
    rw (p.1, p.2) (pair_symbol c.args.depth _ _ _ _ _ _ _ _ c.in_ok-names.ensures.reads c.in_err-symbol.ensures.reads)

pub returns-in_err-arm-clause-reads : goal.returns-in_err-arm-clause-reads
unfolding read_then pair_arm
returns-in_err-arm-clause-reads b c = search (rules, steps, part_steps)

pub returns-clause-reads : goal.returns-clause-reads
unfolding read_then pair_arm
returns-clause-reads b c = search (rules, steps, part_steps)

use Rattle.std.proofs.Common.{rules}
use Rattle.hs_grammar.specs.Parser.{read_then}
use Rattle.rules_grammar.specs.Grammar.{cons_arm}
use Rattle.parse_leaves.proofs.Steps.{steps}
use Rattle.parse_leaves.proofs.case_arms.arm.cons_arm.Goals as goal

pub returns-in_err-first-clause-reads : goal.returns-in_err-first-clause-reads
unfolding read_then cons_arm
returns-in_err-first-clause-reads b c = search (rules, steps)

pub returns-in_err-symbol-clause-reads : goal.returns-in_err-symbol-clause-reads
unfolding read_then cons_arm
returns-in_err-symbol-clause-reads b c = search (rules, steps)

pub returns-in_err-rest-clause-reads : goal.returns-in_err-rest-clause-reads
unfolding read_then cons_arm
returns-in_err-rest-clause-reads b c = search (rules, steps)

pub returns-in_err-symbol-2-clause-reads : goal.returns-in_err-symbol-2-clause-reads
unfolding read_then cons_arm
returns-in_err-symbol-2-clause-reads b c = search (rules, steps)

pub returns-in_err-value-clause-reads : goal.returns-in_err-value-clause-reads
unfolding read_then cons_arm
returns-in_err-value-clause-reads b c = search (rules, steps)

pub returns-clause-reads : goal.returns-clause-reads
unfolding read_then cons_arm
returns-clause-reads b c = search (rules, steps)

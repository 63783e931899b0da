use Rattle.std.proofs.Common.{rules}
use Rattle.hs_grammar.specs.Parser.{read_then}
use Rattle.rules_grammar.specs.Grammar.{bare_arm}
use Rattle.parse_leaves.proofs.Steps.{steps}
use Rattle.parse_leaves.proofs.case_arms.arm.bare_arm.Goals as goal

pub returns-in_err-word-clause-reads : goal.returns-in_err-word-clause-reads
unfolding read_then bare_arm
returns-in_err-word-clause-reads b c = search (rules, steps)

pub returns-in_err-symbol-clause-reads : goal.returns-in_err-symbol-clause-reads
unfolding read_then bare_arm
returns-in_err-symbol-clause-reads b c = search (rules, steps)

pub returns-clause-reads : goal.returns-clause-reads
unfolding read_then bare_arm
returns-clause-reads b c = search (rules, steps)

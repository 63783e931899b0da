use Rattle.std.proofs.Common.{rules}
use Rattle.hs_grammar.specs.Parser.{read_then}
use Rattle.rules_grammar.specs.Grammar.{named_arm}
use Rattle.parse_leaves.proofs.Steps.{steps}
use Rattle.parse_leaves.proofs.case_arms.arm.named_arm.Goals as goal

pub returns-in_err-word-clause-reads : goal.returns-in_err-word-clause-reads
unfolding read_then named_arm
returns-in_err-word-clause-reads b c = search (rules, steps)

pub returns-in_err-name-clause-reads : goal.returns-in_err-name-clause-reads
unfolding read_then named_arm
returns-in_err-name-clause-reads b c = search (rules, steps)

pub returns-in_err-symbol-clause-reads : goal.returns-in_err-symbol-clause-reads
unfolding read_then named_arm
returns-in_err-symbol-clause-reads b c = search (rules, steps)

pub returns-in_err-value-clause-reads : goal.returns-in_err-value-clause-reads
unfolding read_then named_arm
returns-in_err-value-clause-reads b c = search (rules, steps)

pub returns-clause-reads : goal.returns-clause-reads
unfolding read_then named_arm
returns-clause-reads b c = search (rules, steps)

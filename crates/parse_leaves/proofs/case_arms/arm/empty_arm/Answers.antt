use Rattle.std.proofs.Common.{rules}
use Rattle.hs_grammar.specs.Parser.{read_then}
use Rattle.rules_grammar.specs.Grammar.{empty_arm}
use Rattle.parse_leaves.proofs.Parts.{part_steps}
use Rattle.parse_leaves.proofs.Steps.{steps}
use Rattle.parse_leaves.proofs.case_arms.arm.empty_arm.Goals as goal

pub returns-in_err-empty_brackets-clause-reads : goal.returns-in_err-empty_brackets-clause-reads
unfolding read_then empty_arm
returns-in_err-empty_brackets-clause-reads b c = search (rules, steps, part_steps)

pub returns-in_err-symbol-clause-reads : goal.returns-in_err-symbol-clause-reads
unfolding read_then empty_arm
returns-in_err-symbol-clause-reads b c = search (rules, steps, part_steps)

pub returns-clause-reads : goal.returns-clause-reads
unfolding read_then empty_arm
returns-clause-reads b c = search (rules, steps, part_steps)

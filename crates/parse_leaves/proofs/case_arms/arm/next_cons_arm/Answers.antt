use Rattle.std.proofs.Common.{rules}
use Rattle.hs_grammar.specs.Parser.{read_then}
use Rattle.parse_leaves.proofs.Steps.{steps}
use Rattle.parse_leaves.proofs.case_arms.arm.next_cons_arm.Goals as goal

pub returns-in_err-symbol-clause-reads : goal.returns-in_err-symbol-clause-reads
unfolding read_then
returns-in_err-symbol-clause-reads b c = search (rules, steps)

pub returns-clause-reads : goal.returns-clause-reads
unfolding read_then
returns-clause-reads b c = search (rules, steps)

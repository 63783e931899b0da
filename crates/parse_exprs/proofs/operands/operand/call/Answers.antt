use Rattle.std.proofs.Common.{rules}
use Rattle.hs_grammar.specs.Parser.{firsts, may_be_empty, read_then}
use Rattle.rules_grammar.specs.Grammar.{call}
use Rattle.parse_leaves.proofs.Parts.{part_steps}
use Rattle.parse_leaves.proofs.Steps.{steps}
use Rattle.parse_exprs.proofs.operands.operand.call.Goals as goal

pub returns-in_err-name-clause-reads : goal.returns-in_err-name-clause-reads
unfolding firsts may_be_empty read_then call
returns-in_err-name-clause-reads b c = search (rules, steps, part_steps)

pub returns-in_err-args-clause-reads : goal.returns-in_err-args-clause-reads
unfolding firsts may_be_empty read_then call
returns-in_err-args-clause-reads b c = search (rules, steps, part_steps)

pub returns-clause-reads : goal.returns-clause-reads
unfolding firsts may_be_empty read_then call
returns-clause-reads b c = search (rules, steps, part_steps)

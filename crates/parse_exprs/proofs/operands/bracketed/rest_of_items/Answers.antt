use Rattle.std.proofs.Common.{rules}
use Rattle.hs_grammar.specs.Parser.{firsts, may_be_empty, read_then}
use Rattle.parse_leaves.proofs.Parts.{part_steps}
use Rattle.parse_leaves.proofs.Steps.{steps}
use Rattle.parse_exprs.proofs.operands.bracketed.rest_of_items.Goals as goal

pub returns-in_err-rest-clause-reads : goal.returns-in_err-rest-clause-reads
unfolding firsts may_be_empty read_then
returns-in_err-rest-clause-reads b c = search (rules, steps, part_steps)

pub returns-in_err-symbol-clause-reads : goal.returns-in_err-symbol-clause-reads
unfolding firsts may_be_empty read_then
returns-in_err-symbol-clause-reads b c = search (rules, steps, part_steps)

pub returns-clause-reads : goal.returns-clause-reads
unfolding firsts may_be_empty read_then
returns-clause-reads b c = search (rules, steps, part_steps)

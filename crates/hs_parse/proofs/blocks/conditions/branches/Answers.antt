use Rattle.std.proofs.Common.{rules}
use Rattle.hs_grammar.specs.Parser.{firsts, may_be_empty, read_then}
use Rattle.parse_leaves.proofs.Steps.{steps}
use Rattle.hs_parse.proofs.blocks.conditions.branches.Goals as goal

pub returns-in_err-word-clause-reads : goal.returns-in_err-word-clause-reads
unfolding firsts may_be_empty read_then
returns-in_err-word-clause-reads b c = search (rules, steps)

pub returns-in_err-yes-clause-reads : goal.returns-in_err-yes-clause-reads
unfolding firsts may_be_empty read_then
returns-in_err-yes-clause-reads b c = search (rules, steps)

pub returns-in_err-word-2-clause-reads : goal.returns-in_err-word-2-clause-reads
unfolding firsts may_be_empty read_then
returns-in_err-word-2-clause-reads b c = search (rules, steps)

pub returns-in_err-no-clause-reads : goal.returns-in_err-no-clause-reads
unfolding firsts may_be_empty read_then
returns-in_err-no-clause-reads b c = search (rules, steps)

pub returns-clause-reads : goal.returns-clause-reads
unfolding firsts may_be_empty read_then
returns-clause-reads b c = search (rules, steps)

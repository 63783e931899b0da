use Rattle.std.proofs.Common.{rules}
use Rattle.hs_grammar.specs.Parser.{firsts, may_be_empty, read_then}
use Rattle.rules_grammar.specs.Grammar.{action}
use Rattle.parse_leaves.proofs.Steps.{steps}
use Rattle.hs_parse.proofs.blocks.stmts.action.Goals as goal

pub returns-in_err-args-clause-reads : goal.returns-in_err-args-clause-reads
unfolding firsts may_be_empty read_then action
returns-in_err-args-clause-reads b c = search (rules, steps)

pub returns-then-at_name-clause-reads : goal.returns-then-at_name-clause-reads
unfolding firsts may_be_empty read_then action
returns-then-at_name-clause-reads b c = search (rules, steps)

pub returns-clause-reads : goal.returns-clause-reads
unfolding firsts may_be_empty read_then action
returns-clause-reads b c = search (rules, steps)

use Rattle.std.proofs.Common.{rules}
use Rattle.hs_grammar.specs.Parser.{firsts, may_be_empty, read_then}
use Rattle.rules_grammar.specs.Grammar.{after_name}
use Rattle.parse_leaves.proofs.Steps.{steps}
use Rattle.hs_parse.proofs.blocks.stmts.after_name.Goals as goal

pub returns-in_err-action-clause-reads : goal.returns-in_err-action-clause-reads
unfolding firsts may_be_empty read_then after_name
returns-in_err-action-clause-reads b c = search (rules, steps)

pub returns-then-at_symbol-clause-reads : goal.returns-then-at_symbol-clause-reads
unfolding firsts may_be_empty read_then after_name
returns-then-at_symbol-clause-reads b c = search (rules, steps)

pub returns-in_err-args-clause-reads : goal.returns-in_err-args-clause-reads
unfolding firsts may_be_empty read_then after_name
returns-in_err-args-clause-reads b c = search (rules, steps)

pub returns-clause-reads : goal.returns-clause-reads
unfolding firsts may_be_empty read_then after_name
returns-clause-reads b c = search (rules, steps)

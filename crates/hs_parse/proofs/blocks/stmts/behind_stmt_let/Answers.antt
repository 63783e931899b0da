use Rattle.std.proofs.Common.{rules}
use Rattle.hs_grammar.specs.Parser.{firsts, may_be_empty, read_then}
use Rattle.rules_grammar.specs.Grammar.{rule_of}
use Rattle.parse_leaves.proofs.Steps.{steps}
use Rattle.hs_parse.proofs.blocks.stmts.behind_stmt_let.Goals as goal

pub returns-in_err-name-clause-reads : goal.returns-in_err-name-clause-reads
unfolding firsts may_be_empty read_then rule_of
returns-in_err-name-clause-reads c = search (rules, steps)

pub returns-in_err-symbol-clause-reads : goal.returns-in_err-symbol-clause-reads
unfolding firsts may_be_empty read_then rule_of
returns-in_err-symbol-clause-reads c = search (rules, steps)

pub returns-in_err-value-clause-reads : goal.returns-in_err-value-clause-reads
unfolding firsts may_be_empty read_then rule_of
returns-in_err-value-clause-reads c = search (rules, steps)

pub returns-clause-reads : goal.returns-clause-reads
unfolding firsts may_be_empty read_then rule_of
returns-clause-reads c = search (rules, steps)

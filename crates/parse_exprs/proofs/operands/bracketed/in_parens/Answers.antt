use Rattle.std.proofs.Common.{rules}
use Rattle.hs_grammar.specs.Parser.{firsts, may_be_empty, read_then}
use Rattle.rules_grammar.specs.Grammar.{rule_of}
use Rattle.parse_leaves.proofs.Steps.{steps}
use Rattle.parse_exprs.proofs.operands.bracketed.in_parens.Goals as goal

pub returns-then-at_symbol-clause-reads : goal.returns-then-at_symbol-clause-reads
unfolding firsts may_be_empty read_then rule_of
returns-then-at_symbol-clause-reads b c = search (rules, steps)

pub returns-in_err-first-clause-reads : goal.returns-in_err-first-clause-reads
unfolding firsts may_be_empty read_then rule_of
returns-in_err-first-clause-reads b c = search (rules, steps)

pub returns-clause-reads : goal.returns-clause-reads
unfolding firsts may_be_empty read_then rule_of
returns-clause-reads b c = search (rules, steps)

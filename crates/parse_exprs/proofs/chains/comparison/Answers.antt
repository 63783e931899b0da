use Rattle.std.proofs.Common.{rules}
use Rattle.hs_grammar.specs.Parser.{firsts, may_be_empty, read_then}
use Rattle.rules_grammar.specs.Grammar.{comparison}
use Rattle.parse_leaves.proofs.Steps.{steps}
use Rattle.parse_exprs.proofs.chains.comparison.Goals as goal

pub returns-in_err-first-clause-reads : goal.returns-in_err-first-clause-reads
unfolding firsts may_be_empty read_then comparison
returns-in_err-first-clause-reads b c = search (rules, steps)

pub returns-then-at_compare_operator-clause-reads : goal.returns-then-at_compare_operator-clause-reads
unfolding firsts may_be_empty read_then comparison
returns-then-at_compare_operator-clause-reads b c = search (rules, steps)

pub returns-clause-reads : goal.returns-clause-reads
unfolding firsts may_be_empty read_then comparison
returns-clause-reads b c = search (rules, steps)

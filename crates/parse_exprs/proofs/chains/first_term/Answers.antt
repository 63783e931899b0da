use Rattle.std.proofs.Common.{rules}
use Rattle.hs_grammar.specs.Parser.{firsts, may_be_empty, read_then}
use Rattle.rules_grammar.specs.Grammar.{first_term}
use Rattle.parse_leaves.proofs.Steps.{steps}
use Rattle.parse_exprs.proofs.chains.first_term.Goals as goal

pub returns-in_err-operand-clause-reads : goal.returns-in_err-operand-clause-reads
unfolding firsts may_be_empty read_then first_term
returns-in_err-operand-clause-reads b c = search (rules, steps)

pub returns-then-at_symbol-clause-reads : goal.returns-then-at_symbol-clause-reads
unfolding firsts may_be_empty read_then first_term
returns-then-at_symbol-clause-reads b c = search (rules, steps)

pub returns-clause-reads : goal.returns-clause-reads
unfolding firsts may_be_empty read_then first_term
returns-clause-reads b c = search (rules, steps)

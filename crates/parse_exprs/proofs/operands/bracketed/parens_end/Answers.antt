use Rattle.std.proofs.Common.{rules}
use Rattle.hs_grammar.specs.Parser.{firsts, may_be_empty, read_then}
use Rattle.rules_grammar.specs.Grammar.{expr_end}
use Rattle.parse_leaves.proofs.Steps.{steps}
use Rattle.parse_exprs.proofs.operands.bracketed.parens_end.Goals as goal

pub returns-then-at_symbol-clause-reads : goal.returns-then-at_symbol-clause-reads
unfolding firsts may_be_empty read_then expr_end
returns-then-at_symbol-clause-reads b c = search (rules, steps)

pub returns-in_err-symbol-2-clause-reads : goal.returns-in_err-symbol-2-clause-reads
unfolding firsts may_be_empty read_then expr_end
returns-in_err-symbol-2-clause-reads b c = search (rules, steps)

pub returns-in_err-second-clause-reads : goal.returns-in_err-second-clause-reads
unfolding firsts may_be_empty read_then expr_end
returns-in_err-second-clause-reads b c = search (rules, steps)

pub returns-in_err-symbol-3-clause-reads : goal.returns-in_err-symbol-3-clause-reads
unfolding firsts may_be_empty read_then expr_end
returns-in_err-symbol-3-clause-reads b c = search (rules, steps)

pub returns-clause-reads : goal.returns-clause-reads
unfolding firsts may_be_empty read_then expr_end
returns-clause-reads b c = search (rules, steps)

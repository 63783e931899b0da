use Rattle.std.proofs.Common.{rules}
use Rattle.hs_grammar.specs.Parser.{firsts, may_be_empty, read_then}
use Rattle.rules_grammar.specs.Grammar.{unary_expr}
use Rattle.parse_leaves.proofs.Steps.{steps}
use Rattle.parse_exprs.proofs.operands.built.unary.Goals as goal

pub returns-in_err-word-clause-reads : goal.returns-in_err-word-clause-reads
unfolding firsts may_be_empty read_then unary_expr
returns-in_err-word-clause-reads b c = search (rules, steps)

pub returns-in_err-arg-clause-reads : goal.returns-in_err-arg-clause-reads
unfolding firsts may_be_empty read_then unary_expr
returns-in_err-arg-clause-reads b c = search (rules, steps)

pub returns-clause-reads : goal.returns-clause-reads
unfolding firsts may_be_empty read_then unary_expr
returns-clause-reads b c = search (rules, steps)

use Rattle.std.proofs.Common.{rules}
use Rattle.hs_grammar.specs.Parser.{firsts, may_be_empty, read_then}
use Rattle.rules_grammar.specs.Grammar.{side_expr}
use Rattle.parse_leaves.proofs.Steps.{steps}
use Rattle.parse_exprs.proofs.operands.built.side.Goals as goal

pub returns-in_err-types-clause-reads : goal.returns-in_err-types-clause-reads
unfolding firsts may_be_empty read_then side_expr
returns-in_err-types-clause-reads b c = search (rules, steps)

pub returns-in_err-arg-clause-reads : goal.returns-in_err-arg-clause-reads
unfolding firsts may_be_empty read_then side_expr
returns-in_err-arg-clause-reads b c = search (rules, steps)

pub returns-clause-reads : goal.returns-clause-reads
unfolding firsts may_be_empty read_then side_expr
returns-clause-reads b c = search (rules, steps)

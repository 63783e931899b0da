use Rattle.std.proofs.Common.{rules}
use Rattle.hs_grammar.specs.Parser.{firsts, may_be_empty, read_then}
use Rattle.rules_grammar.specs.Grammar.{arg}
use Rattle.parse_leaves.proofs.Steps.{steps}
use Rattle.parse_exprs.proofs.operands.operand.arg.Goals as goal

pub returns-then-at_name-clause-reads : goal.returns-then-at_name-clause-reads
unfolding firsts may_be_empty read_then arg
returns-then-at_name-clause-reads b c = search (rules, steps)

pub returns-clause-reads : goal.returns-clause-reads
unfolding firsts may_be_empty read_then arg
returns-clause-reads b c = search (rules, steps)

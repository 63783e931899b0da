use Rattle.std.proofs.Common.{rules}
use Rattle.hs_grammar.specs.Parser.{firsts, may_be_empty, read_then}
use Rattle.rules_grammar.specs.Grammar.{plain_atom}
use Rattle.parse_leaves.proofs.Steps.{steps}
use Rattle.parse_exprs.proofs.operands.operand.plain_atom.Goals as goal

pub returns-then-at_int-clause-reads : goal.returns-then-at_int-clause-reads
unfolding firsts may_be_empty read_then plain_atom
returns-then-at_int-clause-reads b c = search (rules, steps)

pub returns-then-at_text-clause-reads : goal.returns-then-at_text-clause-reads
unfolding firsts may_be_empty read_then plain_atom
returns-then-at_text-clause-reads b c = search (rules, steps)

pub returns-then-at_constant-clause-reads : goal.returns-then-at_constant-clause-reads
unfolding firsts may_be_empty read_then plain_atom
returns-then-at_constant-clause-reads b c = search (rules, steps)

pub returns-clause-reads : goal.returns-clause-reads
unfolding firsts may_be_empty read_then plain_atom
returns-clause-reads b c = search (rules, steps)

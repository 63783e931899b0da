use Rattle.std.proofs.Common.{rules}
use Rattle.hs_grammar.specs.Parser.{firsts, may_be_empty, read_then}
use Rattle.parse_leaves.proofs.Steps.{steps}
use Rattle.parse_leaves.proofs.cursor.Cursor.semicolon.Goals as goal

pub returns-then-at_symbol-clause-reads : goal.returns-then-at_symbol-clause-reads
unfolding firsts may_be_empty read_then
returns-then-at_symbol-clause-reads c = search (rules, steps)

pub returns-clause-reads : goal.returns-clause-reads
unfolding firsts may_be_empty read_then
returns-clause-reads c = search (rules, steps)

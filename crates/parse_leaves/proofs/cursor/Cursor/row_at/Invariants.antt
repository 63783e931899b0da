use Rattle.std.proofs.Common.{drop}
use Rattle.rules_grammar.specs.GrammarForms.{one_of}
use Rattle.parse_leaves.specs.Tables.{ReadsAs}
use Rattle.parse_leaves.proofs.cursor.Cursor.row_at.Given as goal

abbrev pub invariant-rows : goal.invariant-rows
invariant-rows g l = ReadsAs l.self (one_of l.rows l.last) (one_of (drop l.row-index l.rows) l.last)

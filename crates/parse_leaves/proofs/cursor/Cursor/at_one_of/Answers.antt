use Rattle.parse_leaves.proofs.Rows.{begins_row}
use Rattle.parse_leaves.proofs.cursor.Cursor.at_one_of.Goals as goal

pub returns : goal.returns
returns g c = begins_row _ _ _ _ c.row_at-row.ensures _ c.at_word.ensures

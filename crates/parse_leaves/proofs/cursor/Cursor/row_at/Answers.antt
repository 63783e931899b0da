use Rattle.std.proofs.Common.{rules, arith}
use Rattle.parse_leaves.proofs.Rows.{row_found, row_next, row_last}
use Rattle.parse_leaves.proofs.cursor.Cursor.row_at.Goals as goal

pub returns-then-at_word : goal.returns-then-at_word
returns-then-at_word g c = row_found c.args.rows.now c.args.last c.rows.row-index _ c.row-item.result _ c.row-item.is c.rows.invariant (omega arith) c.at_word.ensures (search rules)

pub rows-preserved : goal.rows-preserved
rows-preserved g c = row_next c.args.rows.now c.args.last c.rows.row-index _ c.row-item.result _ c.row-item.is c.rows.invariant (omega arith) c.at_word.ensures (search rules)

pub returns : goal.returns
returns g c = row_last c.args.rows.now c.args.last c.rows.row-index _ c.rows.invariant (omega arith)

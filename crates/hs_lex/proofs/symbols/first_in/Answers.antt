use Rattle.std.proofs.Common.{◌≢◌, ℕ, List, ◌++◌, length, drop, get_or}
use Rattle.hs_lex.proofs.Tables.{no_row, row_at, none_more, row_begins, row_differs}
use Rattle.hs_lex.proofs.symbols.first_in.Goals.{else-may_begin-via-then-may_begin+else-starts_with, else-may_begin-via-else-may_begin}
use Rattle.hs_lex.proofs.symbols.first_in.Goals as goal

pub returns-then-starts_with-clause-place : goal.returns-then-starts_with-clause-place
returns-then-starts_with-clause-place c =
    let row : List ℕ = (get_or c.args.table.now c.loop-number.number no_row).now in (
      row,
      drop (length row) c.args.rest.now,
      row_begins row c.args.rest.now c.starts_with.result c.starts_with.ensures.value c.if-starts_with.true,
      row_at c.args.table.now c.loop-number.number c.loop-number-test.true,
      c.loop-number.invariant,
    )

pub loop-number-preserved : goal.loop-number-preserved
loop-number-preserved c =
    let row : List ℕ = (get_or c.args.table.now c.loop-number.number no_row).now in
    let differs : (left : List ℕ) → row ++ left ≢ c.args.rest.now = elim c.else-may_begin.branch [
      | else-may_begin-via-then-may_begin+else-starts_with w ↦ row_differs row c.args.rest.now w.starts_with.result w.starts_with.ensures.value w.if-starts_with.false
      | else-may_begin-via-else-may_begin w ↦ c.may_begin.ensures w.if-may_begin.false
    ] in
    none_more c.args.table.now c.loop-number.number row c.args.rest.now (row_at c.args.table.now c.loop-number.number c.loop-number-test.true) differs c.loop-number.invariant

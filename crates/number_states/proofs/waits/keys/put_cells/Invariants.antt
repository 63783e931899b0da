use Rattle.std.proofs.Common.{◌≡◌, ◌++◌, drop}
use Rattle.number_states.specs.waits.Keys.{cells_key}
use Rattle.number_states.proofs.waits.keys.put_cells.Given as goal

-- what was put, and the key of what is left, are the key of all
abbrev pub invariant-loop-cell : goal.invariant-loop-cell
invariant-loop-cell l = l.out.items ++ cells_key (drop l.cell-index l.cells) ≡ l.fn.out.items ++ cells_key l.cells

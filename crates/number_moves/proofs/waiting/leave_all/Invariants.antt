use Rattle.std.proofs.Common.{◌≡◌, ◌++◌, take, drop}
use Rattle.number_moves.specs.Lines.{lines_left}
use Rattle.number_moves.proofs.waiting.leave_all.Given as goal

-- those that the thread left, and those that it is to leave
abbrev pub invariant-loop-cell : goal.invariant-loop-cell
invariant-loop-cell l = take l.cell-index l.cells ++ lines_left l.t (drop l.cell-index l.cells) ≡ lines_left l.t l.fn.cells

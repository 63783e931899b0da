use Rattle.std.proofs.Common.{◌≡◌, ◌+◌, ◌-◌, ℕ, length}
use Rattle.trace_report.specs.tally.Tallying.{cell_at}
use Rattle.trace_report.proofs.tally.tally.put_cell.Given as goal

abbrev pub invariant-loop-list : goal.invariant-loop-list
invariant-loop-list l = (n : ℕ) → cell_at l.list.items n ≡ cell_at l.fn.list.items n

abbrev pub decreases-loop-list : goal.decreases-loop-list
decreases-loop-list l = l.m-2 + 1 - length l.list.items

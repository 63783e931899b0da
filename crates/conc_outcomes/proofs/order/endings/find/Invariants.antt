use Rattle.std.proofs.Common.{◌≤◌, ◌-◌, length}
use Rattle.conc_outcomes.specs.order.Rising.{AreBefore, AreBehind}
use Rattle.conc_outcomes.proofs.order.endings.find.Given as goal

abbrev pub invariant-loop-low : goal.invariant-loop-low
invariant-loop-low l = record { ordered : l.low ≤ l.high; within : l.high ≤ length l.list; before : AreBefore l.list l.low l.ended; behind : AreBehind l.list l.high l.ended }

abbrev pub decreases-loop-low : goal.decreases-loop-low
decreases-loop-low l = l.high - l.low

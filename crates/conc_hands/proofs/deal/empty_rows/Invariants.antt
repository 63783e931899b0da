use Rattle.std.proofs.Common.{◌≡◌, ℕ, ◌-◌, ◌≤◌, [], length, Some, slice_get}
use Rattle.std.specs.declared.alloc.Global.{Global}
use Rattle.std.specs.declared.vec.Vec.{Vec}
use Rattle.conc_hands.specs.declared.queues.deque.DequePass.{DequePass}
use Rattle.conc_hands.proofs.deal.empty_rows.Given as goal

abbrev pub invariant-loop-number : goal.invariant-loop-number
invariant-loop-number g l = (l.number ≤ l.caps) × (length l.rows.items ≡ l.number) × ((q : ℕ) (row : _) → slice_get l.rows.items q ≡ Some row → row.items ≡ [])

abbrev pub decreases-loop-number : goal.decreases-loop-number
decreases-loop-number g l = l.caps - l.number

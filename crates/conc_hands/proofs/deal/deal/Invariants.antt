use Rattle.std.proofs.Common.{◌≡◌, ℕ, ◌+◌, ◌-◌, ◌<◌, ◌≤◌, [], length, Some}
use Rattle.conc_hands.specs.queues.QueueRule.{view_with}
use Rattle.conc_hands.specs.queues.Deques.{deque_view, deque_id, room_of}
use Rattle.conc_hands.specs.Dealing.{AreDealt}
use Rattle.conc_hands.proofs.deal.deal.Given as goal

abbrev pub invariant-loop-at : goal.invariant-loop-at
invariant-loop-at g l =
    (l.at ≤ length l.rows.items) × (length l.rows.items ≡ length l.fn.rows.items) × AreDealt l.doors.items l.code l.own l.at l.rows.items
    × (deque_id l.deque ≡ deque_id l.fn.deque) × (room_of l.deque ≡ room_of l.fn.deque)
    × ((shares : ℕ) × (deque_view l.deque ≡ view_with (Some l.code) shares [] []) × (l.at ≤ l.own → shares + l.at ≡ 16) × (l.own < l.at → shares + l.at ≡ 17))

abbrev pub decreases-loop-at : goal.decreases-loop-at
decreases-loop-at g l = length l.rows.items - l.at

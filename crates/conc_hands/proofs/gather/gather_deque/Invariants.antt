use Rattle.std.proofs.Common.{◌≡◌, ℕ, ◌-◌, ◌<◌, ◌≤◌, length}
use Rattle.conc_hands.specs.Gathering.{ends_in, AreEnds, IsConserved, IsSpentAt, number_at}
use Rattle.conc_hands.proofs.gather.gather_deque.Given as goal

abbrev pub invariant-loop-at : goal.invariant-loop-at
invariant-loop-at g l = let es = ends_in l.fn.hands.items in
    (l.at ≤ length l.hands.items) × (length l.hands.items ≡ length l.fn.hands.items) × AreEnds l.doors.items (ends_in l.hands.items) × IsConserved es (ends_in l.hands.items)
    × ((q : ℕ) → q < l.at → IsSpentAt (ends_in l.hands.items) q (number_at es l.owner))

abbrev pub decreases-loop-at : goal.decreases-loop-at
decreases-loop-at g l = length l.hands.items - l.at

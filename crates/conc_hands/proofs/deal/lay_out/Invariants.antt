use Rattle.std.proofs.Common.{◌≡◌, ◌-◌, ◌≤◌, length}
use Rattle.conc_hands.specs.Dealing.{AreRows, AreDeques}
use Rattle.conc_hands.proofs.deal.lay_out.Given as goal

abbrev pub invariant-loop-number : goal.invariant-loop-number
invariant-loop-number g l =
    (l.number ≤ l.caps) × (length l.doors.items ≡ l.number) × (length l.deques.items ≡ l.number) × (length l.rows.items ≡ l.caps)
    × AreRows l.doors.items l.code l.number 0 l.rows.items × AreDeques l.doors.items l.code l.caps 0 l.deques.items

abbrev pub decreases-loop-number : goal.decreases-loop-number
decreases-loop-number g l = l.caps - l.number

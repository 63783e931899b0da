use Rattle.std.proofs.Common.{◌≡◌, ◌-◌, length}
use Rattle.conc_hands.specs.Gathering.{ends_in, AreWhole, AreEmptyBelow, SameTotals}
use Rattle.conc_hands.proofs.left_calls.next_job.Given as goal

abbrev pub invariant-loop-at : goal.invariant-loop-at
invariant-loop-at g l = AreWhole (ends_in l.hands.items) × AreEmptyBelow l.at (ends_in l.hands.items) × SameTotals (ends_in l.fn.hands.items) (ends_in l.hands.items)

abbrev pub decreases-loop-at : goal.decreases-loop-at
decreases-loop-at g l = length l.hands.items - l.at

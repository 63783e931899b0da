use Rattle.std.proofs.Common.{◌-◌, ◌==◌, cond, length}
use Rattle.exn_flight.specs.Throwing.{HasSearched}
use Rattle.exn_flight.proofs.throws.next_live.Given as goal

abbrev pub invariant-loop-at : goal.invariant-loop-at
invariant-loop-at l = HasSearched l.list.items l.place l.at

-- a search goes on, until it is at the end
abbrev pub decreases-loop-at : goal.decreases-loop-at
decreases-loop-at l = cond (l.at == 0) 0 (length l.list.items - l.at)

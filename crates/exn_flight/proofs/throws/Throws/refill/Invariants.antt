use Rattle.exn_flight.specs.Throwing.{spare_of, Refills}
use Rattle.exn_flight.proofs.throws.Throws.refill.Given as goal

abbrev pub invariant-loop-place : goal.invariant-loop-place
invariant-loop-place l = Refills l.fn.list.items l.list.items (spare_of l.fn.self) l.self l.place

use Rattle.std.proofs.Common.{◌≡◌, take, length}
use Rattle.exn_flight.specs.Throwing.{flying}
use Rattle.exn_flight.proofs.throws.Throws.live.Given as goal

abbrev pub invariant-loop-place : goal.invariant-loop-place
invariant-loop-place l = l.live ≡ length (flying (take l.place l.self.list.items))

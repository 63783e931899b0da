use Rattle.std.proofs.Common.{◌≡◌, take, length}
use Rattle.exn_flight.specs.Asleep.{sleepers_at}
use Rattle.exn_flight.proofs.sleepers.Sleepers.len.Given as goal

abbrev pub invariant-loop-place : goal.invariant-loop-place
invariant-loop-place l = l.asleep ≡ length (sleepers_at (take l.place l.self-inside.tournament))

use Rattle.std.proofs.Common.{◌≡◌, ◌≤◌, ◌+◌, take, length}
use Rattle.rules_waiting.specs.Waiting.{sorted_sleepers}
use Rattle.exn_flight.specs.Asleep.{sleepers_at}
use Rattle.exn_flight.proofs.sleepers.Sleepers.roomier.Given as goal

abbrev pub invariant-loop-place : goal.invariant-loop-place
invariant-loop-place l =
    (l.roomier.list ≡ sorted_sleepers (sleepers_at (take l.place l.self-inside.tournament)))
    × (l.initial.roomier.spare ≤ l.roomier.spare + length (sleepers_at (take l.place l.self-inside.tournament)))

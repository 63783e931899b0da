use Rattle.std.proofs.Common.{◌≡◌, ◌+◌, ◌≤◌, length}
use Rattle.exn_flight.specs.Tournaments.{IsVacant}
use Rattle.exn_flight.proofs.tournament.Tournament.with_places.Given as goal

abbrev pub invariant-loop-node : goal.invariant-loop-node
invariant-loop-node l = (length l.nodes.items ≡ l._node) × (l.n + l.n ≤ l.nodes.cap) × IsVacant l.nodes.items × (l._node ≤ l.n + l.n)

use Rattle.exn_flight.specs.Tournaments.{Climbs}
use Rattle.exn_flight.proofs.tournament.climb.Given as goal

abbrev pub invariant-loop-at : goal.invariant-loop-at
invariant-loop-at l = Climbs l.places l.fn.nodes.items l.nodes.items l.at

abbrev pub decreases-loop-at : goal.decreases-loop-at
decreases-loop-at l = l.at

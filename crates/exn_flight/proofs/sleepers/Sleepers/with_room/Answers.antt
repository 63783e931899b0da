use Rattle.std.proofs.Common.{ap}
use Rattle.rules_waiting.specs.Waiting.{sorted_sleepers}
use Rattle.exn_flight.proofs.Placing.{nobody}
use Rattle.exn_flight.proofs.sleepers.Sleepers.with_room.Goals as goal

pub returns-clause-list : goal.returns-clause-list
returns-clause-list c = ap sorted_sleepers (nobody c.in_ok-tournament.tournament c.in_ok-tournament.ensures.vacant)

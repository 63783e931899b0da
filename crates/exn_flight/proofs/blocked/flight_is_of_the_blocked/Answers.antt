use Rattle.rules_waiting.specs.Waiting.{Throwing}
use Rattle.exn_flight.proofs.OneList.{flight_blocks, flight_leaves}
use Rattle.exn_flight.proofs.blocked.flight_is_of_the_blocked.Goals as goal

pub returns-clause-throws : goal.returns-clause-throws
returns-clause-throws c = λ t u e ws. flight_blocks t (Throwing u e) ws

pub returns-clause-leaves : goal.returns-clause-leaves
returns-clause-leaves c = flight_leaves

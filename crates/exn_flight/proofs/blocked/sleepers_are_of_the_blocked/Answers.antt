use Rattle.rules_waiting.specs.Waiting.{Sleeping}
use Rattle.exn_flight.proofs.OneList.{sleepers_block, sleepers_leave}
use Rattle.exn_flight.proofs.Sorting.{sleeps_in_order}
use Rattle.exn_flight.proofs.SortedLeaving.{leaves_in_order}
use Rattle.exn_flight.proofs.blocked.sleepers_are_of_the_blocked.Goals as goal

pub returns-clause-sleeps : goal.returns-clause-sleeps
returns-clause-sleeps c = λ t due ws. sleepers_block t (Sleeping due) ws

pub returns-clause-leaves : goal.returns-clause-leaves
returns-clause-leaves c = sleepers_leave

pub returns-clause-sleeps_in_order : goal.returns-clause-sleeps_in_order
returns-clause-sleeps_in_order c = λ t due ws. sleeps_in_order t due ws

pub returns-clause-leaves_in_order : goal.returns-clause-leaves_in_order
returns-clause-leaves_in_order c = λ t ws. leaves_in_order t ws

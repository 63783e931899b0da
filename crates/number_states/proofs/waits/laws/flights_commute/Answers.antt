use Rattle.number_states.proofs.waits_lemmas.Without.{flight_without, flight_has, flight_to, flight_throwers, flight_append}
use Rattle.number_states.proofs.waits.laws.flights_commute.Goals as goal

-- src/laws.rt
pub returns-clause-withdraw : goal.returns-clause-withdraw
returns-clause-withdraw c = flight_without

pub returns-clause-throws : goal.returns-clause-throws
returns-clause-throws c = flight_has

pub returns-clause-to : goal.returns-clause-to
returns-clause-to c = flight_to

pub returns-clause-throwers : goal.returns-clause-throwers
returns-clause-throwers c = flight_throwers

pub returns-clause-more : goal.returns-clause-more
returns-clause-more c = flight_append

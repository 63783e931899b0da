use Rattle.search_laws.proofs.Reached.{arrived, comes_arrive}
use Rattle.search_laws.proofs.states_are_those_of_runs.Goals as goal

pub returns-clause-states : goal.returns-clause-states
returns-clause-states c = arrived

pub returns-clause-comes : goal.returns-clause-comes
returns-clause-comes c = comes_arrive

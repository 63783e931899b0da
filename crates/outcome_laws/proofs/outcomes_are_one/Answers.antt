use Rattle.outcome_laws.proofs.Reaching.{one_outcome, outcome_ends}
use Rattle.outcome_laws.proofs.outcomes_are_one.Goals as goal

pub returns-clause-one : goal.returns-clause-one
returns-clause-one c = one_outcome

pub returns-clause-ending : goal.returns-clause-ending
returns-clause-ending c = outcome_ends

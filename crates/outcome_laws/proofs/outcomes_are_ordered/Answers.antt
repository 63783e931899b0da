use Rattle.outcome_laws.proofs.Ordered.{outcome_total, same_outcome}
use Rattle.outcome_laws.proofs.outcomes_are_ordered.Goals as goal

pub returns-clause-total : goal.returns-clause-total
returns-clause-total c = outcome_total

pub returns-clause-same : goal.returns-clause-same
returns-clause-same c = same_outcome

use Rattle.outcome_laws.specs.Timings.{MayTick}
use Rattle.outcome_laws.proofs.Going.{bounded, timed_bounded, bound_ends}
use Rattle.outcome_laws.proofs.ranks_bound_runs.Goals as goal

pub returns-clause-timeless : goal.returns-clause-timeless
returns-clause-timeless c = bounded

pub returns-clause-timed : goal.returns-clause-timed
returns-clause-timed c = λ clock code s visited rank v falls u es h. timed_bounded code (MayTick clock code) visited rank falls s u es v h

pub returns-clause-ends : goal.returns-clause-ends
returns-clause-ends c = bound_ends

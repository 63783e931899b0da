use Rattle.outcome_laws.specs.Timings.{MayTick}
use Rattle.outcome_laws.specs.reduction.Paths.{InSet}
use Rattle.outcome_laws.proofs.reduction_lemmas.Closed.{clock_stable, run_bounded, script_ends}
use Rattle.outcome_laws.proofs.reduction.ranks_bound_runs.Goals as goal

pub returns-clause-runs : goal.returns-clause-runs
returns-clause-runs c = λ clock code V. run_bounded code (MayTick clock code) (clock_stable clock code) (InSet V)

pub returns-clause-script : goal.returns-clause-script
returns-clause-script c = λ clock ds V. script_ends clock ds (InSet V)

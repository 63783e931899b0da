use Rattle.outcome_laws.specs.Timings.{MayTick}
use Rattle.outcome_laws.proofs.Timed.{real_run, run_of_timed}
use Rattle.outcome_laws.proofs.timed_runs_are_runs.Goals as goal

pub returns-clause-real : goal.returns-clause-real
returns-clause-real c = real_run

pub returns-clause-run : goal.returns-clause-run
returns-clause-run c = λ clock code. run_of_timed code (MayTick clock code)

use Rattle.outcome_laws.specs.Timings.{MayTick}
use Rattle.outcome_laws.specs.reduction.Paths.{InSet}
use Rattle.outcome_laws.proofs.reduction_lemmas.Closed.{clock_stable, each_ending, each_outcome, script_outcome}
use Rattle.outcome_laws.proofs.reduction.closed_sets_have_each_ending.Goals as goal

pub returns-clause-ending : goal.returns-clause-ending
returns-clause-ending c = λ clock code V. each_ending code (MayTick clock code) (clock_stable clock code) (InSet V)

pub returns-clause-outcome : goal.returns-clause-outcome
returns-clause-outcome c = λ clock code V. each_outcome clock code (InSet V)

pub returns-clause-script : goal.returns-clause-script
returns-clause-script c = λ clock ds V. script_outcome clock ds (InSet V)

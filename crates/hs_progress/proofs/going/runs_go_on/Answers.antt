use Rattle.hs_progress.proofs.Entries.{runs_go_on, operations_go_on}
use Rattle.hs_progress.proofs.Quiet.{main_runs_on}
use Rattle.hs_progress.proofs.going.runs_go_on.Goals as goal

pub returns-clause-main : goal.returns-clause-main
returns-clause-main a = main_runs_on

pub returns-clause-own : goal.returns-clause-own
returns-clause-own a = runs_go_on

pub returns-clause-operation : goal.returns-clause-operation
returns-clause-operation a = operations_go_on

use Rattle.slot_laws.proofs.Heads.{main_goes, action_goes}
use Rattle.slot_laws.proofs.moving.actions_may_go.Goals as goal

pub returns-clause-main : goal.returns-clause-main
returns-clause-main c = main_goes

pub returns-clause-thread : goal.returns-clause-thread
returns-clause-thread c = action_goes

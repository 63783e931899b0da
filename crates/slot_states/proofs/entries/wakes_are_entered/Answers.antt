use Rattle.slot_states.proofs.Waking.{wake_entered, due_wake_entered}
use Rattle.slot_states.proofs.entries.wakes_are_entered.Goals as goal

pub returns-clause-first : goal.returns-clause-first
returns-clause-first c = wake_entered

pub returns-clause-any : goal.returns-clause-any
returns-clause-any c = due_wake_entered

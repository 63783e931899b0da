use Rattle.slot_states.proofs.Finishing.{value_ended, exception_ended}
use Rattle.slot_states.proofs.entries.ends_are_entered.Goals as goal

pub returns-clause-value : goal.returns-clause-value
returns-clause-value c = value_ended

pub returns-clause-exception : goal.returns-clause-exception
returns-clause-exception c = exception_ended

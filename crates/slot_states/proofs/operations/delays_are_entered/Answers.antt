use Rattle.slot_states.proofs.Blocking.{delay_sleeps, delay_none, delay_less}
use Rattle.slot_states.proofs.operations.delays_are_entered.Goals as goal

pub returns-clause-sleeps : goal.returns-clause-sleeps
returns-clause-sleeps c = delay_sleeps

pub returns-clause-none : goal.returns-clause-none
returns-clause-none c = delay_none

pub returns-clause-less : goal.returns-clause-less
returns-clause-less c = delay_less

use Rattle.slot_states.proofs.Moving.{tick_entered}
use Rattle.slot_states.proofs.entries.ticks_are_entered.Goals as goal

pub returns : goal.returns
returns c = tick_entered

use Rattle.slot_states.proofs.Receiving.{receive_entered}
use Rattle.slot_states.proofs.entries.receives_are_entered.Goals as goal

pub returns : goal.returns
returns c = receive_entered

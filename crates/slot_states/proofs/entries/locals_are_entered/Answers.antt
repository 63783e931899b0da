use Rattle.slot_states.proofs.Moving.{local_entered}
use Rattle.slot_states.proofs.entries.locals_are_entered.Goals as goal

pub returns : goal.returns
returns c = local_entered

use Rattle.slot_states.proofs.entering_lemmas.Entered.{next_entered}
use Rattle.slot_states.proofs.entering.next_is_entered.Goals as goal

pub returns : goal.returns
returns c = next_entered

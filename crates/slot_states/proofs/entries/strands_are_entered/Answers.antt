use Rattle.slot_states.proofs.StrandedAlike.{strand_entered}
use Rattle.slot_states.proofs.entries.strands_are_entered.Goals as goal

pub returns : goal.returns
returns c = strand_entered

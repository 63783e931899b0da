use Rattle.slot_states.proofs.Waits.{target_there}
use Rattle.slot_states.proofs.waiting.targets_are_there.Goals as goal

pub returns : goal.returns
returns c = target_there

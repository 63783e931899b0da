use Rattle.slot_states.proofs.Grown.{entry_grows}
use Rattle.slot_states.proofs.growing.entries_grow.Goals as goal

pub returns : goal.returns
returns c = entry_grows

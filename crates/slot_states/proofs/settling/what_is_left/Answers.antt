use Rattle.slot_states.proofs.Settled.{is_left}
use Rattle.slot_states.proofs.settling.what_is_left.Goals as goal

pub returns : goal.returns
returns c = is_left

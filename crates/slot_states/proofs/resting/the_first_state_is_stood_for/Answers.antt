use Rattle.slot_states.proofs.AtRest.{first_stands_for}
use Rattle.slot_states.proofs.resting.the_first_state_is_stood_for.Goals as goal

pub returns : goal.returns
returns c = first_stands_for

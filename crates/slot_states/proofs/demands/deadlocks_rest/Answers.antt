use Rattle.slot_states.proofs.demands_lemmas.Demanding.{rests}
use Rattle.slot_states.proofs.demands.deadlocks_rest.Goals as goal

pub returns : goal.returns
returns c = rests

use Rattle.slot_states.proofs.demands_lemmas.Demanding.{asked}
use Rattle.slot_states.proofs.demands.legal_entries_ask.Goals as goal

pub returns : goal.returns
returns c = asked

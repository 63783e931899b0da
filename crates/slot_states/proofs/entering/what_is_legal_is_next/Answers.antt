use Rattle.slot_states.proofs.entering_lemmas.Legal.{legal_next}
use Rattle.slot_states.proofs.entering.what_is_legal_is_next.Goals as goal

pub returns : goal.returns
returns c = λ script accepted es s u run x r e. legal_next script accepted es s run x r u e

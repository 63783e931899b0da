use Rattle.rules_meaning.specs.Values.{value_of}
use Rattle.slot_states.proofs.mapping_lemmas.Maps.{commutes}
use Rattle.slot_states.proofs.mapping.commuting.one_cell_commutes.Goals as goal

pub returns : goal.returns
returns c q e = commutes value_of q e

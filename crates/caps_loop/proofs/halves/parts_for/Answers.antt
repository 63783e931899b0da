use Rattle.std.proofs.Common.{slice_index_or}
use Rattle.std.proofs.lemmas.Option.{slice_get-get_or}
use Rattle.conc_hands.specs.Lists.{hands_in}
use Rattle.caps_loop.proofs.halves.parts_for.Goals as goal

pub returns-clause-list : goal.returns-clause-list
returns-clause-list g c = λ k d lt. (c.in_ok-hands.ensures.list.1 k (slice_index_or (hands_in c.in_ok-hands.list) k d) (slice_get-get_or (hands_in c.in_ok-hands.list) k d lt)).0

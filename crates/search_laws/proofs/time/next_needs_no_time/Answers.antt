use Rattle.search_laws.proofs.time_lemmas.Waking.{next_forth}
use Rattle.search_laws.proofs.time.next_needs_no_time.Goals as goal

pub returns : goal.returns
returns c = next_forth

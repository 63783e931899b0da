use Rattle.search_laws.proofs.rests_lemmas.Untimed.{timed_moves}
use Rattle.search_laws.proofs.rests.eager_moves_need_no_time.Goals as goal

pub returns : goal.returns
returns c = timed_moves

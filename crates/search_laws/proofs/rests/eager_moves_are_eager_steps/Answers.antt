use Rattle.search_laws.proofs.rests_lemmas.Stepping.{moves_step}
use Rattle.search_laws.proofs.rests.eager_moves_are_eager_steps.Goals as goal

pub returns : goal.returns
returns c = moves_step

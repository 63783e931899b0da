use Rattle.outcome_laws.proofs.reduction_lemmas.Finishing.{finish_commutes}
use Rattle.outcome_laws.proofs.reduction.eager_finishes_commute.Goals as goal

pub returns : goal.returns
returns c = finish_commutes

use Rattle.outcome_laws.proofs.reduction_lemmas.Closed.{clock_stable}
use Rattle.outcome_laws.proofs.reduction.ticks_are_stable.Goals as goal

pub returns : goal.returns
returns c = clock_stable

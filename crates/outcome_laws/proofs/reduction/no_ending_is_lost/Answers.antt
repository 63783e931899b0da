use Rattle.outcome_laws.specs.Timings.{MayTick}
use Rattle.outcome_laws.proofs.reduction_lemmas.Going.{lose_steps}
use Rattle.outcome_laws.proofs.reduction_lemmas.Closed.{clock_stable}
use Rattle.outcome_laws.proofs.reduction.no_ending_is_lost.Goals as goal

pub returns : goal.returns
returns c = λ clock code k s u z vs c d w. lose_steps code (MayTick clock code) (clock_stable clock code) k s u vs z d c w

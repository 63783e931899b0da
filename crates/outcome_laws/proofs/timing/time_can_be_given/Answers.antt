use Rattle.outcome_laws.proofs.timing_lemmas.Timing.{entry_back}
use Rattle.outcome_laws.proofs.timing.time_can_be_given.Goals as goal

pub returns : goal.returns
returns c = entry_back

use Rattle.outcome_laws.proofs.Reaching.{reaches_back, reaches_forth}
use Rattle.outcome_laws.proofs.outcomes_need_no_time.Goals as goal

pub returns-clause-sound : goal.returns-clause-sound
returns-clause-sound c = reaches_back

pub returns-clause-complete : goal.returns-clause-complete
returns-clause-complete c = reaches_forth

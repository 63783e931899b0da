use Rattle.outcome_laws.proofs.Reaching.{history_of, script_back, script_forth}
use Rattle.outcome_laws.proofs.scripts_need_no_time.Goals as goal

pub returns-clause-histories : goal.returns-clause-histories
returns-clause-histories c = history_of

pub returns-clause-sound : goal.returns-clause-sound
returns-clause-sound c = script_back

pub returns-clause-complete : goal.returns-clause-complete
returns-clause-complete c = script_forth

use Rattle.outcome_laws.proofs.Going.{goes_on, timed_goes_on, endless_histories}
use Rattle.outcome_laws.proofs.rounds_go_on.Goals as goal

pub returns-clause-timeless : goal.returns-clause-timeless
returns-clause-timeless c = goes_on

pub returns-clause-timed : goal.returns-clause-timed
returns-clause-timed c = λ clock code. timed_goes_on code clock

pub returns-clause-histories : goal.returns-clause-histories
returns-clause-histories c = endless_histories

use Rattle.hs_laws.proofs.HowItEnds.{ending_of, one_limit, main_ends, done_is_over}
use Rattle.hs_laws.proofs.endings.endings_are_one.Goals as goal

pub returns-clause-ending : goal.returns-clause-ending
returns-clause-ending c = ending_of

pub returns-clause-limit : goal.returns-clause-limit
returns-clause-limit c = one_limit

pub returns-clause-main : goal.returns-clause-main
returns-clause-main c = main_ends

pub returns-clause-over : goal.returns-clause-over
returns-clause-over c = done_is_over

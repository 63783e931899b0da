use Rattle.outcome_laws.proofs.reduction_lemmas.Meeting.{alike_print, alike_done, alike_uncaught, alike_deadlock}
use Rattle.outcome_laws.proofs.reduction_lemmas.Closed.{alike_outcome}
use Rattle.outcome_laws.proofs.reduction.alike_endings_show_the_same.Goals as goal

pub returns-clause-prints : goal.returns-clause-prints
returns-clause-prints c = alike_print

pub returns-clause-done : goal.returns-clause-done
returns-clause-done c = alike_done

pub returns-clause-uncaught : goal.returns-clause-uncaught
returns-clause-uncaught c = alike_uncaught

pub returns-clause-deadlock : goal.returns-clause-deadlock
returns-clause-deadlock c = alike_deadlock

pub returns-clause-outcome : goal.returns-clause-outcome
returns-clause-outcome c = alike_outcome

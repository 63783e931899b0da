use Rattle.run_course.proofs.history_lemmas.Goers.{may_go, doing_is}
use Rattle.run_course.proofs.history.going.goers_may_have_jobs.Goals as goal

pub returns-clause-may : goal.returns-clause-may
returns-clause-may c = may_go

pub returns-clause-doing : goal.returns-clause-doing
returns-clause-doing c = λ th g. doing_is th.stack.control g.2

use Rattle.hs_progress.proofs.Evaluations.{runs_may_evaluate, answers}
use Rattle.hs_progress.proofs.expressions.runs_may_evaluate.Goals as goal

pub returns-clause-may : goal.returns-clause-may
returns-clause-may a = runs_may_evaluate

pub returns-clause-answer : goal.returns-clause-answer
returns-clause-answer a = answers

pub returns-clause-slots : goal.returns-clause-slots
returns-clause-slots a ds x env m vs h = record { slots = h; sorts = m.fits }

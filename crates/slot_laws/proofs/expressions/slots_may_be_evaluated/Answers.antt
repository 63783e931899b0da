use Rattle.slot_laws.proofs.Evaluating.{stands_evaluable, reached_evaluable}
use Rattle.slot_laws.proofs.expressions.slots_may_be_evaluated.Goals as goal

pub returns-clause-stands : goal.returns-clause-stands
returns-clause-stands c = stands_evaluable

pub returns-clause-reached : goal.returns-clause-reached
returns-clause-reached c = reached_evaluable

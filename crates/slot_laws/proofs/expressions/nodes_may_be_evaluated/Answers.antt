use Rattle.slot_laws.proofs.Evaluating.{nodes_same, node_evaluable, node_reached}
use Rattle.slot_laws.proofs.expressions.nodes_may_be_evaluated.Goals as goal

pub returns-clause-same : goal.returns-clause-same
returns-clause-same c = nodes_same

pub returns-clause-stands : goal.returns-clause-stands
returns-clause-stands c = node_evaluable

pub returns-clause-reached : goal.returns-clause-reached
returns-clause-reached c = node_reached

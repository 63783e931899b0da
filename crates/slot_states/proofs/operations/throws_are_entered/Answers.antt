use Rattle.slot_states.proofs.Blocking.{throws_itself, throws_at_finished, throws_at_other}
use Rattle.slot_states.proofs.operations.throws_are_entered.Goals as goal

pub returns-clause-itself : goal.returns-clause-itself
returns-clause-itself c = throws_itself

pub returns-clause-finished : goal.returns-clause-finished
returns-clause-finished c = throws_at_finished

pub returns-clause-other : goal.returns-clause-other
returns-clause-other c = throws_at_other

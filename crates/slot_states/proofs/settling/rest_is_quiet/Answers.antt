use Rattle.slot_states.proofs.Settled.{all_rest, rest_quiet, rest_deadlock}
use Rattle.slot_states.proofs.settling.rest_is_quiet.Goals as goal

pub returns-clause-rests : goal.returns-clause-rests
returns-clause-rests c = all_rest

pub returns-clause-quiet : goal.returns-clause-quiet
returns-clause-quiet c = rest_quiet

pub returns-clause-deadlock : goal.returns-clause-deadlock
returns-clause-deadlock c = rest_deadlock

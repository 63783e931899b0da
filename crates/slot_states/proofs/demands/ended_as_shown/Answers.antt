use Rattle.slot_states.proofs.demands_lemmas.Ended.{done_shown, uncaught_shown}
use Rattle.slot_states.proofs.demands.ended_as_shown.Goals as goal

pub returns-clause-done : goal.returns-clause-done
returns-clause-done c = done_shown

pub returns-clause-uncaught : goal.returns-clause-uncaught
returns-clause-uncaught c = uncaught_shown

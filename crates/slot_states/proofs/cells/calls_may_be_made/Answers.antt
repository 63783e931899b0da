use Rattle.rules_expansion.specs.trees.Programs.{script_of}
use Rattle.slot_states.proofs.CellReading.{waits_below, try_take_below, try_put_below}
use Rattle.slot_states.proofs.CellThreads.{free_is_nowhere}
use Rattle.slot_states.proofs.cells.calls_may_be_made.Goals as goal

pub returns-clause-waits : goal.returns-clause-waits
returns-clause-waits c = λ script. waits_below (script_of script)

pub returns-clause-tries_to_take : goal.returns-clause-tries_to_take
returns-clause-tries_to_take c = λ script. try_take_below (script_of script)

pub returns-clause-tries_to_put : goal.returns-clause-tries_to_put
returns-clause-tries_to_put c = λ script. try_put_below (script_of script)

pub returns-clause-nowhere : goal.returns-clause-nowhere
returns-clause-nowhere c = free_is_nowhere

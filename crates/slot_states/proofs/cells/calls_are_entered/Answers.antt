use Rattle.slot_states.proofs.CellsEntered.{take_entered, read_entered, put_entered, try_take_entered, try_put_entered, new_entered, new_empty_entered}
use Rattle.slot_states.proofs.cells.calls_are_entered.Goals as goal

pub returns-clause-take : goal.returns-clause-take
returns-clause-take c = take_entered

pub returns-clause-read : goal.returns-clause-read
returns-clause-read c = read_entered

pub returns-clause-put : goal.returns-clause-put
returns-clause-put c = put_entered

pub returns-clause-try_take : goal.returns-clause-try_take
returns-clause-try_take c = try_take_entered

pub returns-clause-try_put : goal.returns-clause-try_put
returns-clause-try_put c = try_put_entered

pub returns-clause-new : goal.returns-clause-new
returns-clause-new c = new_entered

pub returns-clause-new_empty : goal.returns-clause-new_empty
returns-clause-new_empty c = new_empty_entered

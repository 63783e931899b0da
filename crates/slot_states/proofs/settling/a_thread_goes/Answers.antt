use Rattle.rules_expansion.specs.trees.Programs.{script_of}
use Rattle.slot_states.proofs.Settled.{local_legal, no_deadlock}
use Rattle.slot_states.proofs.settling.a_thread_goes.Goals as goal

pub returns-clause-local : goal.returns-clause-local
returns-clause-local c = local_legal

pub returns-clause-sleeps : goal.returns-clause-sleeps
returns-clause-sleeps c = λ script. no_deadlock (script_of script)

use Rattle.rules_expansion.specs.trees.Programs.{script_of}
use Rattle.slot_states.proofs.Settled.{same_due}
use Rattle.slot_states.proofs.settling.the_first_due_is_stood_for.Goals as goal

pub returns : goal.returns
returns c = λ script. same_due (script_of script)

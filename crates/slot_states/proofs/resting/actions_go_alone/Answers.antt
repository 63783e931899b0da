use Rattle.rules_expansion.specs.trees.Programs.{script_of}
use Rattle.slot_states.proofs.AtRest.{goes_alone}
use Rattle.slot_states.proofs.resting.actions_go_alone.Goals as goal

pub returns : goal.returns
returns c = λ script x s r t th is tree vs e m. goes_alone (script_of script) x s r t th is tree vs e m

use Rattle.rules_expansion.specs.trees.Programs.{script_of}
use Rattle.slot_states.proofs.AtRest.{none_works, nobody_sleeps, same_used}
use Rattle.slot_states.proofs.resting.rest_is_stood_for.Goals as goal

pub returns-clause-rests : goal.returns-clause-rests
returns-clause-rests c = λ script x s r a. none_works (script_of script) x s r a

pub returns-clause-sleepers : goal.returns-clause-sleepers
returns-clause-sleepers c = λ script x s r e. nobody_sleeps (script_of script) x s r e

pub returns-clause-used : goal.returns-clause-used
returns-clause-used c = λ script x s r kind. same_used (script_of script) x s r kind

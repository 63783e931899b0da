use Rattle.rules_expansion.specs.trees.Programs.{script_of}
use Rattle.slot_states.proofs.AtRest.{main_done, main_uncaught, main_goes}
use Rattle.slot_states.proofs.resting.main_is_stood_for.Goals as goal

pub returns-clause-done : goal.returns-clause-done
returns-clause-done c = λ script x s r th is f v e. main_done (script_of script) x s r th is f v e

pub returns-clause-uncaught : goal.returns-clause-uncaught
returns-clause-uncaught c = λ script x s r th is f e q. main_uncaught (script_of script) x s r th is f e q

pub returns-clause-goes : goal.returns-clause-goes
returns-clause-goes c = λ script x s r m. main_goes (script_of script) x s r m

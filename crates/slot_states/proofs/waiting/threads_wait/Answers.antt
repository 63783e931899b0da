use Rattle.rules_expansion.specs.trees.Programs.{script_of}
use Rattle.hs_laws.proofs.Expanded.{standing_of}
use Rattle.slot_states.proofs.Waits.{blocked_performs, thrower_blocked, sleeper_blocked, thrower_waits, sleeper_waits, free_waits}
use Rattle.slot_states.proofs.waiting.threads_wait.Goals as goal

pub returns-clause-blocked : goal.returns-clause-blocked
returns-clause-blocked c = λ script es s run x r. blocked_performs (script_of script) x s r (standing_of (script_of script) es s run)

pub returns-clause-thrower : goal.returns-clause-thrower
returns-clause-thrower c = λ script es s run x r. thrower_blocked (script_of script) x s r (standing_of (script_of script) es s run)

pub returns-clause-sleeper : goal.returns-clause-sleeper
returns-clause-sleeper c = λ script es s run x r. sleeper_blocked (script_of script) x s r (standing_of (script_of script) es s run)

pub returns-clause-throws : goal.returns-clause-throws
returns-clause-throws c = λ script es s run x r t u e th is b. thrower_waits (script_of script) x s r (standing_of (script_of script) es s run) t th is b u e

pub returns-clause-sleeps : goal.returns-clause-sleeps
returns-clause-sleeps c = λ script es s run x r t n th is b. sleeper_waits (script_of script) x s r (standing_of (script_of script) es s run) t th is b n

pub returns-clause-free : goal.returns-clause-free
returns-clause-free c = λ script. free_waits (script_of script)

use Rattle.rules_expansion.specs.trees.Programs.{script_of}
use Rattle.rules_meaning.specs.CoreMeaning.{code_of}
use Rattle.slot_states.proofs.Printed.{next_adds, entry_adds, nothing_yet, run_prints}
use Rattle.slot_states.proofs.outputs.entries_print.Goals as goal

pub returns-clause-state : goal.returns-clause-state
returns-clause-state c = λ script x s u e r n. next_adds (script_of script) x s r (code_of (script_of script)) u e n

pub returns-clause-history : goal.returns-clause-history
returns-clause-history c = λ script. entry_adds (script_of script)

pub returns-clause-begins : goal.returns-clause-begins
returns-clause-begins c = λ script. nothing_yet (script_of script)

pub returns-clause-now : goal.returns-clause-now
returns-clause-now c = λ script. run_prints (script_of script)

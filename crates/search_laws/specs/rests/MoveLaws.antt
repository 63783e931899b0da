-- What chains of eager moves are to a run (own).
use Rattle.std.specs.Prelude.{◌≡◌, ◌++◌, ℕ, List}
use Rattle.hs_base.specs.declared.tree.script.Script.{Script}
use Rattle.hs_rules.specs.declared.entry.Entry.{Entry}
use Rattle.rules_expansion.specs.trees.Programs.{script_of}
use Rattle.rules_meaning.specs.CoreMeaning.{code_of}
use Rattle.rules_typing.specs.TypingScripts.{Accepted}
use Rattle.rules_code.specs.CodeTrees.{code_trees}
use Rattle.hs_rules.specs.State.{State}
use Rattle.hs_rules.specs.Runs.{IsRun}
use Rattle.outcome_laws.specs.reduction.EagerRules.{EagerSteps}
use Rattle.slot_states.specs.SlotStates.{SlotState, Represents}
use Rattle.search_laws.specs.rests.Rests.{EagerMoves, AreLocals}

-- Where a state with slots stands for the state that a run of an accepted script leaves, a chain of eager moves from it is as
-- long a chain of eager steps of that state: what it comes to stands for what they come to, and they are Locals of one step
-- that go on the run and print nothing.
abbrev pub EagerMovesAreEagerSteps : Type 0
EagerMovesAreEagerSteps =
    (script : Script) → Accepted script →
    (es : List Entry) (s : State) → IsRun (script_of script) es s →
    (x : SlotState) → Represents (script_of script) x s →
    (k : ℕ) (y : SlotState) → EagerMoves (code_trees (script_of script)) k x y →
    (u : State) × EagerSteps (code_of (script_of script)) k s u × Represents (script_of script) y u × (fs : List Entry) ×
    AreLocals fs × IsRun (script_of script) (es ++ fs) u × (u.output ≡ s.output) × (u.errors ≡ s.errors)

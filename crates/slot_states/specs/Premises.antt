-- What laws of states with slots are said of (own): of which states, and of which entries.
use Rattle.std.specs.Prelude.{ℕ, List}
use Rattle.hs_base.specs.declared.tree.script.Script.{Script}
use Rattle.hs_rules.specs.declared.entry.Entry.{Entry}
use Rattle.hs_rules.specs.declared.entry.Entry.TheVariants.{Op}
use Rattle.rules_expansion.specs.trees.Programs.{script_of}
use Rattle.rules_typing.specs.TypingScripts.{Accepted}
use Rattle.hs_rules.specs.State.{State}
use Rattle.hs_rules.specs.Runs.{IsRun}
use Rattle.slot_laws.specs.SlotRules.{SlotOp, performs}
use Rattle.slot_states.specs.SlotStates.{SlotState, Represents, Enters, StandsAt, MainGoes}

-- a law of the state that a run of a script leaves, and of each state with slots that stands for it
abbrev pub OfRuns : (State → SlotState → Type 0) → Type 0
OfRuns law =
    (script : Script) (es : List Entry) (s : State) → IsRun (script_of script) es s →
    (x : SlotState) → Represents (script_of script) x s →
    law s x

-- the same where the script is accepted; and the law may name the script
abbrev pub OfAcceptedRuns : (Script → State → SlotState → Type 0) → Type 0
OfAcceptedRuns law =
    (script : Script) → Accepted script →
    (es : List Entry) (s : State) → IsRun (script_of script) es s →
    (x : SlotState) → Represents (script_of script) x s →
    law script s x

-- where thread t stands at this operation and main hasn't finished, its Op is entered and leaves y
abbrev pub OpEnters : Script → SlotState → ℕ → SlotOp → SlotState → Type 0
OpEnters script x t op y = StandsAt x t (performs op) → MainGoes x → Enters script (Op t) x y

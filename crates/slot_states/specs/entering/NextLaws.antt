-- That whatever is legal has a next state (own).
use Rattle.std.specs.Prelude.{◌≡◌, List, Some}
use Rattle.hs_base.specs.declared.tree.script.Script.{Script}
use Rattle.hs_rules.specs.declared.entry.Entry.{Entry}
use Rattle.rules_expansion.specs.trees.Programs.{script_of}
use Rattle.rules_meaning.specs.CoreMeaning.{code_of}
use Rattle.rules_typing.specs.TypingScripts.{Accepted}
use Rattle.rules_code.specs.CodeTrees.{code_trees}
use Rattle.hs_rules.specs.State.{State}
use Rattle.hs_rules.specs.Entries.{Leads}
use Rattle.hs_rules.specs.Runs.{IsRun}
use Rattle.slot_states.specs.SlotStates.{SlotState, Represents}
use Rattle.slot_states.specs.entering.Entering.{next}

-- Where an entry leads on from the state that a run of an accepted script leaves, `next` of each state with slots that stands
-- for it has a state, which stands for the one that the entry leaves.
abbrev pub WhatIsLegalIsNext : Type 0
WhatIsLegalIsNext =
    (script : Script) → Accepted script →
    (es : List Entry) (s u : State) → IsRun (script_of script) es s →
    (x : SlotState) → Represents (script_of script) x s →
    (e : Entry) → Leads (code_of (script_of script)) s e u →
    (y : SlotState) × (next (code_trees (script_of script)) x e ≡ Some y) × Represents (script_of script) y u

-- What entries print (own).
use Rattle.std.specs.Prelude.{◌≡◌, ◌++◌, ◌∷◌, [], List, Some}
use Rattle.hs_base.specs.declared.tree.script.Script.{Script}
use Rattle.hs_rules.specs.declared.entry.Entry.{Entry}
use Rattle.rules_expansion.specs.trees.Programs.{script_of}
use Rattle.rules_meaning.specs.CoreMeaning.{code_of}
use Rattle.hs_rules.specs.State.{State}
use Rattle.hs_rules.specs.Entries.{next, Leads}
use Rattle.hs_rules.specs.Runs.{IsRun, out, err}
use Rattle.slot_states.specs.SlotStates.{SlotState, Represents}
use Rattle.slot_states.specs.Printing.{output_by, errors_by}

-- What an entry leaves of a state has printed what was printed before, and behind it what the entry prints by a state with
-- slots that stands for the one before.
abbrev pub StatesPrint : Type 0
StatesPrint =
    (script : Script) (x : SlotState) (s u : State) (e : Entry) → Represents (script_of script) x s →
    next (code_of (script_of script)) s e ≡ Some u →
    (u.output ≡ s.output ++ output_by x e) × (u.errors ≡ s.errors ++ errors_by x e)

-- So it is of what histories print: with an entry more, what was printed before, and behind it what that entry prints.
abbrev pub HistoriesPrint : Type 0
HistoriesPrint =
    (script : Script) (es : List Entry) (s u : State) (e : Entry) (x : SlotState) → IsRun (script_of script) es s →
    Represents (script_of script) x s → Leads (code_of (script_of script)) s e u →
    (out (script_of script) (es ++ e ∷ []) ≡ out (script_of script) es ++ output_by x e) ×
    (err (script_of script) (es ++ e ∷ []) ≡ err (script_of script) es ++ errors_by x e)

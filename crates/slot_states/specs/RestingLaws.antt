-- Actions alone, and the first state (own).
use Rattle.std.specs.Prelude.{◌≡◌, [], ◌∷◌, ℕ, List, Some, slice_get, false}
use Rattle.hs_base.specs.declared.mask.Mask.{Mask}
use Rattle.hs_base.specs.declared.tree.script.Script.{Script}
use Rattle.rules_expansion.specs.trees.Programs.{script_of}
use Rattle.rules_meaning.specs.Values.{V}
use Rattle.rules_sorts.specs.TypedMeaning.{any_cell}
use Rattle.rules_typing.specs.TypingScripts.{Accepted}
use Rattle.rules_code.specs.CodeTrees.{Sa, main_tree}
use Rattle.hs_rules.specs.State.{State}
use Rattle.hs_rules.specs.Runs.{IsRun}
use Rattle.slot_laws.specs.SlotRules.{doing, mask_in, at}
use Rattle.slot_laws.specs.Standing.{Stands}
use Rattle.hs_rules.specs.Terms.{Term}
use Rattle.slot_states.specs.SlotStates.{SlotThread, SlotState, Represents}

-- Where a state with slots stands for a state of the rules, the action that one of its threads is to do, alone in a masking
-- scope of any state, stands for a term with names.
abbrev pub ActionsGoAlone : Type 0
ActionsGoAlone =
    (script : Script) (x : SlotState) (s : State) → Represents (script_of script) x s →
    (t : ℕ) (th : SlotThread) → slice_get x.threads t ≡ Some th →
    (tree : Sa) (vs : List V) → th.term.part ≡ doing tree vs →
    (m : Mask) →
    (u : Term) × Stands any_cell (script_of script) (at (doing tree vs) (mask_in m ∷ [])) u

-- In an accepted script main alone, which is to do the tree of its body without values, with nothing in flight, nobody asleep
-- and the clock and all counts at 0, stands for the state that the run without entries leaves.
abbrev pub FirstStateStands : Type 0
FirstStateStands =
    (script : Script) → Accepted script →
    (s : State) × IsRun (script_of script) [] s ×
    Represents (script_of script) (record {
      threads = record { term = at (doing (main_tree (script_of script)) []) []; blocked = false; finished = false } ∷ [];
      cells = [];
      flight = [];
      sleepers = [];
      clock = 0;
      next_instance = 0;
      next_timeout = 0;
      printed = 0;
    }) s

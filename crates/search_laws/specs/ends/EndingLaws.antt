-- What falling ranks, and rounds, of a search say of the runs of a script (own).
use Rattle.std.specs.Prelude.{◌≡◌, ℕ, List, Option, Some, slice_get}
use Rattle.hs_base.specs.declared.clock_choice.ClockChoice.{ClockChoice}
use Rattle.hs_base.specs.declared.limits.Limits.{Limits}
use Rattle.hs_base.specs.declared.tree.script.Script.{Script}
use Rattle.rules_expansion.specs.trees.Programs.{script_of}
use Rattle.rules_typing.specs.TypingScripts.{Accepted}
use Rattle.rules_code.specs.CodeTrees.{code_trees}
use Rattle.outcome_laws.specs.Timings.{IsEndless}
use Rattle.slot_states.specs.SlotStates.{SlotState}
use Rattle.search_laws.specs.Shown.{Shown, IsFirst, Arrives}
use Rattle.search_laws.specs.Found.{Edge, AreTrueEdges, AreGone}
use Rattle.search_laws.specs.ends.Rounds.{RanksFall, IsRound, HasWork}

-- a law of a timing and an accepted script where a search has gone on from each of its states, its edges lead where they say,
-- and ranks fall along each of them, the first state having one
abbrev pub WhereRanksFall : (ClockChoice → Script → Type 0) → Type 0
WhereRanksFall law =
    (script : Script) → Accepted script →
    (clock : ClockChoice) (limits : Limits) (first : SlotState) (states : List Shown) (edges : List Edge) →
    IsFirst (script_of script) first → AreGone clock (code_trees (script_of script)) limits first states edges →
    AreTrueEdges clock (code_trees (script_of script)) limits states edges →
    (rank : ℕ → Option ℕ) → RanksFall edges rank →
    (n : ℕ) → rank 0 ≡ Some n →
    law clock script

-- In an accepted script, where the edges of a search lead where they say, each round has an entry other than a Tick.
abbrev pub RoundsHaveWork : Type 0
RoundsHaveWork =
    (script : Script) → Accepted script →
    (clock : ClockChoice) (limits : Limits) (states : List Shown) (edges : List Edge) →
    AreTrueEdges clock (code_trees (script_of script)) limits states edges →
    (at : ℕ) (places : List ℕ) → IsRound edges at places →
    HasWork edges places

-- There, where some run of the timing comes to a state from which a round leads back to it, the script is endless.
abbrev pub RoundsAreEndless : Type 0
RoundsAreEndless =
    (script : Script) → Accepted script →
    (clock : ClockChoice) (limits : Limits) (states : List Shown) (edges : List Edge) →
    AreTrueEdges clock (code_trees (script_of script)) limits states edges →
    (at : ℕ) (places : List ℕ) → IsRound edges at places →
    (c : Shown) → slice_get states at ≡ Some c →
    (steps : ℕ) → Arrives clock (script_of script) limits steps c →
    IsEndless clock (script_of script)

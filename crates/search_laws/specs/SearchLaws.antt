-- What a search over all schedules of a script has found is what its runs come to (own).
use Rattle.std.specs.Prelude.{◌≡◌, ◌+◌, ℕ, List, Option, Some, slice_get}
use Rattle.std.specs.List.{Contains}
use Rattle.hs_base.specs.declared.clock_choice.ClockChoice.{ClockChoice}
use Rattle.hs_base.specs.declared.clock_choice.ClockChoice.TheVariants.{Real}
use Rattle.hs_base.specs.declared.limits.Limits.{Limits}
use Rattle.hs_base.specs.declared.tree.script.Script.{Script}
use Rattle.hs_rules.specs.declared.entry.Entry.{Entry}
use Rattle.hs_rules.specs.declared.entry.Entry.TheVariants.{Tick}
use Rattle.hs_rules.specs.State.{State}
use Rattle.hs_rules.specs.Entries.{IsLegal}
use Rattle.hs_rules.specs.Runs.{IsRun}
use Rattle.rules_expansion.specs.trees.Programs.{script_of}
use Rattle.rules_meaning.specs.CoreMeaning.{code_of}
use Rattle.rules_typing.specs.TypingScripts.{Accepted}
use Rattle.rules_code.specs.CodeTrees.{SlottedFunction, code_trees}
use Rattle.outcome_laws.specs.timing.WithoutTime.{ReadsClock}
use Rattle.outcome_laws.specs.Outcomes.{Final, Outcome, EndsBy, IsOutcomeOf}
use Rattle.slot_states.specs.SlotStates.{SlotState}
use Rattle.slot_states.specs.entering.Entering.{next}
use Rattle.search_laws.specs.Shown.{Shown, StandsAs, IsFirst, Arrives, Uses}
use Rattle.search_laws.specs.Going.{MayTake, ReadsTime, steps_by, Leaves}
use Rattle.search_laws.specs.Found.{Source, Comes, HaveSources, Edge, AreTrueEdges, IsFollowed, IsGone, AreGone, candidates, HasKind, MayHaveKind, IsSeen}

-- In an accepted script, where the sources lead from the first state to the states of a search: a run of the timing, of as many
-- steps as its source says and within the limits, leaves a state that each stands for.
abbrev pub StatesAreThoseOfRuns : Type 0
StatesAreThoseOfRuns =
    (clock : ClockChoice) (script : Script) → Accepted script →
    (limits : Limits) (first : SlotState) → IsFirst (script_of script) first →
    (states : List Shown) (sources : List Source) →
    HaveSources clock (code_trees (script_of script)) limits first states sources →
    (i : ℕ) (c : Shown) (o : Source) → slice_get states i ≡ Some c → slice_get sources i ≡ Some o →
    Arrives clock (script_of script) limits o.steps c

-- The same of whatever a source comes to, whether it is among the states or not.
abbrev pub SourcesComeToStatesOfRuns : Type 0
SourcesComeToStatesOfRuns =
    (clock : ClockChoice) (script : Script) → Accepted script →
    (limits : Limits) (first : SlotState) → IsFirst (script_of script) first →
    (states : List Shown) (sources : List Source) →
    HaveSources clock (code_trees (script_of script)) limits first states sources →
    (o : Source) (d : Shown) → Comes clock (code_trees (script_of script)) limits first states sources o d →
    Arrives clock (script_of script) limits o.steps d

-- In an accepted script, where a search has gone on from each of its states, the first one among them, and its edges lead where
-- they say: each outcome of the script is seen in some state.
abbrev pub OutcomesAreSeen : Type 0
OutcomesAreSeen =
    (clock : ClockChoice) (script : Script) → Accepted script →
    (limits : Limits) (first : SlotState) → IsFirst (script_of script) first →
    (states : List Shown) (edges : List Edge) → AreGone clock (code_trees (script_of script)) limits first states edges →
    AreTrueEdges clock (code_trees (script_of script)) limits states edges →
    (o : Outcome) → IsOutcomeOf clock (script_of script) o →
    IsSeen clock (script_of script) states o

-- In an accepted script, where what a search keeps stands for the state that a run leaves: as it has ended, whether or not
-- anybody has looked whether it is stuck, that run has ended.
abbrev pub EndsAreRight : Type 0
EndsAreRight =
    (clock : ClockChoice) (script : Script) → Accepted script →
    (es : List Entry) (s : State) → IsRun (script_of script) es s →
    (c : Shown) → StandsAs clock (script_of script) c s →
    (end : Option Final) → MayHaveKind (code_trees (script_of script)) c end →
    (f : Final) → end ≡ Some f →
    EndsBy f (code_of (script_of script)) s

-- There, where somebody has looked whether it is stuck: as that run has ended, it has ended.
abbrev pub EndsAreAll : Type 0
EndsAreAll =
    (clock : ClockChoice) (script : Script) → Accepted script →
    (es : List Entry) (s : State) → IsRun (script_of script) es s →
    (c : Shown) → StandsAs clock (script_of script) c s →
    (end : Option Final) → HasKind (code_trees (script_of script)) c end →
    (f : Final) → EndsBy f (code_of (script_of script)) s →
    end ≡ Some f

-- In an accepted script, where a run of the timing comes to what a search keeps: an entry that has a next state there and reads
-- time is legal in the state that the run leaves, and reads the clock there, and the timing is the real one.
abbrev pub ReadingsAreThoseOfRuns : Type 0
ReadingsAreThoseOfRuns =
    (clock : ClockChoice) (script : Script) → Accepted script →
    (limits : Limits) (n : ℕ) (c : Shown) (z : SlotState) (e : Entry) (a : Arrives clock (script_of script) limits n c) →
    ReadsTime clock c.slots e → next (code_trees (script_of script)) c.slots e ≡ Some z →
    (clock ≡ Real) × IsLegal (code_of (script_of script)) a.state e × ReadsClock a.state e

-- There, whatever an entry leaves, within the limits or not, uses as much as the last state of some run of the timing, of as
-- many steps as came before and the entry's.
abbrev pub UsesAreThoseOfRuns : Type 0
UsesAreThoseOfRuns =
    (clock : ClockChoice) (script : Script) → Accepted script →
    (limits : Limits) (n : ℕ) (c : Shown) (e : Entry) (z : SlotState) →
    Leaves clock (code_trees (script_of script)) c.slots e z → Arrives clock (script_of script) limits n c →
    Uses clock (script_of script) (n + steps_by clock e) z

-- Where each candidate that has a next state is followed by an edge, and so is each Tick that may be taken, the search has gone
-- on from the state.
abbrev pub CandidatesAreEnough : Type 0
CandidatesAreEnough =
    (clock : ClockChoice) (funs : List SlottedFunction) (edges : List Edge) (i : ℕ) (c : Shown) →
    ((e : Entry) → Contains (candidates c.slots) e → IsFollowed funs edges i c e) →
    ((at : ℕ) → MayTake clock funs c.slots (Tick at) → IsFollowed funs edges i c (Tick at)) →
    IsGone clock funs edges i c

-- What is promised of a search (own).
use Rattle.std.specs.Prelude.{◌≡◌, ◌≤◌, ◌<◌, ◌+◌, ℕ, List, [], length, Option, Some, None, slice_get}
use Rattle.hs_base.specs.declared.clock_choice.ClockChoice.TheVariants.{Real}
use Rattle.hs_base.specs.declared.limits.Limits.{Limits}
use Rattle.hs_base.specs.declared.tree.script.Script.{Script}
use Rattle.hs_rules.specs.declared.entry.Entry.{Entry}
use Rattle.hs_rules.specs.declared.entry.LimitKind.{LimitKind}
use Rattle.hs_rules.specs.declared.entry.LimitKind.TheVariants as limit
use Rattle.hs_rules.specs.State.{State}
use Rattle.hs_rules.specs.Entries.{IsLegal}
use Rattle.hs_rules.specs.Endings.{allowed, FirstExceeded}
use Rattle.hs_rules.specs.Runs.{first_of}
use Rattle.rules_expansion.specs.trees.Programs.{script_of}
use Rattle.rules_meaning.specs.CoreMeaning.{code_of}
use Rattle.rules_typing.specs.TypingScripts.{Accepted}
use Rattle.rules_code.specs.declared.code.CodeBody.{CodeBody}
use Rattle.rules_code.specs.CodeTrees.{StandsFor}
use Rattle.outcome_laws.specs.timing.WithoutTime as named
use Rattle.outcome_laws.specs.Timings.{TimedRun}
use Rattle.outcome_laws.specs.Outcomes as laws
use Rattle.outcome_laws.specs.Outcomes.{EndsBy, IsOutcomeOf}
use Rattle.outcome_listing.specs.declared.bounds.Bounds.{Bounds}
use Rattle.outcome_listing.specs.declared.explored.Cause.{Cause}
use Rattle.outcome_listing.specs.declared.explored.Cause.TheVariants as cause
use Rattle.slot_states.specs.SlotStates.{SlotState}
use Rattle.slot_states.specs.Resting.{used}
use Rattle.slot_states.specs.entering.Entering.{next}
use Rattle.local_steps.specs.Machine.{funs_of}
use Rattle.number_tables.specs.Tables.{AreApart}
use Rattle.number_states.specs.declared.state.NumberState.{NumberState}
use Rattle.number_states.specs.States.{AreIn}
use Rattle.number_states.specs.Keys.{state_key}
use Rattle.search_laws.specs.Shown.{Shown, Arrives}
use Rattle.search_laws.specs.Going.{ReadsTime, steps_by, Leaves}
use Rattle.search_laws.specs.Found.{Source, Comes, HaveSources, AreTrueEdges, AreInOrder, AreGone, HasKind, MayHaveKind}
use Rattle.state_search.specs.declared.found.Found.{Found}
use Rattle.state_search.specs.declared.found.Gap.{Gap}
use Rattle.state_search.specs.declared.found.Origin.{Origin}
use Rattle.state_search.specs.Meaning.{states_of, sources_of, edges_of, kinds_of, source_of, begun}

-- ---- by number

-- the first limit that a state with slots exceeds, in the order of the kinds
abbrev pub Exceeds : LimitKind → Limits → SlotState → Type 0
Exceeds kind limits x = allowed kind limits < used kind x

abbrev pub ExceedsFirst : LimitKind → Limits → SlotState → Type 0
ExceedsFirst limit.Threads limits x = Exceeds limit.Threads limits x
ExceedsFirst limit.Cells limits x = ¬ Exceeds limit.Threads limits x × Exceeds limit.Cells limits x
ExceedsFirst limit.Frames limits x = ¬ Exceeds limit.Threads limits x × ¬ Exceeds limit.Cells limits x × Exceeds limit.Frames limits x
ExceedsFirst limit.Output limits x = ¬ Exceeds limit.Threads limits x × ¬ Exceeds limit.Cells limits x × ¬ Exceeds limit.Frames limits x × Exceeds limit.Output limits x

-- the state with slots x is that with which a run begins, or what an entry leaves of a state of the search, on a path of so many
-- steps
abbrev pub MeetsBy : Bounds → CodeBody → Found → Option Entry → ℕ → SlotState → ℕ → Type 0
MeetsBy bounds b f None parent x steps = (x ≡ begun b) × (steps ≡ 0)
MeetsBy bounds b f (Some e) parent x steps =
    (c : Shown) × (s : Source) × (slice_get (states_of b f) parent ≡ Some c) × (slice_get (sources_of f) parent ≡ Some s) × Leaves bounds.clock (funs_of b) c.slots e x
    × (steps ≡ s.steps + steps_by bounds.clock e)

-- in real timing an entry that has a next state reads the clock
abbrev pub ReadsBy : Bounds → CodeBody → Found → Option Entry → ℕ → Type 0
ReadsBy bounds b f None parent = ⊥
ReadsBy bounds b f (Some e) parent = (c : Shown) × (z : SlotState) × (slice_get (states_of b f) parent ≡ Some c) × ReadsTime bounds.clock c.slots e × (next (funs_of b) c.slots e ≡ Some z)

-- The evidence of a gap, by number: an entry reads the clock; a path has too many steps; what an entry leaves, before any eager
-- rule, exceeds a limit; there are as many states as may be.
abbrev pub HasCause : Bounds → CodeBody → Found → Origin → Cause → Type 0
HasCause bounds b f o cause.Clock = ReadsBy bounds b f o.entry o.parent
HasCause bounds b f o cause.Fuel = (d : Shown) × Comes bounds.clock (funs_of b) bounds.limits (begun b) (states_of b f) (sources_of f) (source_of o) d × (bounds.fuel < o.steps)
HasCause bounds b f o (cause.Limit kind) = (x : SlotState) × MeetsBy bounds b f o.entry o.parent x o.steps × ExceedsFirst kind bounds.limits x × (o.rest.items ≡ [])
HasCause bounds b f o cause.States = length f.states ≡ bounds.states

abbrev pub GapIs : Bounds → CodeBody → Found → Option Gap → Type 0
GapIs bounds b f None = Unit {0}
GapIs bounds b f (Some g) = HasCause bounds b f g.by g.cause

-- What was found holds together: no two states have one key, the search came to each by its origin within the fuel, each end is
-- right, each move leads where it says, and so does the gap.
pub record Searched (bounds : Bounds) (b : CodeBody) (f : Found) : Type 0 where
  pub apart : AreApart state_key f.states
  pub origins : length f.origins.items ≡ length f.states
  pub kinds : length f.kinds.items ≡ length f.states
  pub few : length f.states ≤ bounds.states
  pub there : (i : ℕ) (n : NumberState) → slice_get f.states i ≡ Some n → AreIn f.numbers n
  pub sources : HaveSources bounds.clock (funs_of b) bounds.limits (begun b) (states_of b f) (sources_of f)
  pub short : (i : ℕ) (o : Origin) → slice_get f.origins.items i ≡ Some o → o.steps ≤ bounds.fuel
  pub ends : (i : ℕ) (c : Shown) (k : Option laws.Final) → slice_get (states_of b f) i ≡ Some c → slice_get (kinds_of f) i ≡ Some k → MayHaveKind (funs_of b) c k
  pub edges : AreTrueEdges bounds.clock (funs_of b) bounds.limits (states_of b f) (edges_of f)
  pub in_order : AreInOrder (edges_of f)
  pub gap : GapIs bounds b f f.gap

-- where nothing was left out: the search has gone on from each state, and knows how each has ended
pub record IsClosed (bounds : Bounds) (b : CodeBody) (f : Found) : Type 0 where
  pub gone : AreGone bounds.clock (funs_of b) bounds.limits (begun b) (states_of b f) (edges_of f)
  pub ends : (i : ℕ) (c : Shown) (k : Option laws.Final) → slice_get (states_of b f) i ≡ Some c → slice_get (kinds_of f) i ≡ Some k → HasKind (funs_of b) c k

-- ---- in the words of the rules

-- the code is that of an accepted script
abbrev pub IsCodeOf : CodeBody → Script → Type 0
IsCodeOf b script = Accepted script × StandsFor b.nodes b.acts b.funs b.main script

-- Some run of the timing, of as many steps as its origin says and no more than the fuel, within the limits, comes to the state of
-- this number; and where it has an end the run has ended so.
pub record IsReached (bounds : Bounds) (script : Script) (b : CodeBody) (f : Found) (i : ℕ) (c : Shown) : Type 0 where
  pub origin : Origin
  pub is : slice_get f.origins.items i ≡ Some origin
  pub short : origin.steps ≤ bounds.fuel
  pub arrives : Arrives bounds.clock (script_of script) bounds.limits origin.steps c
  pub ends : (end : laws.Final) → slice_get (kinds_of f) i ≡ Some (Some end) → EndsBy end (code_of (script_of script)) arrives.state

abbrev pub AreReached : Bounds → Script → CodeBody → Found → Type 0
AreReached bounds script b f = (i : ℕ) (c : Shown) → slice_get (states_of b f) i ≡ Some c → IsReached bounds script b f i c

-- an outcome is that of some state
pub record Shows (b : CodeBody) (f : Found) (o : laws.Outcome) : Type 0 where
  pub number : ℕ
  pub state : Shown
  pub is : slice_get (states_of b f) number ≡ Some state
  pub output : state.output ≡ o.output
  pub errors : state.errors ≡ o.errors
  pub end : slice_get (kinds_of f) number ≡ Some (Some o.end)

abbrev pub ShowsAll : Bounds → Script → CodeBody → Found → Type 0
ShowsAll bounds script b f = (o : laws.Outcome) → IsOutcomeOf bounds.clock (script_of script) o → Shows b f o

-- an entry is legal and reads the clock in a state that a run of real timing leaves, for which the state of this number stands
abbrev pub ReadsHere : Bounds → Script → CodeBody → Found → Option Entry → ℕ → Type 0
ReadsHere bounds script b f None parent = ⊥
ReadsHere bounds script b f (Some e) parent =
    (c : Shown) × (n : ℕ) × (a : Arrives bounds.clock (script_of script) bounds.limits n c) × (bounds.clock ≡ Real) × (slice_get (states_of b f) parent ≡ Some c) × IsLegal (code_of (script_of script)) a.state e
    × named.ReadsClock a.state e

-- The evidence of a gap: that; a run of the timing of more steps than the fuel; a run of it whose last state exceeds that limit, and
-- none before it in the order of kinds; as many states as may be.
abbrev pub ShowsCause : Bounds → Script → CodeBody → Found → Origin → Cause → Type 0
ShowsCause bounds script b f o cause.Clock = ReadsHere bounds script b f o.entry o.parent
ShowsCause bounds script b f o cause.Fuel = (d : Shown) × Arrives bounds.clock (script_of script) bounds.limits o.steps d × (bounds.fuel < o.steps)
ShowsCause bounds script b f o (cause.Limit kind) =
    (s : State) × (es : List Entry) × (u : State) × (first_of (script_of script) ≡ Some s) × TimedRun bounds.clock (code_of (script_of script)) s es u × FirstExceeded kind bounds.limits u
ShowsCause bounds script b f o cause.States = length f.states ≡ bounds.states

abbrev pub ShowsGap : Bounds → Script → CodeBody → Found → Option Gap → Type 0
ShowsGap bounds script b f None = Unit {0}
ShowsGap bounds script b f (Some g) = ShowsCause bounds script b f g.by g.cause

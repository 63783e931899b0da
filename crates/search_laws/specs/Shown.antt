-- What a state of a search shows (own): a state with slots, in real timing without time, and what was printed.
--
-- In real timing dues and clock decide nothing but what a script reads off the clock, so states that differ in these alone are one
-- state of the search.
use Rattle.std.specs.Prelude.{◌≡◌, ◌≤◌, ℕ, List, [], Some}
use Rattle.hs_base.specs.declared.clock_choice.ClockChoice.{ClockChoice}
use Rattle.hs_base.specs.declared.clock_choice.ClockChoice.TheVariants.{Real, Virtual}
use Rattle.hs_base.specs.declared.limits.Limits.{Limits}
use Rattle.hs_rules.specs.declared.entry.Entry.{Entry}
use Rattle.hs_rules.specs.declared.entry.LimitKind.{LimitKind}
use Rattle.hs_rules.specs.Endings.{allowed}
use Rattle.hs_rules.specs.Endings as endings
use Rattle.hs_laws.specs.HistoryEndings.{StaysWithin}
use Rattle.slot_states.specs.Resting.{used}
use Rattle.hs_rules.specs.State.{State}
use Rattle.hs_rules.specs.Histories.{steps_of}
use Rattle.hs_rules.specs.Runs.{first_of, IsRun}
use Rattle.rules_expansion.specs.trees.Programs.{Fn}
use Rattle.rules_meaning.specs.CoreMeaning.{code_of}
use Rattle.outcome_laws.specs.Timings.{TimedRun}
use Rattle.slot_states.specs.SlotStates.{SlotState, Represents}
use Rattle.search_laws.specs.time.WithoutTime.{untimed}

-- what a search in a timing keeps of a state
abbrev pub forget : ClockChoice → SlotState → SlotState
forget Real x = untimed x
forget Virtual x = x

-- a state with slots and both outputs
pub record Shown : Type 0 where
  pub slots : SlotState
  pub output : List ℕ
  pub errors : List ℕ

-- it stands for a state of the rules: in real timing but for time
pub record StandsAs (clock : ClockChoice) (ds : List Fn) (c : Shown) (s : State) : Type 0 where
  pub exact : SlotState
  pub represents : Represents ds exact s
  pub forgotten : forget clock exact ≡ c.slots
  pub output : s.output ≡ c.output
  pub errors : s.errors ≡ c.errors

-- a state with slots exceeds no limit
abbrev pub FitsIn : Limits → SlotState → Type 0
FitsIn limits x = (kind : LimitKind) → used kind x ≤ allowed kind limits

-- it stands for the first state of a script
abbrev pub IsFirst : List Fn → SlotState → Type 0
IsFirst ds x = (s : State) × IsRun ds [] s × Represents ds x s

-- Some run of the timing from the first state of a script, of so many steps, leaves a state for which it stands, and no state on
-- its way exceeds a limit.
pub record Arrives (clock : ClockChoice) (ds : List Fn) (limits : Limits) (steps : ℕ) (c : Shown) : Type 0 where
  pub begin : State
  pub begins : first_of ds ≡ Some begin
  pub entries : List Entry
  pub state : State
  pub run : TimedRun clock (code_of ds) begin entries state
  pub steps_are : steps_of entries ≡ steps
  pub within : StaysWithin limits ds entries
  pub stands : StandsAs clock ds c state

-- a run of the timing, of so many steps, leaves a state that uses as much as this one
pub record Uses (clock : ClockChoice) (ds : List Fn) (steps : ℕ) (x : SlotState) : Type 0 where
  pub begin : State
  pub begins : first_of ds ≡ Some begin
  pub entries : List Entry
  pub state : State
  pub run : TimedRun clock (code_of ds) begin entries state
  pub uses : (kind : LimitKind) → endings.used kind state ≡ used kind x

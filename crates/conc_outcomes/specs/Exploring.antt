-- What is promised of the outcomes that are listed (own).
use Rattle.std.specs.Prelude.{◌≡◌, ◌≤◌, ◌<◌, ℕ, List, [], ◌∷◌, length}
use Rattle.std.specs.List.{AllByRecursion, Contains}
use Rattle.std.specs.declared.cmp.Ordering.TheVariants.{Less}
use Rattle.hs_base.specs.declared.clock_choice.ClockChoice.TheVariants.{Real}
use Rattle.hs_base.specs.declared.tree.script.Script.{Script}
use Rattle.hs_rules.specs.declared.entry.Entry.{Entry}
use Rattle.hs_rules.specs.State.{State}
use Rattle.hs_rules.specs.Histories.{steps_of}
use Rattle.rules_expansion.specs.trees.Programs.{Fn, script_of}
use Rattle.rules_code.specs.declared.code.CodeBody.{CodeBody}
use Rattle.hs_laws.specs.ClockLaw.{ClockKept}
use Rattle.outcome_laws.specs.Timings.{IsEndless}
use Rattle.outcome_laws.specs.Outcomes as laws
use Rattle.outcome_laws.specs.Outcomes.{HasOutcome, IsOutcomeOf, outcome_cmp}
use Rattle.outcome_listing.specs.declared.bounds.Bounds.{Bounds}
use Rattle.outcome_listing.specs.declared.explored.Cause.{Cause}
use Rattle.outcome_listing.specs.declared.explored.Cause.TheVariants as cause
use Rattle.outcome_listing.specs.declared.explored.Extent.{Extent}
use Rattle.outcome_listing.specs.declared.explored.Extent.TheVariants.{All, NotAll}
use Rattle.outcome_listing.specs.declared.explored.Endless.{Endless}
use Rattle.outcome_listing.specs.declared.explored.Endless.TheVariants.{Never, Round, Unknown}
use Rattle.outcome_listing.specs.declared.explored.Outcome.{Outcome}
use Rattle.outcome_listing.specs.declared.explored.Explored.{Explored}
use Rattle.outcome_listing.specs.Finals.{outcome_of, outcomes_of}
use Rattle.number_tables.specs.Tables.{IsNumberOf}
use Rattle.number_states.specs.declared.state.NumberState.{NumberState}
use Rattle.number_states.specs.Stocks.{Stock, HasGrown}
use Rattle.number_states.specs.States.{AreIn}
use Rattle.number_states.specs.Keys.{state_key}
use Rattle.search_laws.specs.Shown.{StandsAs}
use Rattle.search_laws.specs.ends.Rounds.{HaveBound}
use Rattle.state_search.specs.declared.found.Found.{Found}
use Rattle.state_search.specs.Meaning.{shown}
use Rattle.state_search.specs.Searching.{Searched, AreReached, Shows}
use Rattle.conc_outcomes.specs.walks.Walking.{IsTimedRun, StaysBefore, IsUnread, IsWitness, ExceedsLast, ReadsLast, ComesBack}

-- ---- each outcome that is listed

-- Its witness is a run of the timing, of at most so many steps and within the limits, which keeps the law of the clock with no early
-- Tick, in real timing reads no clock, and comes to it.
pub record IsListed (bounds : Bounds) (ds : List Fn) (o : Outcome) : Type 0 where
  pub witness : IsWitness bounds.clock bounds.limits ds o.witness.list
  pub short : steps_of o.witness.list ≤ bounds.fuel
  pub unread : IsUnread bounds.clock ds o.witness.list
  pub comes : HasOutcome ds o.witness.list (outcome_of o)

-- each comes before all that follow it, in the order of outcomes
abbrev pub IsBefore : laws.Outcome → laws.Outcome → Type 0
IsBefore o p = outcome_cmp o p ≡ Less

abbrev pub AreRising : List laws.Outcome → Type 0
AreRising [] = Unit {0}
AreRising (o ∷ os) = AllByRecursion (IsBefore o) os × AreRising os

-- ---- why there may be others

-- The entries are a run of the timing that keeps the law of the clock with no early Tick, and no state before the last exceeds a limit.
-- So beside other work no two Ticks stand in a row, and each moves the clock.
pub record IsRunOf (bounds : Bounds) (ds : List Fn) (es : List Entry) : Type 0 where
  pub state : State
  pub run : IsTimedRun bounds.clock ds es state
  pub before : StaysBefore bounds.limits ds es
  pub kept : ClockKept ds es 0

-- Such a run leaves a state for which, but for what the timing forgets, one by number stands that is none of these: in tables that have
-- grown from theirs none of them has its key.
pub record LeavesAnother (bounds : Bounds) (ds : List Fn) (b : CodeBody) (g : Stock) (states : List NumberState) (es : List Entry) : Type 0 where
  pub leaves : IsRunOf bounds ds es
  pub numbers : Stock
  pub grown : HasGrown g numbers
  pub another : NumberState
  pub there : AreIn numbers another
  pub stands : StandsAs bounds.clock ds (shown numbers b another) leaves.state
  pub other : (n : ℕ) → IsNumberOf state_key states n another → ⊥

-- The evidence of each: in real timing the last entry of a run reads the clock; a run has more steps than may be; the last state of a
-- run, and no other of it, exceeds that limit; there are as many states as may be, and a run leaves another one.
abbrev pub HasGap : Bounds → List Fn → CodeBody → Stock → List NumberState → Cause → List Entry → Type 0
HasGap bounds ds b g states cause.Clock es = (bounds.clock ≡ Real) × ReadsLast bounds.clock bounds.limits ds es
HasGap bounds ds b g states cause.Fuel es = IsRunOf bounds ds es × (bounds.fuel < steps_of es)
HasGap bounds ds b g states (cause.Limit kind) es = ExceedsLast kind bounds.clock bounds.limits ds es
HasGap bounds ds b g states cause.States es = (length states ≡ bounds.states) × LeavesAnother bounds ds b g states es

-- where all are listed each outcome of the script in this timing is, whatever the length of its runs and whatever they use
abbrev pub Lists : Bounds → List Fn → CodeBody → Stock → List NumberState → List Outcome → Extent → Type 0
Lists bounds ds b g states os All = (o : laws.Outcome) → IsOutcomeOf bounds.clock ds o → Contains (outcomes_of os) o
Lists bounds ds b g states os (NotAll why run) = HasGap bounds ds b g states why run.list

-- ---- whether every schedule ends

-- Every schedule does, only where all is listed: some number bounds the entries other than Ticks of each run. Some schedule doesn't: a
-- run comes back to a state. It isn't known, only where there may be others.
abbrev pub HasEnds : Bounds → List Fn → Extent → Endless → Type 0
HasEnds bounds ds extent Never = (extent ≡ All) × HaveBound bounds.clock ds × ¬ IsEndless bounds.clock ds
HasEnds bounds ds extent (Round to round) = ComesBack bounds.clock ds to.list round.list × IsEndless bounds.clock ds
HasEnds bounds ds extent Unknown = extent ≡ All → ⊥

-- ---- how many states there are

-- Each state of some search is one that a run of the timing leaves, no two of them have one key, and there are so many.
pub record AreCounted (bounds : Bounds) (script : Script) (b : CodeBody) (n : ℕ) : Type 0 where
  pub found : Found
  pub searched : Searched bounds b found
  pub reached : AreReached bounds script b found
  pub many : length found.states ≡ n

-- ---- the whole

pub record Explores (bounds : Bounds) (script : Script) (b : CodeBody) (x : Explored) : Type 0 where
  pub sound : AllByRecursion (IsListed bounds (script_of script)) x.outcomes
  pub rising : AreRising (outcomes_of x.outcomes)
  pub counted : AreCounted bounds script b x.states
  -- also beside a gap, each outcome that a counted state shows is listed
  pub seen : (o : laws.Outcome) → Shows b counted.found o → Contains (outcomes_of x.outcomes) o
  pub lists : Lists bounds (script_of script) b counted.found.numbers counted.found.states x.outcomes x.extent
  pub ends : HasEnds bounds (script_of script) x.extent x.endless

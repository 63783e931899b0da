-- What a run shows that is entered again (own), in the words of the rules.
use Rattle.std.specs.Prelude.{◌≡◌, ◌<◌, List, [], ◌∷◌, ◌++◌, length, Some}
use Rattle.hs_base.specs.declared.clock_choice.ClockChoice.{ClockChoice}
use Rattle.hs_base.specs.declared.clock_choice.ClockChoice.TheVariants.{Real, Virtual}
use Rattle.hs_base.specs.declared.limits.Limits.{Limits}
use Rattle.hs_rules.specs.declared.entry.Entry.{Entry}
use Rattle.hs_rules.specs.declared.entry.LimitKind.{LimitKind}
use Rattle.rules_expansion.specs.trees.Programs.{Fn}
use Rattle.rules_meaning.specs.CoreMeaning.{code_of}
use Rattle.hs_rules.specs.State.{State}
use Rattle.hs_rules.specs.Endings.{IsWithin, FirstExceeded}
use Rattle.hs_rules.specs.Runs.{first_of, after}
use Rattle.hs_laws.specs.ClockLaw.{ClockKept}
use Rattle.hs_laws.specs.HistoryEndings.{StaysWithin}
use Rattle.outcome_laws.specs.timing.WithoutTime.{ReadsClock, without_ticks}
use Rattle.outcome_laws.specs.Timings.{TimedRun}
use Rattle.search_laws.specs.Shown.{Shown, StandsAs}

-- the entries are a run of the timing from the first state of a script, which leaves this state
pub record IsTimedRun (clock : ClockChoice) (ds : List Fn) (es : List Entry) (s : State) : Type 0 where
  pub begin : State
  pub begins : first_of ds ≡ Some begin
  pub run : TimedRun clock (code_of ds) begin es s

-- no state before the last exceeds a limit
abbrev pub StaysBefore : Limits → List Fn → List Entry → Type 0
StaysBefore limits ds es = (front back : List Entry) (e : Entry) (s : State) → es ≡ front ++ e ∷ back → after ds front ≡ Some s → IsWithin limits s

-- no entry of a history reads the clock
abbrev pub NeverReads : List Fn → List Entry → Type 0
NeverReads ds es = (front back : List Entry) (e : Entry) (s : State) → es ≡ front ++ e ∷ back → after ds front ≡ Some s → ¬ ReadsClock s e

-- in real timing it reads none; in virtual timing it may
abbrev pub IsUnread : ClockChoice → List Fn → List Entry → Type 0
IsUnread clock ds es = clock ≡ Real → NeverReads ds es

-- A run of the timing that keeps the law of the clock with no early Tick leaves a state for which this one stands exactly, and no
-- state before that exceeds a limit.
pub record LeadsTo (clock : ClockChoice) (limits : Limits) (ds : List Fn) (es : List Entry) (c : Shown) : Type 0 where
  pub state : State
  pub run : IsTimedRun clock ds es state
  pub before : StaysBefore limits ds es
  pub kept : ClockKept ds es 0
  pub stands : StandsAs Virtual ds c state

-- ---- what it is evidence for

-- A run of the timing within the limits that keeps the law of the clock with no early Tick: a runner over a punctual clock may have
-- it as its history.
pub record IsWitness (clock : ClockChoice) (limits : Limits) (ds : List Fn) (es : List Entry) : Type 0 where
  pub state : State
  pub run : IsTimedRun clock ds es state
  pub within : StaysWithin limits ds es
  pub kept : ClockKept ds es 0

-- A run of the timing whose last state exceeds this limit, and none before it in the order of kinds; no other state exceeds any. It
-- keeps the law of the clock with no early Tick.
pub record ExceedsLast (kind : LimitKind) (clock : ClockChoice) (limits : Limits) (ds : List Fn) (es : List Entry) : Type 0 where
  pub state : State
  pub run : IsTimedRun clock ds es state
  pub exceeds : FirstExceeded kind limits state
  pub before : StaysBefore limits ds es
  pub kept : ClockKept ds es 0

-- A run of the timing whose last entry reads the clock, and in real timing no other does. It keeps the law of the clock with no early
-- Tick, and no state before the last exceeds a limit.
pub record ReadsLast (clock : ClockChoice) (limits : Limits) (ds : List Fn) (es : List Entry) : Type 0 where
  pub state : State
  pub run : IsTimedRun clock ds es state
  pub within : StaysBefore limits ds es
  pub kept : ClockKept ds es 0
  pub front : List Entry
  pub last : Entry
  pub split : es ≡ front ++ last ∷ []
  pub before : State
  pub there : after ds front ≡ Some before
  pub reads : ReadsClock before last
  pub first : IsUnread clock ds front

-- The entries `to`, and these with `round` behind them, are runs of the timing, and one state of a search stands for what each of
-- them leaves: in real timing they differ in time alone. `round` has an entry other than a Tick.
pub record ComesBack (clock : ClockChoice) (ds : List Fn) (to round : List Entry) : Type 0 where
  pub one : State
  pub begin : IsTimedRun clock ds to one
  pub other : State
  pub again : IsTimedRun clock ds (to ++ round) other
  pub seen : Shown
  pub stands : StandsAs clock ds seen one
  pub same : StandsAs clock ds seen other
  pub works : 0 < length (without_ticks round)

-- Runs of a timing (own): where the Ticks of a run may stand.
--
-- In real timing a Tick may stand wherever it is legal, since nobody rules when a clock goes on. In virtual timing the clock
-- stands while anything else can be done, and then goes to the moment at which the first sleeper may wake.
use Rattle.std.specs.Prelude.{◌≡◌, ◌<◌, ℕ, List, [], ◌∷◌, length, Some}
use Rattle.hs_base.specs.declared.clock_choice.ClockChoice.{ClockChoice}
use Rattle.hs_base.specs.declared.clock_choice.ClockChoice.TheVariants.{Real, Virtual}
use Rattle.hs_rules.specs.declared.entry.Entry.{Entry}
use Rattle.hs_rules.specs.declared.entry.Entry.TheVariants as entry
use Rattle.rules_expansion.specs.trees.Programs.{Fn}
use Rattle.rules_meaning.specs.CoreMeaning.{Code, code_of}
use Rattle.hs_rules.specs.State.{State}
use Rattle.hs_rules.specs.Entries.{Leads}
use Rattle.hs_rules.specs.Endings.{IsQuiet}
use Rattle.hs_rules.specs.Runs.{first_of}
use Rattle.hs_laws.specs.ClockLaw.{first_due}
use Rattle.outcome_laws.specs.timing.WithoutTime.{without_ticks}

-- a Tick to this time may stand in a state: always, or where no entry of another kind is legal and then to the first due
abbrev pub MayTick : ClockChoice → Code → State → ℕ → Type 0
MayTick Real code s at = Unit {0}
MayTick Virtual code s at = IsQuiet code s × (first_due s ≡ Some at)

-- where T is a relation between states and moments: a Tick fits T where T holds, and each other entry does
abbrev pub TickFits : (State → ℕ → Type 0) → State → Entry → Type 0
TickFits T s (entry.Tick at) = T s at
TickFits T s (entry.Local t k) = Unit {0}
TickFits T s (entry.Op t) = Unit {0}
TickFits T s (entry.Receive t) = Unit {0}
TickFits T s (entry.Wake t) = Unit {0}
TickFits T s (entry.Finish t) = Unit {0}
TickFits T s entry.Stranded = Unit {0}

-- a run from any state each of whose Ticks fits T
abbrev pub RunWithTicks : Code → (State → ℕ → Type 0) → State → List Entry → State → Type 0
RunWithTicks code T s [] u = s ≡ u
RunWithTicks code T s (e ∷ es) u = (m : State) × Leads code s e m × TickFits T s e × RunWithTicks code T m es u

-- a run of a timing, from any state
abbrev pub TimedRun : ClockChoice → Code → State → List Entry → State → Type 0
TimedRun clock code s es u = RunWithTicks code (MayTick clock code) s es u

-- ---- runs without end

-- some run of a timing from this state has more than so many entries other than Ticks
abbrev pub RunsPast : ClockChoice → Code → State → ℕ → Type 0
RunsPast clock code s n = (es : List Entry) × (u : State) × TimedRun clock code s es u × (n < length (without_ticks es))

-- runs of a timing from this state have no bound
abbrev pub IsEndlessFrom : ClockChoice → Code → State → Type 0
IsEndlessFrom clock code s = (n : ℕ) → RunsPast clock code s n

-- a script is endless in a timing
abbrev pub IsEndless : ClockChoice → List Fn → Type 0
IsEndless clock ds = (s : State) × (first_of ds ≡ Some s) × IsEndlessFrom clock (code_of ds) s

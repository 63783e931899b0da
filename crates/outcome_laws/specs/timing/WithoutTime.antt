-- States without time (own): the clock stands at 0, and every sleeper may wake.
--
-- `threadDelay` suspends a thread for at least so many microseconds (`Control.Concurrent`), so a sleeper may wake at any time
-- from its due on. Over all the Ticks that a run may have, dues decide nothing but what a script reads off the clock.
use Rattle.std.specs.Prelude.{◌≡◌, ℕ, Bool, true, false, cond, nat_le, List, [], ◌∷◌, ◌++◌, Option, Some, None, slice_get}
use Rattle.rules_meaning.specs.Values.{V}
use Rattle.rules_meaning.specs.CoreMeaning.{Code}
use Rattle.rules_expansion.specs.declared.primitive.Primitive.{Primitive}
use Rattle.rules_expansion.specs.declared.primitive.Primitive.TheVariants.{ClockMicros}
use Rattle.rules_waiting.specs.Waiting.{Reason, Taking, Reading, Putting, Throwing, Sleeping, Waiting, reason_of}
use Rattle.hs_rules.specs.declared.entry.Entry.{Entry}
use Rattle.hs_rules.specs.declared.entry.Entry.TheVariants as entry
use Rattle.hs_rules.specs.Terms.{Calls, Forks, ForksUnmask, Part, Ret, Throw, Do, Performs}
use Rattle.hs_rules.specs.State.{Thread, State}
use Rattle.hs_rules.specs.Entries.{Leads, IsLegal}
use Rattle.hs_rules.specs.Endings.{IsTick}
use Rattle.hs_rules.specs.Runs.{Run}

-- ---- a state without time

-- who sleeps is due at 0, and every other reason to wait stays
abbrev pub timeless_reason : Reason V → Reason V
timeless_reason (Taking m) = Taking m
timeless_reason (Reading m) = Reading m
timeless_reason (Putting m v) = Putting m v
timeless_reason (Throwing u e) = Throwing u e
timeless_reason (Sleeping due) = Sleeping 0

abbrev pub timeless_blocked : List (Waiting V) → List (Waiting V)
timeless_blocked [] = []
timeless_blocked (w ∷ ws) = record { thread = w.thread; reason = timeless_reason w.reason } ∷ timeless_blocked ws

-- a state without time: its clock at 0, and every sleeper due at 0
abbrev pub timeless : State → State
timeless s = record s { blocked = timeless_blocked s.blocked; clock = 0 }

-- ---- reading the clock

abbrev pub is_clock_reading : Primitive → Bool
is_clock_reading ClockMicros = true
is_clock_reading _ = false

-- whether a part stands at `clockMicros`
abbrev pub part_reads_clock : Part → Bool
part_reads_clock (Performs (Calls p vs)) = is_clock_reading p
part_reads_clock (Performs (Forks a env)) = false
part_reads_clock (Performs (ForksUnmask r a env)) = false
part_reads_clock (Ret v) = false
part_reads_clock (Throw e) = false
part_reads_clock (Do a env) = false

abbrev pub thread_reads_clock : Option Thread → Bool
thread_reads_clock None = false
thread_reads_clock (Some th) = part_reads_clock th.term.part

-- an entry performs `clockMicros`
abbrev pub ReadsClock : State → Entry → Type 0
ReadsClock s (entry.Op t) = thread_reads_clock (slice_get s.threads t) ≡ true
ReadsClock s _ = ⊥

-- ---- runs without time

-- an entry other than a Tick and a reading of the clock is legal, and leaves this state but for time
abbrev pub LeadsTimeless : Code → State → Entry → State → Type 0
LeadsTimeless code s e u = (w : State) × Leads code s e w × (timeless w ≡ u) × ¬ IsTick e × ¬ ReadsClock s e

-- A timeless run: such entries one after another, each from the state that those before it leave.
abbrev pub TimelessRun : Code → State → List Entry → State → Type 0
TimelessRun code s [] u = s ≡ u
TimelessRun code s (e ∷ es) u = (m : State) × LeadsTimeless code s e m × TimelessRun code m es u

-- no timeless run from this state meets a legal entry that reads the clock
abbrev pub NeverReadsClock : Code → State → Type 0
NeverReadsClock code s = (es : List Entry) (u : State) (e : Entry) → TimelessRun code s es u → IsLegal code u e → ¬ ReadsClock u e

abbrev pub is_tick : Entry → Bool
is_tick (entry.Tick at) = true
is_tick _ = false

-- the entries other than Ticks, in order
abbrev pub without_ticks : List Entry → List Entry
without_ticks [] = []
without_ticks (e ∷ es) = cond (is_tick e) (without_ticks es) (e ∷ without_ticks es)

-- before these entries a Tick to the due of a thread that sleeps, where that is still to come
abbrev pub tick_until_due : ℕ → Option (Reason V) → List Entry → List Entry
tick_until_due now None es = es
tick_until_due now (Some (Taking m)) es = es
tick_until_due now (Some (Reading m)) es = es
tick_until_due now (Some (Putting m v)) es = es
tick_until_due now (Some (Throwing u e)) es = es
tick_until_due now (Some (Sleeping due)) es = cond (nat_le due now) es (entry.Tick due ∷ es)

-- an entry alone, or a sleeper's Wake after the one Tick that it waits for
abbrev pub with_its_tick : State → Entry → List Entry
with_its_tick s (entry.Wake t) = tick_until_due s.clock (reason_of t s.blocked) (entry.Wake t ∷ [])
with_its_tick s e = e ∷ []

-- The entries of a timeless run lead from a state to another, each with its Tick; these are all of them.
abbrev pub WithTheirTicks : Code → State → List Entry → List Entry → State → Type 0
WithTheirTicks code s [] fs u = (fs ≡ []) × (s ≡ u)
WithTheirTicks code s (e ∷ es) fs u = (m : State) × (gs : List Entry) × (fs ≡ with_its_tick s e ++ gs) × Run code s (with_its_tick s e) m × WithTheirTicks code m es gs u

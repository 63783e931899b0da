-- States with slots without time (own): the clock stands at 0, and every sleeper may wake.
--
-- What `outcome_laws/specs/timing/WithoutTime` says of the states of the rules, said of what whoever keeps a run has in hand.
use Rattle.std.specs.Prelude.{◌≡◌, ℕ, nat_le, Bool, true, false, cond, List, [], ◌∷◌, Option, Some, None, slice_get}
use Rattle.hs_rules.specs.declared.entry.Entry.{Entry}
use Rattle.hs_rules.specs.declared.entry.Entry.TheVariants as entry
use Rattle.rules_waiting.specs.Waiting.{Sleeper, sorted_sleepers}
use Rattle.exn_flight.specs.Asleep.{due_of}
use Rattle.outcome_laws.specs.timing.WithoutTime.{is_clock_reading}
use Rattle.slot_laws.specs.SlotRules.{SlotOp, calls, forks, forks_unmask, SlotPart, ret, throw, doing, performs}
use Rattle.slot_states.specs.SlotStates.{SlotThread, SlotState, ticks}

-- ---- a state without time

-- the same sleepers, all due at 0
abbrev pub undue : List Sleeper → List Sleeper
undue [] = []
undue (s ∷ ss) = record { thread = s.thread; due = 0 } ∷ undue ss

-- a state without time: its clock at 0, and every sleeper due at 0, so in order of number
abbrev pub untimed : SlotState → SlotState
untimed x = record x { sleepers = sorted_sleepers (undue x.sleepers); clock = 0 }

-- ---- reading the clock

-- whether an operation, a part and a thread stand at `clockMicros`
abbrev pub op_reads_clock : SlotOp → Bool
op_reads_clock (calls p vs) = is_clock_reading p
op_reads_clock (forks tree vs) = false
op_reads_clock (forks_unmask tree vs) = false

abbrev pub part_reads_clock : SlotPart → Bool
part_reads_clock (ret v) = false
part_reads_clock (throw e) = false
part_reads_clock (doing a vs) = false
part_reads_clock (performs p) = op_reads_clock p

abbrev pub thread_reads_clock : Option SlotThread → Bool
thread_reads_clock None = false
thread_reads_clock (Some th) = part_reads_clock th.term.part

-- an entry performs `clockMicros`
abbrev pub ReadsClock : SlotState → Entry → Type 0
ReadsClock x (entry.Op t) = thread_reads_clock (slice_get x.threads t) ≡ true
ReadsClock x _ = ⊥

-- ---- the one Tick that a Wake may wait for

-- the clock goes on until this time, where it is still to come
abbrev pub ticked_to : Option ℕ → SlotState → SlotState
ticked_to None x = x
ticked_to (Some due) x = cond (nat_le due x.clock) x (ticks due x)

-- the state in which an entry is to be entered: for a Wake that of the time when its sleeper is due, or later
abbrev pub due_first : SlotState → Entry → SlotState
due_first x (entry.Wake t) = ticked_to (due_of t x.sleepers) x
due_first x _ = x

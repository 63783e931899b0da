-- How a run ends (own), and what a run may use only so much of.
use Rattle.std.specs.Prelude.{◌≡◌, ℕ, ◌+◌, ◌<◌, Bool, true, false, cond, List, [], ◌∷◌, ◌++◌, length, Option, Some, None, slice_get, codes}
use Rattle.hs_base.specs.declared.limits.Limits.{Limits}
use Rattle.hs_rules.specs.declared.entry.Entry.{Entry}
use Rattle.hs_rules.specs.declared.entry.Entry.TheVariants as entry
use Rattle.hs_rules.specs.declared.entry.LimitKind.{LimitKind}
use Rattle.hs_rules.specs.declared.entry.LimitKind.TheVariants.{Threads, Cells, Frames, Output}
use Rattle.rules_meaning.specs.CoreMeaning.{Code}
use Rattle.hs_rules.specs.Terms.{Part, Ret, Throw, Do, Performs}
use Rattle.rules_waiting.specs.Waiting.{Sleeping, is_blocked, reason_of, flight_of, flying_to, sleepers_of}
use Rattle.hs_rules.specs.State.{Thread, State}
use Rattle.hs_rules.specs.Entries.{is_receptive, stranded, IsLegal}
use Rattle.hs_rules.specs.Primitives.{line_feed}

-- ---- endings

pub data RunEnding : Type 0 where
  Done : RunEnding
  Uncaught : RunEnding
  Deadlock : RunEnding
  Fuel : RunEnding

abbrev pub is_ret : Part → Bool
is_ret (Ret u) = true
is_ret (Throw e) = false
is_ret (Do a env) = false
is_ret (Performs p) = false

-- the part with which a thread has finished
abbrev pub result_of : Option Thread → Option Part
result_of None = None
result_of (Some th) = cond th.finished (Some th.term.part) None

abbrev pub ended_by : Option Part → Bool → Type 0
ended_by None value = ⊥
ended_by (Some p) value = is_ret p ≡ value

-- the main thread has finished, by a value or by an exception
abbrev pub IsDone : State → Type 0
IsDone s = ended_by (result_of (slice_get s.threads 0)) true

abbrev pub IsUncaught : State → Type 0
IsUncaught s = ended_by (result_of (slice_get s.threads 0)) false

abbrev pub IsTick : Entry → Type 0
IsTick (entry.Tick at) = Unit {0}
IsTick (entry.Local t k) = ⊥
IsTick (entry.Op t) = ⊥
IsTick (entry.Receive t) = ⊥
IsTick (entry.Wake t) = ⊥
IsTick (entry.Finish t) = ⊥
IsTick entry.Stranded = ⊥

-- no entry but a Tick is legal
abbrev pub IsQuiet : Code → State → Type 0
IsQuiet code s = (e : Entry) → ¬ IsTick e → ¬ IsLegal code s e

-- no entry but a Tick is legal, and nobody sleeps
abbrev pub IsDeadlock : Code → State → Type 0
IsDeadlock code s = IsQuiet code s × (sleepers_of s.blocked ≡ [])

-- A test for that which looks at threads alone: every thread that hasn't finished is blocked, none of them can receive an
-- exception that is in flight to it, no sleeper may wake yet, and where nobody sleeps nobody is to be stranded.
pub record AllWait (s : State) : Type 0 where
  pub blocked : (t : ℕ) (th : Thread) → slice_get s.threads t ≡ Some th → th.finished ≡ false → is_blocked t s.blocked ≡ true
  pub unheard : (t : ℕ) (th : Thread) → slice_get s.threads t ≡ Some th → th.finished ≡ false → is_receptive t th.term s ≡ true → flying_to t (flight_of s.blocked) ≡ []
  pub asleep : (t due : ℕ) → reason_of t s.blocked ≡ Some (Sleeping due) → s.clock < due
  pub unstranded : sleepers_of s.blocked ≡ [] → stranded s ≡ []

-- The ending of a run that has left this state after so many steps, with so much fuel: the first of the four that holds.
abbrev pub Ends : RunEnding → Code → State → (steps fuel : ℕ) → Type 0
Ends Done code s steps fuel = IsDone s
Ends Uncaught code s steps fuel = ¬ IsDone s × IsUncaught s
Ends Deadlock code s steps fuel = ¬ IsDone s × ¬ IsUncaught s × IsDeadlock code s
Ends Fuel code s steps fuel = ¬ IsDone s × ¬ IsUncaught s × ¬ IsDeadlock code s × (steps ≡ fuel)

-- ---- limits

abbrev pub frames_in : List Thread → ℕ
frames_in [] = 0
frames_in (th ∷ ths) = cond th.finished 0 (length th.term.frames) + frames_in ths

-- how much of it a state has: threads and cells ever made, the frames of all unfinished threads, the bytes written
abbrev pub used : LimitKind → State → ℕ
used Threads s = length s.threads
used Cells s = length s.cells
used Frames s = frames_in s.threads
used Output s = length s.output + length s.errors

abbrev pub allowed : LimitKind → Limits → ℕ
allowed Threads limits = limits.threads
allowed Cells limits = limits.cells
allowed Frames limits = limits.frames
allowed Output limits = limits.output

abbrev pub Exceeds : LimitKind → Limits → State → Type 0
Exceeds kind limits s = allowed kind limits < used kind s

abbrev pub IsWithin : Limits → State → Type 0
IsWithin limits s = (kind : LimitKind) → ¬ Exceeds kind limits s

-- the limit that a state exceeds, the first in the order of the kinds
abbrev pub FirstExceeded : LimitKind → Limits → State → Type 0
FirstExceeded Threads limits s = Exceeds Threads limits s
FirstExceeded Cells limits s = ¬ Exceeds Threads limits s × Exceeds Cells limits s
FirstExceeded Frames limits s = ¬ Exceeds Threads limits s × ¬ Exceeds Cells limits s × Exceeds Frames limits s
FirstExceeded Output limits s = ¬ Exceeds Threads limits s × ¬ Exceeds Cells limits s × ¬ Exceeds Frames limits s × Exceeds Output limits s

-- ---- the line that the program adds to standard error

abbrev pub ending_line : RunEnding → List ℕ
ending_line Done = []
ending_line Uncaught = []
ending_line Deadlock = codes "deadlock" ++ line_feed
ending_line Fuel = codes "out of fuel" ++ line_feed

abbrev pub limit_line : LimitKind → List ℕ
limit_line Threads = codes "limit: threads" ++ line_feed
limit_line Cells = codes "limit: cells" ++ line_feed
limit_line Frames = codes "limit: frames" ++ line_feed
limit_line Output = codes "limit: output" ++ line_feed

abbrev pub memory_line : List ℕ
memory_line = codes "out of memory" ++ line_feed

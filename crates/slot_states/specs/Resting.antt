-- What threads with slots can do: which of them have an entry of their own, and which can receive (own).
use Rattle.std.specs.Prelude.{◌≡◌, ◌≢◌, ℕ, ◌+◌, ◌<◌, Bool, true, false, cond, not, ◌&&◌, List, [], ◌∷◌, length, Some, None, slice_get, slice_set}
use Rattle.hs_base.specs.declared.mask.Mask.TheVariants.{Unmasked, Uninterruptible}
use Rattle.hs_rules.specs.declared.entry.Entry.{Entry}
use Rattle.hs_rules.specs.declared.entry.Entry.TheVariants as entry
use Rattle.hs_rules.specs.declared.entry.LimitKind.{LimitKind}
use Rattle.hs_rules.specs.declared.entry.LimitKind.TheVariants as limit
use Rattle.rules_meaning.specs.Values as val
use Rattle.rules_meaning.specs.Values.{V}
use Rattle.rules_expansion.specs.declared.primitive.Primitive.TheVariants.{TakeMVar, PutMVar, ReadMVar}
use Rattle.rules_waiting.specs.Waiting.{flying_to, withdrawn, still_asleep, first_awake, Flying, Sleeper}
use Rattle.rules_waiting.specs.OneCell.{Leave, call, stands_in}
use Rattle.hs_rules.specs.Entries.{is_open}
use Rattle.slot_laws.specs.SlotRules.{calls, SlotPart, ret, throw, doing, performs, mask_from}
use Rattle.slot_states.specs.SlotStates.{SlotThread, SlotState, cell_at, left_lines}

-- ---- parts

abbrev pub IsDoing : SlotPart → Type 0
IsDoing (ret v) = ⊥
IsDoing (throw e) = ⊥
IsDoing (doing a vs) = Unit {0}
IsDoing (performs p) = ⊥

-- ---- receptive threads

abbrev pub is_throw : SlotPart → Bool
is_throw (ret v) = false
is_throw (throw e) = true
is_throw (doing a vs) = false
is_throw (performs p) = false

-- whether a thread that hasn't finished can receive an exception
abbrev pub is_receptive : SlotThread → Bool
is_receptive th = not (is_throw th.term.part) && is_open th.blocked (mask_from Unmasked th.term.frames)

-- ---- threads that wait

-- an operation that waits at this cell
pub data WaitsAt (m : ℕ) : SlotPart → Type 0 where
  takes : WaitsAt m (performs (calls TakeMVar (val.Cell m ∷ [])))
  reads : WaitsAt m (performs (calls ReadMVar (val.Cell m ∷ [])))
  puts : {v : V} → WaitsAt m (performs (calls PutMVar (val.Cell m ∷ v ∷ [])))

-- this thread throws nothing, also when another's throw is over, and doesn't sleep
abbrev pub NotThrowing : ℕ → List Flying → Type 0
NotThrowing t fs = (withdrawn t fs ≡ fs) × ((w : ℕ) → withdrawn t (withdrawn w fs) ≡ withdrawn w fs)

abbrev pub NotAsleep : ℕ → List Sleeper → Type 0
NotAsleep t ss = still_asleep t ss ≡ ss

-- thread t stands in the line of cell m, and waits for nothing else
pub record InLine (t m : ℕ) (x : SlotState) : Type 0 where
  pub exists : m < length x.cells
  pub stands : stands_in t (cell_at m x.cells).line ≡ true
  pub only : left_lines t x.cells ≡ slice_set x.cells m (call (Leave t) (cell_at m x.cells)).cell
  pub silent : NotThrowing t x.flight
  pub awake : NotAsleep t x.sleepers

-- thread t stands in no line
abbrev pub InNoLine : ℕ → SlotState → Type 0
InNoLine t x = (m : ℕ) → stands_in t (cell_at m x.cells).line ≡ false

-- thread t is blocked at a cell, and isn't masked uninterruptibly
pub record WaitsOpen (x : SlotState) (t : ℕ) : Type 0 where
  pub thread : SlotThread
  pub is : slice_get x.threads t ≡ Some thread
  pub blocked : thread.blocked ≡ true
  pub cell : ℕ
  pub at : WaitsAt cell thread.term.part
  pub open_now : mask_from Unmasked thread.term.frames ≢ Uninterruptible

-- ---- rest

-- Every thread that hasn't finished is blocked, none of them can receive an exception in flight to it, and no sleeper is due.
pub record AllRest (x : SlotState) : Type 0 where
  pub blocked : (t : ℕ) (th : SlotThread) → slice_get x.threads t ≡ Some th → th.finished ≡ false → th.blocked ≡ true
  pub unheard : (t : ℕ) (th : SlotThread) → slice_get x.threads t ≡ Some th → th.finished ≡ false → is_receptive th ≡ true → flying_to t x.flight ≡ []
  pub asleep : first_awake x.clock x.sleepers ≡ None

-- ---- limits

abbrev pub frames_in : List SlotThread → ℕ
frames_in [] = 0
frames_in (th ∷ ths) = cond th.finished 0 (length th.term.frames) + frames_in ths

-- how much of it there is
abbrev pub used : LimitKind → SlotState → ℕ
used limit.Threads x = length x.threads
used limit.Cells x = length x.cells
used limit.Frames x = frames_in x.threads
used limit.Output x = x.printed

-- ---- what is left to do

-- a thread that is there, hasn't finished, isn't blocked and is to do an action
pub record Goes (x : SlotState) (t : ℕ) : Type 0 where
  pub thread : SlotThread
  pub is : slice_get x.threads t ≡ Some thread
  pub unfinished : thread.finished ≡ false
  pub free : thread.blocked ≡ false
  pub does : IsDoing thread.term.part

-- nobody has an entry of its own but local rules of an action, or something to receive, and nobody is to wake
pub record NobodyActs (x : SlotState) : Type 0 where
  pub own : (t : ℕ) (th : SlotThread) → slice_get x.threads t ≡ Some th → th.finished ≡ false → th.blocked ≡ false → IsDoing th.term.part
  pub unheard : (t : ℕ) (th : SlotThread) → slice_get x.threads t ≡ Some th → th.finished ≡ false → is_receptive th ≡ true → flying_to t x.flight ≡ []
  pub asleep : first_awake x.clock x.sleepers ≡ None

-- a Tick, local rules of a thread that goes, or, where none goes and nobody sleeps, a Stranded
abbrev pub IsLeft : SlotState → Entry → Type 0
IsLeft x (entry.Local t k) = Goes x t
IsLeft x (entry.Op t) = ⊥
IsLeft x (entry.Receive t) = ⊥
IsLeft x (entry.Wake t) = ⊥
IsLeft x (entry.Finish t) = ⊥
IsLeft x (entry.Tick at) = Unit {0}
IsLeft x entry.Stranded = ((t : ℕ) → ¬ Goes x t) × (x.sleepers ≡ [])

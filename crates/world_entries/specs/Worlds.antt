-- What a world stands for (own).
use Rattle.std.specs.Prelude.{◌≡◌, ◌<◌, ◌≤◌, ◌^◌, ◌⊎◌, ℕ, ◌+◌, Bool, true, false, List, [], ◌∷◌, length, Some, slice_get, slice_set}
use Rattle.hs_base.specs.declared.value.Value.{Value}
use Rattle.hs_rules.specs.declared.entry.Entry.{Entry}
use Rattle.rules_expansion.specs.trees.Programs.{script_of}
use Rattle.rules_meaning.specs.Values.{V, value_of}
use Rattle.rules_typing.specs.TypingScripts.{Accepted}
use Rattle.rules_code.specs.declared.code.CodeBody.{CodeBody}
use Rattle.rules_waiting.specs.OneCell.{Cell, Leave, call, stands_in}
use Rattle.rules_waiting.specs.Waiting.{withdrawn, still_asleep}
use Rattle.rules_code.specs.CodeTrees.{StandsFor}
use Rattle.hs_rules.specs.State.{State}
use Rattle.hs_rules.specs.Runs.{IsRun}
use Rattle.slot_states.specs.mapping.Mapped.{map_cell}
use Rattle.slot_states.specs.SlotStates.{SlotState, left_lines, Represents, Enters}
use Rattle.slot_states.specs.Resting.{AllRest}
use Rattle.mvar_cell.specs.Calls.{cell_at}
use Rattle.hs_base.specs.declared.mask.Mask.TheVariants.{Unmasked}
use Rattle.hs_rules.specs.Entries.{uncaught_line}
use Rattle.local_steps.specs.Frames.{mask_inside}
use Rattle.frame_stack.specs.declared.sliced.Slice.{Slice}
use Rattle.frame_stack.specs.declared.control.Control.{Control}
use Rattle.frame_stack.specs.declared.control.Operation.TheVariants as o
use Rattle.thread_table.specs.Listing.{waits_open}
use Rattle.thread_table.specs.Kinds.{IsBare}
use Rattle.frame_stack.specs.declared.control.Operation.{Operation}
use Rattle.frame_stack.specs.declared.control.Control.TheVariants as c
use Rattle.thread_table.specs.declared.thread.Thread.{Thread}
use Rattle.thread_table.specs.Table.{slots_of}
use Rattle.thread_table.specs.Rooms as rooms
use Rattle.world_entries.specs.declared.world.World.{World}

abbrev pub slot_cells : List (Cell Value) → List (Cell V)
slot_cells [] = []
slot_cells (x ∷ xs) = map_cell value_of x ∷ slot_cells xs

-- the state with slots, where the threads' actions are of this code
abbrev pub state_of : CodeBody → World → SlotState
state_of b w = record {
  threads = slots_of b w.threads.list.items;
  cells = slot_cells w.cells.cells;
  flight = w.threads.flight.list;
  sleepers = w.sleepers.list;
  clock = w.clock;
  next_instance = w.instances;
  next_timeout = w.timeouts;
  printed = w.printed;
}

-- it stands for the state that a run of an accepted script leaves, with actions of that script's code
pub record Live (b : CodeBody) (es : List Entry) (w : World) : Type 0 where
  pub accepted : Accepted b.of.value
  pub code : StandsFor b.nodes b.acts b.funs b.main b.of.value
  pub state : State
  pub run : IsRun (script_of b.of.value) es state
  pub represents : Represents (script_of b.of.value) (state_of b w) state

abbrev pub IsLive : World → Type 0
IsLive w = ∥ ((b : CodeBody) × (es : List Entry) × Live b es w) ∥₁

-- wherever the one stands for such a state, the entry is legal there, and the other stands for the state that it leaves
abbrev pub Makes : Entry → World → World → Type 0
Makes e old new = (b : CodeBody) → Accepted b.of.value → StandsFor b.nodes b.acts b.funs b.main b.of.value → Enters b.of.value e (state_of b old) (state_of b new)

-- the same state with slots
abbrev pub SameState : World → World → Type 0
SameState old new = (b : CodeBody) → state_of b new ≡ state_of b old

-- thread t hasn't finished, isn't blocked, and stands at this operation
pub record Stands (w : World) (t : ℕ) (o : Operation) : Type 0 where
  pub thread : Thread
  pub is : slice_get w.threads.list.items t ≡ Some thread
  pub control : thread.stack.control ≡ c.Op o
  pub unfinished : thread.finished ≡ false
  pub free : thread.blocked ≡ false

-- the main thread hasn't finished
pub record Goes (w : World) : Type 0 where
  pub main : Thread
  pub is : slice_get w.threads.list.items 0 ≡ Some main
  pub unfinished : main.finished ≡ false

-- there is room for one entry, and there are numbers left
pub record HasRoom (w : World) : Type 0 where
  pub threads : rooms.HasRoom w.threads
  pub cells : 1 ≤ w.cells.spare
  pub sleepers : 1 ≤ w.sleepers.spare
  pub instances : w.instances + 1 < 2 ^ 32
  pub timeouts : w.timeouts + 1 < 2 ^ 32
  pub numbers : length w.threads.list.items < 2 ^ 32
  pub printed : w.printed < 2 ^ 63

-- wherever the one stands for such a state of this code's script, the entry is legal there, and the other stands for the
-- state that it leaves
abbrev pub MakesOf : CodeBody → Entry → World → World → Type 0
MakesOf b e old new = Accepted b.of.value → StandsFor b.nodes b.acts b.funs b.main b.of.value → Enters b.of.value e (state_of b old) (state_of b new)

-- thread t stands at an operation that prints so many bytes
abbrev pub Prints : World → ℕ → ℕ → Type 0
Prints w t n =
    ((b : List ℕ) × Stands w t (o.PutStr b) × (n ≡ length b))
    ⊎ ((b : List ℕ) × Stands w t (o.PutStrLn b) × (n ≡ length b + 1))
    ⊎ ((b : List ℕ) × Stands w t (o.HPutStrLn b) × (n ≡ length b + 1))

-- the slice starts where its thread stands
pub record Starts (s : Slice) (w : World) : Type 0 where
  pub thread : Thread
  pub is : slice_get w.threads.list.items s.tid ≡ Some thread
  pub unfinished : thread.finished ≡ false
  pub free : thread.blocked ≡ false
  pub control : thread.stack.control ≡ s.start
  pub mask : mask_inside Unmasked thread.stack.frames ≡ s.mask

-- the bytes that the end of a thread by this control writes to error output
abbrev pub end_bytes : ℕ → Control → ℕ
end_bytes t (c.Doing i vs) = 0
end_bytes t (c.Ret v) = 0
end_bytes t (c.Throw e) = length (uncaught_line t e)
end_bytes t (c.Op q) = 0

-- thread t hasn't finished, isn't blocked, and its whole term is a value or an exception; its end writes so many bytes
pub record Ends (t n : ℕ) (w : World) : Type 0 where
  pub thread : Thread
  pub is : slice_get w.threads.list.items t ≡ Some thread
  pub unfinished : thread.finished ≡ false
  pub free : thread.blocked ≡ false
  pub bare : IsBare thread.stack
  pub bytes : n ≡ end_bytes t thread.stack.control

-- all rest
abbrev pub IsAtRest : World → Type 0
IsAtRest w = (b : CodeBody) → AllRest (state_of b w)

-- some thread may be stranded
abbrev pub SomeWaitOpen : World → Type 0
SomeWaitOpen w = (t : ℕ) × (waits_open (slice_get w.threads.list.items t) ≡ true)

-- thread t stands in the line of cell m, and waits for nothing else
pub record LeavesLine (t m : ℕ) (w : World) : Type 0 where
  pub exists : m < length w.cells.cells
  pub stands : stands_in t (cell_at m w.cells).line ≡ true
  pub only : left_lines t (slot_cells w.cells.cells) ≡ slot_cells (slice_set w.cells.cells m (call (Leave t) (cell_at m w.cells)).cell)
  pub silent : withdrawn t w.threads.flight.list ≡ w.threads.flight.list
  pub awake : still_asleep t w.sleepers.list ≡ w.sleepers.list

-- Where thread t waits: what its operation says is so, and it waits for nothing else.
abbrev pub LeavesFrom : ℕ → Bool → Control → World → Type 0
LeavesFrom t false k w = (left_lines t (slot_cells w.cells.cells) ≡ slot_cells w.cells.cells) × (withdrawn t w.threads.flight.list ≡ w.threads.flight.list) × (still_asleep t w.sleepers.list ≡ w.sleepers.list)
LeavesFrom t true (c.Op (o.TakeMVar m)) w = LeavesLine t m w
LeavesFrom t true (c.Op (o.ReadMVar m)) w = LeavesLine t m w
LeavesFrom t true (c.Op (o.PutMVar m v)) w = LeavesLine t m w
LeavesFrom t true (c.Op (o.ThrowTo u e)) w = (left_lines t (slot_cells w.cells.cells) ≡ slot_cells w.cells.cells) × (still_asleep t w.sleepers.list ≡ w.sleepers.list)
LeavesFrom t true (c.Op (o.ThreadDelay n)) w = (left_lines t (slot_cells w.cells.cells) ≡ slot_cells w.cells.cells) × (withdrawn t w.threads.flight.list ≡ w.threads.flight.list)
LeavesFrom t true _ w = ⊥

-- what leaving asks: who waits at a cell stands in its line
abbrev pub MayLeave : ℕ → Bool → Control → World → Type 0
MayLeave t true (c.Op (o.TakeMVar m)) w = (m < length w.cells.cells) × (stands_in t (cell_at m w.cells).line ≡ true)
MayLeave t true (c.Op (o.ReadMVar m)) w = (m < length w.cells.cells) × (stands_in t (cell_at m w.cells).line ≡ true)
MayLeave t true (c.Op (o.PutMVar m v)) w = (m < length w.cells.cells) × (stands_in t (cell_at m w.cells).line ≡ true)
MayLeave t _ _ w = Unit {0}

-- thread t waits for nothing any more
pub record Left (t : ℕ) (old new : World) : Type 0 where
  pub cells : slot_cells new.cells.cells ≡ left_lines t (slot_cells old.cells.cells)
  pub flight : new.threads.flight.list ≡ withdrawn t old.threads.flight.list
  pub sleepers : new.sleepers.list ≡ still_asleep t old.sleepers.list

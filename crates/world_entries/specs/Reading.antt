-- Those who wait to read a cell (own).
use Rattle.std.specs.Prelude.{◌≡◌, ◌≤◌, ℕ, List, [], ◌∷◌, Some, true}
use Rattle.hs_base.specs.declared.value.Value.{Value}
use Rattle.rules_waiting.specs.OneCell.{stands_in, readers}
use Rattle.mvar_cell.specs.Mvars.{Mvars}
use Rattle.mvar_cell.specs.Calls.{cell_at}
use Rattle.mvar_cell.specs.Readers.{AreAllReaders}
use Rattle.frame_stack.specs.declared.control.Control.TheVariants as c
use Rattle.frame_stack.specs.Parts.{IsOp}
use Rattle.thread_table.specs.declared.thread.Thread.{Thread}
use Rattle.thread_table.specs.Table.{changed, with_control, IsAt}
use Rattle.thread_table.specs.Rooms.{stuck_room, ready_room, thread_room}
use Rattle.world_entries.specs.declared.world.World.{World}

-- all of these are this value
abbrev pub Are : Value → List Value → Type 0
Are v [] = Unit {0}
Are v (w ∷ ws) = (w ≡ v) × Are v ws

-- nobody waits to read a full cell
abbrev pub FullUnread : ℕ → Mvars → Type 0
FullUnread m cs = (x : Value) → (cell_at m cs).content ≡ Some x → readers (cell_at m cs).line ≡ []

-- each thread in the line of a cell is there and stands at an operation
abbrev pub ReadersStand : ℕ → World → Type 0
ReadersStand m w = (t : ℕ) → stands_in t (cell_at m w.cells).line ≡ true → IsAt t (λ (th : Thread). IsOp th.stack.control) w.threads.list.items

-- each of these threads is answered the value, in order
abbrev pub all_answered : Value → List ℕ → List Thread → List Thread
all_answered v [] ths = ths
all_answered v (t ∷ ts) ths = all_answered v ts (changed t (with_control (c.Ret v)) ths)

-- all who waited to read cell m were answered this value, in order, and left its line
abbrev pub AllShown : Value → ℕ → World → World → Type 0
AllShown v m old new =
    AreAllReaders (readers (cell_at m old.cells).line) m old.cells new.cells
    × (new.threads.list.items ≡ all_answered v (readers (cell_at m old.cells).line) old.threads.list.items)

-- all but the list of threads and the cells is as it was, with as much room but for work
pub record Rest (old new : World) : Type 0 where
  pub flight : new.threads.flight ≡ old.threads.flight
  pub sleepers : new.sleepers ≡ old.sleepers
  pub clock : new.clock ≡ old.clock
  pub instances : new.instances ≡ old.instances
  pub timeouts : new.timeouts ≡ old.timeouts
  pub printed : new.printed ≡ old.printed
  pub stuck : stuck_room old.threads ≤ stuck_room new.threads
  pub ready : ready_room old.threads ≤ ready_room new.threads
  pub list : thread_room old.threads ≤ thread_room new.threads

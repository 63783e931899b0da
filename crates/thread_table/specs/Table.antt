-- Threads in memory, and how one of them changes (own).
use Rattle.std.specs.Prelude.{◌≡◌, ℕ, ◌+◌, Bool, true, false, cond, List, [], ◌∷◌, length, Option, Some, None, map, slice_get, slice_set}
use Rattle.rules_code.specs.declared.code.CodeBody.{CodeBody}
use Rattle.slot_states.specs.SlotStates.{SlotThread}
use Rattle.frame_stack.specs.declared.control.Control.{Control}
use Rattle.frame_stack.specs.Parts.{Stacked, stacked, term_of}
use Rattle.thread_table.specs.declared.thread.Thread.{Thread}

-- what a thread stands for
abbrev pub slot_of : CodeBody → Thread → SlotThread
slot_of b th = record { term = term_of b th.stack; blocked = th.blocked; finished = th.finished }

abbrev pub slots_of : CodeBody → List Thread → List SlotThread
slots_of b [] = []
slots_of b (th ∷ ths) = slot_of b th ∷ slots_of b ths

-- ---- one thread changes

abbrev pub set_thread : ℕ → (Thread → Thread) → Option Thread → List Thread → List Thread
set_thread t f None ths = ths
set_thread t f (Some th) ths = slice_set ths t (f th)

-- thread t, where there is one, becomes this
abbrev pub changed : ℕ → (Thread → Thread) → List Thread → List Thread
changed t f ths = set_thread t f (slice_get ths t) ths

-- this control in its frames, and it is blocked no more
abbrev pub with_control : Control → Thread → Thread
with_control c th = record th { stack = stacked c th.stack.frames; blocked = false }

abbrev pub blocking : Thread → Thread
blocking th = record th { blocked = true }

abbrev pub finishing : Thread → Thread
finishing th = record th { finished = true }

-- this stack, and it is in the list of the ready
abbrev pub with_stack : Stacked → Thread → Thread
with_stack s th = record th { stack = s; queued = true }

abbrev pub with_queued : Bool → Thread → Thread
with_queued q th = record th { queued = q }

abbrev pub with_listed : Bool → Thread → Thread
with_listed l th = record th { listed = l }

-- threads but for whether they are in the list of the ready
abbrev pub unqueued : List Thread → List Thread
unqueued ths = map (with_queued false) ths

-- threads but for whether they are in the list of those who may be stranded
abbrev pub unlisted : List Thread → List Thread
unlisted ths = map (with_listed false) ths

-- a new thread, which is in the list of the ready
abbrev pub new_thread : Stacked → Thread
new_thread s = record { stack = s; blocked = false; finished = false; queued = true; listed = false }

-- thread t is there, and this is true of it
pub record IsAt (t : ℕ) (P : Thread → Type 0) (ths : List Thread) : Type 0 where
  pub thread : Thread
  pub is : slice_get ths t ≡ Some thread
  pub holds : P thread

-- ---- counts

-- a number of each thread, over all of them
abbrev pub sum_over : (Thread → ℕ) → List Thread → ℕ
sum_over g [] = 0
sum_over g (th ∷ ths) = g th + sum_over g ths

abbrev pub counted_frames : Thread → ℕ
counted_frames th = cond th.finished 0 (length th.stack.frames)

-- the frames of all threads that haven't finished
abbrev pub frames_over : List Thread → ℕ
frames_over ths = sum_over counted_frames ths

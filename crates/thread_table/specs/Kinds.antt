-- What a thread has to do (own).
use Rattle.std.specs.Prelude.{◌≡◌, ℕ, true, false, [], Some, slice_get}
use Rattle.thread_table.specs.declared.thread.Thread.{Thread}
use Rattle.thread_table.specs.declared.threads.Threads.{Threads}
use Rattle.thread_table.specs.declared.kinds.EntryKind.{EntryKind}
use Rattle.thread_table.specs.declared.kinds.EntryKind.TheVariants as kind
use Rattle.frame_stack.specs.Parts.{IsOp, Meets, Stacked}
use Rattle.frame_stack.specs.declared.control.Control.{Control}
use Rattle.frame_stack.specs.declared.control.Control.TheVariants as c
use Rattle.thread_table.specs.Listing.{is_receptive, is_hit}

abbrev pub IsEnd : Control → Type 0
IsEnd (c.Doing i vs) = ⊥
IsEnd (c.Ret v) = Unit {0}
IsEnd (c.Throw e) = Unit {0}
IsEnd (c.Op q) = ⊥

-- an unfinished thread that isn't blocked, whose stack is so
pub record Own (P : Stacked → Type 0) (t : ℕ) (s : Threads) : Type 0 where
  pub thread : Thread
  pub is : slice_get s.list.items t ≡ Some thread
  pub unfinished : thread.finished ≡ false
  pub free : thread.blocked ≡ false
  pub holds : P thread.stack

pub record Hears (t : ℕ) (s : Threads) : Type 0 where
  pub thread : Thread
  pub is : slice_get s.list.items t ≡ Some thread
  pub unfinished : thread.finished ≡ false
  pub receptive : is_receptive thread ≡ true
  pub hit : is_hit t s.flight.list ≡ true

abbrev pub IsBare : Stacked → Type 0
IsBare s = IsEnd s.control × (s.frames ≡ [])

abbrev pub IsKind : EntryKind → ℕ → Threads → Type 0
IsKind kind.Op t s = Own (λ (k : Stacked). IsOp k.control) t s
IsKind kind.Finish t s = Own IsBare t s
IsKind kind.Local t s = Own Meets t s
IsKind kind.Receive t s = Hears t s

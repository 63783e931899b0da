-- What can be seen of a world of what the rules say of a state (own).
use Rattle.std.specs.Prelude.{ℕ, ◌+◌, Bool, false, cond, List, length, is_some, Option, Some, None, slice_get}
use Rattle.hs_base.specs.declared.value.Value.{Value}
use Rattle.rules_waiting.specs.OneCell.{Cell}
use Rattle.frame_stack.specs.declared.control.Control.{Control}
use Rattle.frame_stack.specs.declared.control.Control.TheVariants as c
use Rattle.frame_stack.specs.declared.control.Operation.{Operation}
use Rattle.frame_stack.specs.declared.control.Operation.TheVariants as o
use Rattle.thread_table.specs.declared.thread.Thread.{Thread}
use Rattle.hs_rules.specs.declared.entry.Entry.{Entry}
use Rattle.hs_rules.specs.declared.entry.Entry.TheVariants as entry
use Rattle.world_entries.specs.declared.world.World.{World}
use Rattle.trace_report.specs.declared.tally.counts.Seen.{Seen}
use Rattle.trace_report.specs.declared.tally.tally.Tally.{Tally}
use Rattle.trace_report.specs.tally.Reporting.{one_if, thread_line, cell_line, cell_word}
use Rattle.trace_report.specs.tally.Tallying.{thread_at, cell_at}
use Rattle.trace_report.specs.tally.Touching.{cell_of}
use Rattle.trace_report.specs.tally.Words.{word_text}
use Rattle.trace_report.specs.declared.tally.touch.Touch.{Touch}
use Rattle.trace_report.specs.declared.tally.touch.Touch.TheVariants as touch
use Rattle.trace_report.specs.declared.tally.writing.Word.{Word}
use Rattle.trace_report.specs.declared.tally.writing.Word.TheVariants as word

abbrev pub operation_touch : Operation → Touch
operation_touch (o.TakeMVar m) = touch.Takes m
operation_touch (o.ReadMVar m) = touch.Reads m
operation_touch (o.PutMVar m v) = touch.Puts m
operation_touch (o.TryTakeMVar m) = touch.TriesToTake m
operation_touch (o.TryPutMVar m v) = touch.TriesToPut m
operation_touch _ = touch.Nothing

abbrev pub control_touch : Control → Touch
control_touch (c.Op p) = operation_touch p
control_touch _ = touch.Nothing

-- what a thread has to do with a cell, if it is there
abbrev pub touch_at : Option Thread → Touch
touch_at None = touch.Nothing
touch_at (Some th) = control_touch th.stack.control

abbrev pub blocked_at : Option Thread → Bool
blocked_at None = false
blocked_at (Some th) = th.blocked

abbrev pub full_at : Option (Cell Value) → Bool
full_at None = false
full_at (Some k) = is_some k.content

abbrev pub line_at : Option (Cell Value) → ℕ
line_at None = 0
line_at (Some k) = length k.line

abbrev pub ended_word : Control → Word
ended_word (c.Ret v) = word.Done
ended_word (c.Throw e) = word.Failed
ended_word _ = word.Running

abbrev pub word_at : Option Thread → Word
word_at None = word.Running
word_at (Some th) = cond th.finished (ended_word th.stack.control) (cond th.blocked word.Waiting word.Running)

-- ---- an entry

abbrev pub touched_full : Option ℕ → World → Bool
touched_full None w = false
touched_full (Some m) w = full_at (slice_get w.cells.cells m)

abbrev pub touched_line : Option ℕ → World → ℕ
touched_line None w = 0
touched_line (Some m) w = line_at (slice_get w.cells.cells m)

-- what an entry touches in this world, and whether that is full
abbrev pub before_of : Entry → World → Touch × Bool
before_of (entry.Op t) w = (touch_at (slice_get w.threads.list.items t), touched_full (cell_of (touch_at (slice_get w.threads.list.items t))) w)
before_of _ w = (touch.Nothing, false)

abbrev pub doer_blocked : Entry → World → Bool
doer_blocked (entry.Op t) w = blocked_at (slice_get w.threads.list.items t)
doer_blocked _ w = false

-- what is seen of it in the world that it leaves
abbrev pub seen_of : Entry → Touch × Bool → World → Seen
seen_of e before w = record {
  touch = before.0;
  was_full = before.1;
  is_full = touched_full (cell_of before.0) w;
  line = touched_line (cell_of before.0) w;
  blocked = doer_blocked e w;
}

-- ---- the lines

abbrev pub thread_text : Tally → World → ℕ → List ℕ
thread_text y w t = let k = thread_at y.threads.items t in thread_line t k.local k.ops k.waits k.receives (word_text (word_at (slice_get w.threads.list.items t)))

abbrev pub cell_text : Tally → World → ℕ → List ℕ
cell_text y w m = let k = cell_at y.cells.items m in cell_line m (k.out + one_if (full_at (slice_get w.cells.cells m))) k.out k.waits k.longest (cell_word (full_at (slice_get w.cells.cells m)))

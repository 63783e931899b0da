use Rattle.std.proofs.Common.{◌≡◌, ◌++◌, string_bytes}
use Rattle.std.specs.List.{flat_map}
use Rattle.lane_picture.specs.Marks.{all_below, event_marks, freed_at, lane_of}
use Rattle.lane_picture.specs.Shapes.{spelled}
use Rattle.lane_picture.proofs.drawing.write_entry_marks.Given as goal

abbrev pub invariant-loop-thread : goal.invariant-loop-thread
invariant-loop-thread l = string_bytes l.text ≡ string_bytes l.fn.text ++ flat_map (spelled l.grid) (event_marks l.entry.column (lane_of l.entry.after.now.event) l.entry.before.now l.entry.after.now ++ all_below (freed_at l.entry.column l.entry.before.now l.entry.after.now) l.thread)

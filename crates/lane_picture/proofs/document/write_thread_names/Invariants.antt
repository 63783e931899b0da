use Rattle.std.proofs.Common.{◌≡◌, ◌++◌, string_bytes}
use Rattle.lane_picture.specs.Marks.{all_below}
use Rattle.lane_picture.specs.Drawing.{thread_tag}
use Rattle.lane_picture.proofs.document.write_thread_names.Given as goal

abbrev pub invariant-loop-t : goal.invariant-loop-t
invariant-loop-t l = string_bytes l.text ≡ string_bytes l.fn.text ++ all_below (thread_tag l.fn.grid) l.t

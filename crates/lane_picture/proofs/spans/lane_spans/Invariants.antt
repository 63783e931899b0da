use Rattle.std.proofs.Common.{◌≡◌, map, take, vec_items}
use Rattle.lane_picture.specs.Marks.{look_at, spans_of}
use Rattle.lane_picture.proofs.spans.lane_spans.Given as goal

abbrev pub invariant-loop-frame : goal.invariant-loop-frame
invariant-loop-frame l = record { count : l.column ≡ l.frame-index; spans : vec_items l.spans ≡ spans_of (map (look_at l.lane) (take l.frame-index l.film)) }

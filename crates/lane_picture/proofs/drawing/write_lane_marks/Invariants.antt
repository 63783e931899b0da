use Rattle.std.proofs.Common.{◌≡◌, ◌++◌, map, take, string_bytes}
use Rattle.std.specs.List.{flat_map}
use Rattle.lane_picture.specs.Marks.{span_mark}
use Rattle.lane_picture.specs.Shapes.{spelled}
use Rattle.lane_picture.proofs.drawing.write_lane_marks.Given as goal

abbrev pub invariant-loop-span : goal.invariant-loop-span
invariant-loop-span l = string_bytes l.text ≡ string_bytes l.fn.text ++ flat_map (spelled l.grid) (map (span_mark l.lane) (take l.span-index l.span-items))

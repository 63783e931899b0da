use Rattle.std.proofs.Common.{◌≡◌, ◌++◌, string_bytes}
use Rattle.std.specs.List.{flat_map}
use Rattle.lane_picture.specs.Shapes.{spelled}
use Rattle.lane_picture.specs.Marks.{all_below, column_marks}
use Rattle.lane_picture.proofs.document.write_columns.Given as goal

abbrev pub invariant-loop-column : goal.invariant-loop-column
invariant-loop-column l = string_bytes l.text ≡ string_bytes l.fn.text ++ flat_map (spelled l.grid) (all_below (column_marks l.film) l.column)

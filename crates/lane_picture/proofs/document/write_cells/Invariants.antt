use Rattle.std.proofs.Common.{◌≡◌, ◌++◌, string_bytes}
use Rattle.std.specs.List.{flat_map}
use Rattle.lane_picture.specs.Shapes.{spelled}
use Rattle.lane_picture.specs.declared.film.Lane.TheVariants as lane
use Rattle.lane_picture.specs.Marks.{all_below, lane_marks}
use Rattle.lane_picture.proofs.document.write_cells.Given as goal

abbrev pub invariant-loop-m : goal.invariant-loop-m
invariant-loop-m l = string_bytes l.text ≡ string_bytes l.fn.text ++ flat_map (spelled l.grid) (all_below (λ m. lane_marks l.film (lane.Cell m)) l.m)

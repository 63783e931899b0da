use Rattle.std.proofs.Common.{◌≡◌, ◌++◌, string_bytes}
use Rattle.lane_picture.specs.Marks.{all_below}
use Rattle.lane_picture.specs.Drawing.{cell_tag}
use Rattle.lane_picture.proofs.document.write_cell_names.Given as goal

abbrev pub invariant-loop-m : goal.invariant-loop-m
invariant-loop-m l = string_bytes l.text ≡ string_bytes l.fn.text ++ all_below (cell_tag l.fn.grid) l.m

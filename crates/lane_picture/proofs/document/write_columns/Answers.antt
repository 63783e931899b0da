use Rattle.std.proofs.Common.{◌++◌, append_assoc, ap, sym, ◌∙◌, string_bytes}
use Rattle.std.specs.List.{flat_map}
use Rattle.lane_picture.specs.Marks.{all_below, column_marks}
use Rattle.lane_picture.specs.Shapes.{spelled}
use Rattle.lane_picture.proofs.Joining.{below_on}
use Rattle.lane_picture.proofs.document.write_columns.Goals as goal

pub loop-column-preserved : goal.loop-column-preserved
loop-column-preserved c =
    let f = spelled c.args.grid in
    let each = column_marks c.args.film.now in
    let n = c.loop-column.column in
    c.in_ok-write_column.ensures
    ∙ (ap (λ z. z ++ flat_map f (each n)) c.loop-column.invariant
    ∙ (append_assoc (string_bytes c.args.text.now) (flat_map f (all_below each n)) (flat_map f (each n))
    ∙ ap (λ z. string_bytes c.args.text.now ++ z) (sym (below_on f each n))))

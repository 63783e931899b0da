use Rattle.std.proofs.Common.{◌++◌, append_assoc, ap, sym, ◌∙◌, string_bytes}
use Rattle.std.specs.List.{flat_map}
use Rattle.lane_picture.specs.Marks.{all_below, event_marks, freed_at, lane_of}
use Rattle.lane_picture.specs.Shapes.{spelled}
use Rattle.lane_picture.proofs.Joining.{behind_on}
use Rattle.lane_picture.proofs.drawing.write_entry_marks.Goals as goal

pub loop-thread-preserved : goal.loop-thread-preserved
loop-thread-preserved c =
    let f = spelled c.args.grid in
    let first = event_marks c.args.entry.now.column (lane_of c.args.entry.now.after.now.event) c.args.entry.now.before.now c.args.entry.now.after.now in
    let each = freed_at c.args.entry.now.column c.args.entry.now.before.now c.args.entry.now.after.now in
    let t = c.loop-thread.thread in
    c.in_ok-write_freed_at.ensures
    ∙ (ap (λ z. z ++ flat_map f (each t)) c.loop-thread.invariant
    ∙ (append_assoc (string_bytes c.args.text.now) (flat_map f (first ++ all_below each t)) (flat_map f (each t))
    ∙ ap (λ z. string_bytes c.args.text.now ++ z) (sym (behind_on f first each t))))

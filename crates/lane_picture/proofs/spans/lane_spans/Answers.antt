use Rattle.std.proofs.Common.{◌+◌, ap, sym, ◌∙◌, vec_items, get_or}
use Rattle.lane_picture.specs.Marks.{look_at}
use Rattle.lane_picture.specs.Growing.{next_look}
use Rattle.lane_picture.proofs.Columns.{lane_at}
use Rattle.lane_picture.proofs.spans.lane_spans.Goals as goal

pub loop-frame-preserved : goal.loop-frame-preserved
loop-frame-preserved c =
    let l = c.loop-frame in
    let k = lane_at (look_at c.args.lane) c.args.film.now l.frame-index c.frame-item.result c.loop-frame-test.true in
    let look = c.look.ensures ∙ ap (look_at c.args.lane) c.frame-item.is in
    record {
      count = ap (λ n. n + 1) l.invariant.count;
      spans =
          c.in_ok-add_column.ensures
          ∙ (ap (λ n. next_look n c.look.result (vec_items l.spans)) l.invariant.count
          ∙ (ap (λ z. next_look l.frame-index z (vec_items l.spans)) look
          ∙ (ap (next_look l.frame-index (look_at c.args.lane (get_or c.args.film.now l.frame-index c.frame-item.result))) l.invariant.spans
          ∙ sym k)));
    }

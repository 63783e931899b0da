use Rattle.std.proofs.Common.{◌≡◌, ◌<◌, ◌+◌, ◌++◌, ◌∷◌, [], ap, sym, subst, ◌∙◌, take, get_or, length}
use Rattle.trace_picture.specs.Looking.{pose_at, poses_at}
use Rattle.trace_picture.proofs.Lanes.{poses_on}
use Rattle.trace_picture.proofs.looking.poses.Goals as goal

pub loop-thread-preserved : goal.loop-thread-preserved
loop-thread-preserved c =
    let w = c.args.world.now in
    let items = c.args.world.now.threads.list.items in
    let n = c.loop-thread.thread-index in
    let item = c.thread-item.result in
    let v = c.deref-thread-items.ensures.value in
    let less : n < length items = subst (λ z. n < length z) v c.loop-thread-test.true in
    let is : item ≡ get_or items n item = subst (λ z. item ≡ get_or z n item) v c.thread-item.is in
    let shown = c.in_ok-pose.ensures ∙ (ap (λ m. pose_at w m item) c.loop-thread.invariant.count ∙ ap (pose_at w n) is) in
    record {
      count = ap (λ m. m + 1) c.loop-thread.invariant.count;
      poses =
          c.push_reserved.ensures.items
          ∙ (ap (λ z. z ++ c.in_ok-pose.pose ∷ []) (c.in_ok-reserve.ensures.items ∙ c.loop-thread.invariant.poses)
          ∙ (ap (λ z. poses_at w 0 (take n items) ++ z ∷ []) shown
          ∙ sym (poses_on w items n item less)));
    }

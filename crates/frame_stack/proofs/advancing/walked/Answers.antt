use Rattle.std.proofs.Common.{◌+◌, refl}
use Rattle.slot_laws.specs.SlotRules.{at}
use Rattle.slot_laws.proofs.SlotFraming.{one_after}
use Rattle.local_steps.specs.Machine.{active_of, frames_of, funs_of}
use Rattle.frame_stack.specs.Advancing.{over_frames}
use Rattle.frame_stack.proofs.Walking.{stuck_after}
use Rattle.frame_stack.proofs.advancing.walked.Goals as goal

pub returns-then-not-branch : goal.returns-then-not-branch
returns-then-not-branch c =
    let b = c.args.body.now in
    let fs = c.args.frames.now in
    let w = c.loop-done.walk in
    stuck_after (funs_of b) fs.below c.loop-done._done c.args.k (at (active_of b c.args.start) (frames_of b fs.list)) (at (active_of b w.part) (frames_of b (over_frames w fs.list))) c.loop-done-test.true c.loop-done.invariant.rules
    ((c.in_ok-turn.ensures {u = tt}).none c.if-not-branch.true)

pub loop-done-preserved : goal.loop-done-preserved
loop-done-preserved c =
    let b = c.args.body.now in
    let fs = c.args.frames.now in
    let w = c.loop-done.walk in
    let v = c.turn.new.walk in
    let told = c.in_ok-turn.ensures {u = tt} in
    record {
      over = told.over c.if-not-branch.false;
      rules = one_after (funs_of b) fs.below c.loop-done._done (c.loop-done._done + 1) (at (active_of b c.args.start) (frames_of b fs.list)) (at (active_of b w.part) (frames_of b (over_frames w fs.list))) (at (active_of b v.part) (frames_of b (over_frames v fs.list))) refl
          c.loop-done.invariant.rules (told.rule c.if-not-branch.false);
    }

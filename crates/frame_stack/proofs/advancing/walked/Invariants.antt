use Rattle.std.proofs.Common.{◌≡◌, Some}
use Rattle.slot_laws.specs.SlotRules.{at, locals}
use Rattle.local_steps.specs.Machine.{active_of, frames_of, funs_of}
use Rattle.frame_stack.specs.Advancing.{IsOver, over_frames}
use Rattle.frame_stack.proofs.advancing.walked.Given as goal

abbrev pub invariant-loop-done : goal.invariant-loop-done
invariant-loop-done l = record {
  over : IsOver l.frames.below l.frames.list l.walk;
  rules : locals (funs_of l.body) l.frames.below l._done (at (active_of l.body l.fn.start) (frames_of l.body l.frames.list)) ≡ Some (at (active_of l.body l.walk.part) (frames_of l.body (over_frames l.walk l.frames.list)));
}

use Rattle.std.proofs.Common.{◌≡◌, [], Some}
use Rattle.slot_laws.specs.SlotRules.{at, locals}
use Rattle.local_steps.specs.Machine.{active_of, frames_of, funs_of}
use Rattle.frame_stack.specs.Slicing.{MayGo, Stops}
use Rattle.frame_stack.proofs.running.run.Given as goal

abbrev pub invariant-loop-done : goal.invariant-loop-done
invariant-loop-done g l = record {
  moves : locals (funs_of l.body) l.fn.bounds.mask l.done (at (active_of l.body l.fn.start) []) ≡ Some (at (active_of l.body l.active) (frames_of l.body l.frames.list));
  under : l.frames.below ≡ l.fn.bounds.mask;
  may : ∥ MayGo l.body l.fn.bounds.mask (active_of l.body l.active) (frames_of l.body l.frames.list) ∥₁;
  goes : Stops (active_of l.body l.active) l.frames.list → ⊥;
}

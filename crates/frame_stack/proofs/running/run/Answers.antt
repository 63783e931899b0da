use Rattle.std.proofs.Common.{Some, ◌∙◌, ap, sym, subst}
use Rattle.slot_laws.specs.SlotRules.{at}
use Rattle.local_steps.specs.Frames.{Framed}
use Rattle.local_steps.specs.Machine.{active_of, frames_of}
use Rattle.frame_stack.specs.Slicing.{MayGo, Stops}
use Rattle.frame_stack.proofs.Progress.{one_further}
use Rattle.frame_stack.proofs.running.run.Goals as goal

pub loop-done-init : goal.loop-done-init
loop-done-init g c =
    let b = c.args.body.now in
    let e = sym c.new-frames.ensures in
    record {
      moves = ap (λ (z : Framed). Some (at (active_of b c.args.start) (frames_of b z.list))) e;
      under = ap (λ (z : Framed). z.below) c.new-frames.ensures;
      may = subst (λ (z : Framed). ∥ MayGo b c.args.bounds.mask (active_of b c.args.start) (frames_of b z.list) ∥₁) e c.requires.may;
      goes = subst (λ (z : Framed). Stops (active_of b c.args.start) z.list → ⊥) e c.requires.doing;
    }

pub step_on-requires-clause-may : goal.step_on-requires-clause-may
step_on-requires-clause-may g c =
    let b = c.args.body.now in
    subst (λ m. ∥ MayGo b m (active_of b c.loop-done.active) (frames_of b c.loop-done.frames.list) ∥₁) (sym c.loop-done.invariant.under) c.loop-done.invariant.may

pub returns-then-stopped-clause-moves : goal.returns-then-stopped-clause-moves
returns-then-stopped-clause-moves g c =
    let b = c.args.body.now in
    let l = c.loop-done in
    one_further b c.args.bounds.mask l.frames.below l.done (active_of b c.args.start) (active_of b l.active) (active_of b c.step_on.new.active) (frames_of b l.frames.list) (frames_of b c.step_on.new.frames.list)
    l.invariant.under l.invariant.moves (c.in_ok-step_on.ensures {u = tt}).rule

pub returns-then-stopped-clause-may : goal.returns-then-stopped-clause-may
returns-then-stopped-clause-may g c =
    let b = c.args.body.now in
    subst (λ m. ∥ MayGo b m (active_of b c.step_on.new.active) (frames_of b c.step_on.new.frames.list) ∥₁) c.loop-done.invariant.under (c.in_ok-step_on.ensures {u = tt}).may

pub loop-done-preserved : goal.loop-done-preserved
loop-done-preserved g c =
    let b = c.args.body.now in
    let l = c.loop-done in
    let told = c.in_ok-step_on.ensures {u = tt} in
    record {
      moves = one_further b c.args.bounds.mask l.frames.below l.done (active_of b c.args.start) (active_of b l.active) (active_of b c.step_on.new.active) (frames_of b l.frames.list) (frames_of b c.step_on.new.frames.list)
          l.invariant.under l.invariant.moves told.rule;
      under = told.below ∙ l.invariant.under;
      may = subst (λ m. ∥ MayGo b m (active_of b c.step_on.new.active) (frames_of b c.step_on.new.frames.list) ∥₁) l.invariant.under told.may;
      goes = λ h. let e = (c.stopped.ensures b).1 h in let f = c.if-stopped.false in cc;
    }

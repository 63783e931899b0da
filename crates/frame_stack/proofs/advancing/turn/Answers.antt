use Rattle.std.proofs.Common.{◌≡◌, drop, ap, ◌∙◌, sym}
use Rattle.std.proofs.lemmas.Result.{IfOk-weaker}
use Rattle.slot_laws.specs.SlotRules.{local}
use Rattle.local_steps.specs.declared.active.Active.{Active}
use Rattle.local_steps.specs.Machine.{active_of, frames_of, funs_of}
use Rattle.frame_stack.specs.Advancing.{over_frames}
use Rattle.frame_stack.proofs.Walking.{rule_over, none_over}
use Rattle.frame_stack.proofs.advancing.turn.Goals as goal

-- the rule at the start is the one behind the frame that was taken
start : (c : goal.After-step_alone) → local (funs_of c.args.body.now) c.args.frames.now.below (active_of c.args.body.now c.args.walk.now.part) (frames_of c.args.body.now (over_frames c.args.walk.now c.args.frames.now.list))
    ≡ local (funs_of c.args.body.now) c.args.frames.now.below (active_of c.args.body.now c.framed.new.walk.part) (frames_of c.args.body.now (over_frames c.framed.new.walk c.args.frames.now.list))
start c =
    let b = c.args.body.now in
    let s = c.args.frames.now.below in
    let fs = c.args.frames.now.list in
    ap (λ (x : Active). local (funs_of b) s (active_of b x) (frames_of b (over_frames c.args.walk.now fs))) (sym c.framed.ensures.part)
    ∙ ap (λ z. local (funs_of b) s (active_of b c.framed.new.walk.part) (frames_of b z)) (sym ((c.in_ok-framed.ensures {u = tt}).same c.if-not-branch.false))

pub returns-clause-rule : goal.returns-clause-rule
returns-clause-rule c =
    let b = c.args.body.now in
    let s = c.args.frames.now.below in
    let w = c.framed.new.walk in
    IfOk-weaker c.step_alone.result _ _
    (λ done h yes. start c ∙ rule_over b s w.own.below (active_of b w.part) (active_of b c.step_alone.new.active) w.own.list c.step_alone.new.own.list (drop w.gone c.args.frames.now.list) ((c.in_ok-framed.ensures {u = tt}).over c.if-not-branch.false).below (h yes))
    c.step_alone.ensures.rule

pub returns-clause-none : goal.returns-clause-none
returns-clause-none c =
    let b = c.args.body.now in
    let s = c.args.frames.now.below in
    let w = c.framed.new.walk in
    IfOk-weaker c.step_alone.result _ _
    (λ done h no. start c ∙ none_over b s w.own.below (active_of b w.part) w.own.list (drop w.gone c.args.frames.now.list) ((c.in_ok-framed.ensures {u = tt}).over c.if-not-branch.false).below ((c.in_ok-framed.ensures {u = tt}).meets c.if-not-branch.false b) (h no))
    c.step_alone.ensures.none

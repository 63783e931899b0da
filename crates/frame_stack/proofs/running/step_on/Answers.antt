use Rattle.std.proofs.Common.{◌≡◌, ap, sym, ◌∙◌}
use Rattle.slot_laws.specs.SlotRules.{local}
use Rattle.local_steps.specs.Machine.{active_of, frames_of, funs_of, next_of}
use Rattle.frame_stack.proofs.Progress.{never_stuck, may_again}
use Rattle.frame_stack.proofs.running.step_on.Goals as goal

pub returns-then-branch-clause-may : goal.returns-then-branch-clause-may
returns-then-branch-clause-may c =
    let b = c.args.body.now in
    let fs = c.args.frames.now in
    may_again b fs.below (active_of b c.args.active.now) (active_of b c.step_in_place.new.active) (frames_of b fs.list) (frames_of b fs.list) c.requires.may
    ((c.in_ok-step_in_place.ensures {u = tt}).rule c.if-branch.true fs.below (frames_of b fs.list))

pub unreachable-requires : goal.unreachable-requires
unreachable-requires c =
    let b = c.args.body.now in
    let fs = c.args.frames.now in
    let same : c.replace-part.result ≡ c.args.active.now = c.replace-part.ensures.value ∙ (c.in_ok-step_in_place.ensures {u = tt}).same (λ t. let f = c.if-branch.false in cc) in
    never_stuck b fs.below (active_of b c.args.active.now) fs.list c.requires.may c.requires.goes
    (ap (λ p. local (funs_of b) fs.below (active_of b p) (frames_of b fs.list)) (sym same) ∙ (sym (c.in_ok-next.ensures {u = tt}).rule ∙ ap (λ n. next_of b n c.step.new.frames.list) c.in-Stuck.is))

pub returns-clause-may : goal.returns-clause-may
returns-clause-may c =
    let b = c.args.body.now in
    let fs = c.args.frames.now in
    let same : c.replace-part.result ≡ c.args.active.now = c.replace-part.ensures.value ∙ (c.in_ok-step_in_place.ensures {u = tt}).same (λ t. let f = c.if-branch.false in cc) in
    may_again b fs.below (active_of b c.args.active.now) (active_of b c.in-To.next) (frames_of b fs.list) (frames_of b c.step.new.frames.list) c.requires.may
    (ap (λ p. local (funs_of b) fs.below (active_of b p) (frames_of b fs.list)) (sym same) ∙ (sym (c.in_ok-next.ensures {u = tt}).rule ∙ ap (λ n. next_of b n c.step.new.frames.list) c.in-To.is))

use Rattle.std.proofs.Common.{◌∙◌, [], sym, subst}
use Rattle.local_steps.specs.Machine.{active_of, frames_of}
use Rattle.frame_stack.specs.Slicing.{MayGo, Stops}
use Rattle.frame_stack.proofs.Progress.{doing_goes, fits}
use Rattle.frame_stack.proofs.slicing.slice.Goals as goal

pub run-requires-clause-may : goal.run-requires-clause-may
run-requires-clause-may g c =
    subst (λ b. ∥ MayGo b c.args.job.mask (active_of b c.in_ok-first.first) [] ∥₁) (c.requires ∙ sym c.body.ensures)
    (subst (λ p. ∥ MayGo c.args.job.of.value c.args.job.mask p [] ∥₁) (sym (c.in_ok-first.ensures {u = tt} c.args.job.of.value)) c.args.job.may)

pub run-requires-clause-doing : goal.run-requires-clause-doing
run-requires-clause-doing g c =
    subst (λ p. Stops p [] → ⊥) (sym (c.in_ok-first.ensures {u = tt} c.body.result.now)) (doing_goes c.body.result.now c.args.job.start [] c.args.job.doing)

pub control-end-requires : goal.control-end-requires
control-end-requires g c =
    let b = c.body.result.now in
    fits b c.args.job.mask c.in_ok-ran.ran.end (frames_of b c.in_ok-ran.ran.pushed.list) (c.in_ok-ran.ensures {u = tt}).may

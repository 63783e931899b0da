use Rattle.std.proofs.Common.{ap, ◌∙◌}
use Rattle.hs_base.specs.declared.mask.Mask.TheVariants.{Unmasked}
use Rattle.local_steps.specs.Frames.{mask_inside}
use Rattle.local_steps.proofs.Codes.{masks_inside}
use Rattle.frame_stack.specs.Parts.{Stacked}
use Rattle.frame_stack.proofs.stack.Stack.mask.Goals as goal

pub returns-clause-state : goal.returns-clause-state
returns-clause-state c b =
    c.mask.ensures ∙ (ap (λ m. mask_inside m c.self.inside.frames.list) c.self.invariant
    ∙ (ap (λ (s : Stacked). mask_inside Unmasked s.frames) c.self.view_is ∙ masks_inside b Unmasked c.args.self.now.frames))

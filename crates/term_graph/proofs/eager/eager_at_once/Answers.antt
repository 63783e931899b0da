use Rattle.std.proofs.Common.{true, false, refl, sym, ap, ◌∙◌}
use Rattle.hs_base.specs.declared.mask.Mask.TheVariants.{Unmasked}
use Rattle.local_steps.specs.Frames.{mask_inside}
use Rattle.local_steps.specs.Machine.{active_of, frames_of}
use Rattle.term_graph.specs.Eager.{is_unmasked}
use Rattle.term_graph.specs.Steps.{leaves_eagerly}
use Rattle.term_graph.proofs.Going.{at_once_is}
use Rattle.term_graph.proofs.eager.eager_at_once.Goals as goal

-- src/eager.rt
pub returns-then-throws : goal.returns-then-throws
returns-then-throws c = λ b fs e.
    at_once_is b (active_of b c.args.part.now) fs true (is_unmasked (mask_inside Unmasked fs)) (leaves_eagerly (active_of b c.args.part.now) (frames_of b fs)) (sym c.if-throws.true ∙ c.is_throw-throws.ensures b) refl refl

pub returns-then-open : goal.returns-then-open
returns-then-open c = λ b fs e.
    at_once_is b (active_of b c.args.part.now) fs false true c.leaves_eagerly.result (sym c.if-throws.false ∙ c.is_throw-throws.ensures b)
    (sym c.if-open.true ∙ c.is_unmasked-open.ensures ∙ ap is_unmasked (c.mask.ensures fs e)) (c.leaves_eagerly.ensures b fs e)

pub returns-else-open : goal.returns-else-open
returns-else-open c = λ b fs e.
    at_once_is b (active_of b c.args.part.now) fs false false (leaves_eagerly (active_of b c.args.part.now) (frames_of b fs)) (sym c.if-throws.false ∙ c.is_throw-throws.ensures b)
    (sym c.if-open.false ∙ c.is_unmasked-open.ensures ∙ ap is_unmasked (c.mask.ensures fs e)) refl

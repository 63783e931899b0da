use Rattle.std.proofs.Common.{length, ap, ◌∙◌, arith, get_or}
use Rattle.typing_parts.proofs.HeadSteps.{places_step}
use Rattle.typing_parts.proofs.heads.places_of.Goals as goal

pub params-preserved : goal.params-preserved
params-preserved c = places_step c.args.interner.now.types.nodes c.params.interner.types.nodes c.intern.new.self.types.nodes c.args.ps.now c.params.p-index c.p-item.result c.params.places c.add.new.self c.in_ok-place.place (omega (arith, ap length c.as_slice-p-items.ensures)) (c.p-item.is ∙ ap (λ z. get_or z c.params.p-index c.p-item.result) c.as_slice-p-items.ensures) c.in_ok-add.ensures.ok c.in_ok-place.ensures c.params.invariant

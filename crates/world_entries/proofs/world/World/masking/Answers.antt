use Rattle.world_entries.proofs.Performing.{masking_made, masked_as}
use Rattle.frame_stack.specs.declared.control.Operation.TheVariants as operation
use Rattle.world_entries.proofs.world.World.masking.Goals as goal

pub returns-clause-ok : goal.returns-clause-ok
returns-clause-ok c =
    let w = c.args.self.now in
    masking_made w c.args.t c.requires.goes c.answer.new.self c.requires.stands c.mask-mask.result c.in_ok-text.text
    (masked_as w c.args.t operation.GetMaskingState c.requires.stands c.index.result.now c.index.ensures c.mask-mask.result c.mask-mask.ensures.state)
    c.in_ok-text.ensures c.answer.ensures.list c.answer.ensures.flight

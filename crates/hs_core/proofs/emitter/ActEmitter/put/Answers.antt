use Rattle.std.proofs.Common.{refl}
use Rattle.hs_core.proofs.emitter.ActEmitter.put.Goals as goal

pub returns : goal.returns
returns c = record { id = c.in_ok-id.id; pushed = c.in_ok-id.ensures; base = refl; operands = refl; acts = c.in_ok-add.ensures.ok }

use Rattle.hs_core.proofs.Waits.{moves_restore}
use Rattle.hs_core.proofs.emitter.ActEmitter.make_restore_bound.Goals as goal

pub returns : goal.returns
returns c = λ d. moves_restore d c.args.given.now c.args.x c.slot_bound-slot.result c.slot_bound-slot.ensures (c.in_ok-make_restore.ensures d)

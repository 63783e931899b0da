use Rattle.hs_core.proofs.Steps.{calls}
use Rattle.hs_core.proofs.emitter.ActEmitter.call.Goals as goal

pub returns : goal.returns
returns c =
    calls c.args.defs.now c.args.f.now c.in_ok-number.number c.in_ok-ids.ensures c.in_ok-number.ensures c.in_ok-id.ensures

use Rattle.hs_core.proofs.Steps.{performs}
use Rattle.hs_core.proofs.emitter.ActEmitter.perform.Goals as goal

pub returns : goal.returns
returns c = λ ts. performs c.args.primitive c.args.es ts c.in_ok-id.ensures

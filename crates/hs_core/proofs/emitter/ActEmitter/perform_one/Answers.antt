use Rattle.hs_core.proofs.Steps.{performed_one}
use Rattle.hs_core.proofs.emitter.ActEmitter.perform_one.Goals as goal

pub returns : goal.returns
returns c =
    λ t. performed_one c.args.primitive c.args.e t c.in_ok-es.es c.in_ok-es.ensures c.in_ok-id.ensures (λ k. k)

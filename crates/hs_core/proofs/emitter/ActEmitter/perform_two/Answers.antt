use Rattle.hs_core.proofs.Steps.{performed_two}
use Rattle.hs_core.proofs.emitter.ActEmitter.perform_two.Goals as goal

pub returns : goal.returns
returns c =
    λ t w. performed_two c.args.primitive c.args.e c.args.f t w c.in_ok-es.es c.in_ok-es.ensures c.in_ok-id.ensures (λ k. k.0) (λ k. k.1)

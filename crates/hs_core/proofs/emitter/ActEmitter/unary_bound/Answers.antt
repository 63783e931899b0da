use Rattle.rules_code.specs.Slots.{s_unary}
use Rattle.hs_core.proofs.Steps.{ex_after}
use Rattle.hs_core.proofs.emitter.ActEmitter.unary_bound.Goals as goal

pub returns : goal.returns
returns c = ex_after (s_unary c.args.form) c.in_ok-e.ensures (λ k. k) c.in_ok-id.ensures

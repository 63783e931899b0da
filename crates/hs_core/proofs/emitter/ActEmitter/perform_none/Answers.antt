use Rattle.std.proofs.Common.{sym, subst}
use Rattle.rules_code.specs.Slots.{s_none}
use Rattle.hs_core.specs.Emits.{AllStandIn}
use Rattle.hs_core.proofs.Steps.{weaken}
use Rattle.hs_core.proofs.emitter.ActEmitter.perform_none.Goals as goal

pub returns : goal.returns
returns c =
    weaken (λ k. subst (λ z. AllStandIn c.args.self.now z s_none) (sym c.new.ensures) tt) (c.in_ok-id.ensures s_none)

use Rattle.std.proofs.Common.{subst}
use Rattle.hs_core.specs.Emits.{Pushed}
use Rattle.hs_core.proofs.Openings.{wraps_one}
use Rattle.hs_core.proofs.emitter.ActEmitter.wrapped.Goals as goal

pub returns : goal.returns
returns c = λ o t. wraps_one c.args.pending o t (subst (λ z. Pushed c.args.self.now c.act.new.self c.in_ok-id.id z) c.node-act.ensures c.in_ok-id.ensures)

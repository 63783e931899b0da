use Rattle.std.proofs.Common.{subst, sym}
use Rattle.hs_core.specs.Waiting.{ActOff}
use Rattle.hs_core.proofs.Waits.{act_popped, act_missing}
use Rattle.hs_core.proofs.emitter.ActEmitter.act_off.Goals as goal

pub returns-in-Some : goal.returns-in-Some
returns-in-Some c = λ us. act_popped c.args.self.now c.args.acts.now c.pop.new.self c.in-Some.i us c.in-Some.ensures

pub returns-in-None : goal.returns-in-None
returns-in-None c =
    λ us. subst (λ z. ActOff c.args.self.now c.args.acts.now z (record { 0 = c.len.result }) us) (sym c.in-None.ensures.1) (act_missing c.args.self.now c.args.acts.now (record { 0 = c.len.result }) us c.in-None.ensures.0 c.len.ensures)

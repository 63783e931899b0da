use Rattle.std.proofs.Common.{refl}
use Rattle.rules_code.specs.CodeTrees.{a_then}
use Rattle.hs_core.proofs.Waits.{moves_acts}
use Rattle.hs_core.proofs.emitter.ActEmitter.make_then.Goals as goal

pub returns : goal.returns
returns c = λ d. moves_acts d a_then (λ ts us. refl) c.act_off-j.ensures c.act_off-i.ensures c.in_ok-put.ensures

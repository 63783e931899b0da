use Rattle.std.proofs.Common.{refl}
use Rattle.rules_code.specs.CodeTrees.{a_fork}
use Rattle.hs_core.proofs.Waits.{moves_act}
use Rattle.hs_core.proofs.emitter.ActEmitter.make_fork.Goals as goal

pub returns : goal.returns
returns c = λ d. moves_act d a_fork (λ ts us. refl) c.act_off-i.ensures c.in_ok-put.ensures

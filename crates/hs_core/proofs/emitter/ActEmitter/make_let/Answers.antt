use Rattle.std.proofs.Common.{refl}
use Rattle.rules_code.specs.CodeTrees.{a_let}
use Rattle.hs_core.proofs.Waits.{moves_operand_act}
use Rattle.hs_core.proofs.emitter.ActEmitter.make_let.Goals as goal

pub returns : goal.returns
returns c = λ d. moves_operand_act d a_let (λ ts us. refl) c.in_ok-e.ensures c.act_off-i.ensures c.in_ok-put.ensures

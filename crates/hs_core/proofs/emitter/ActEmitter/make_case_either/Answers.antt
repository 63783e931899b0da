use Rattle.std.proofs.Common.{refl}
use Rattle.rules_code.specs.CodeTrees.{a_either}
use Rattle.hs_core.proofs.Waits.{moves_operand_acts}
use Rattle.hs_core.proofs.emitter.ActEmitter.make_case_either.Goals as goal

pub returns : goal.returns
returns c = λ d. moves_operand_acts d a_either (λ ts us. refl) c.in_ok-e.ensures c.act_off-j.ensures c.act_off-i.ensures c.in_ok-put.ensures

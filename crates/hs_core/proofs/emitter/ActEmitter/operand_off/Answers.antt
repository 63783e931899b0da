use Rattle.std.proofs.Common.{subst, sym}
use Rattle.hs_core.specs.Waiting.{OperandOff}
use Rattle.hs_core.proofs.Waits.{operand_popped, operand_missing}
use Rattle.hs_core.proofs.emitter.ActEmitter.operand_off.Goals as goal

pub returns-in-Some : goal.returns-in-Some
returns-in-Some c = λ ts. operand_popped c.args.self.now c.args.operands.now c.pop.new.self c.in-Some.e ts c.in-Some.ensures

pub returns-in_ok-e-in-None : goal.returns-in_ok-e-in-None
returns-in_ok-e-in-None c =
    λ ts. subst (λ z. OperandOff c.args.self.now c.no_value.new.self c.args.operands.now z c.in_ok-e-in-None.e ts) (sym c.in-None.ensures.1) (operand_missing c.args.operands.now ts c.in-None.ensures.0 c.in_ok-e-in-None.ensures)

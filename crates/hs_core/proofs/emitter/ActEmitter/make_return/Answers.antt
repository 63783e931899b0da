use Rattle.std.proofs.Common.{refl}
use Rattle.rules_code.specs.CodeTrees.{a_return}
use Rattle.hs_core.proofs.Waits.{moves_operand}
use Rattle.hs_core.proofs.emitter.ActEmitter.make_return.Goals as goal

pub returns : goal.returns
returns c = λ d. moves_operand d a_return (λ ts us. refl) c.in_ok-e.ensures c.in_ok-put.ensures

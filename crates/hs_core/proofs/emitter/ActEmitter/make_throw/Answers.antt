use Rattle.std.proofs.Common.{refl}
use Rattle.rules_code.specs.CodeTrees.{a_throw}
use Rattle.hs_core.proofs.Waits.{moves_operand}
use Rattle.hs_core.proofs.emitter.ActEmitter.make_throw.Goals as goal

pub returns : goal.returns
returns c = λ d. moves_operand d a_throw (λ ts us. refl) c.in_ok-e.ensures c.in_ok-put.ensures

use Rattle.rules_expansion.specs.Templates.{operand}
use Rattle.rules_code.specs.CodeTrees.{slotted_core_ex}
use Rattle.hs_core.specs.Defining.{roots}
use Rattle.hs_core.proofs.Waits.{moves_push}
use Rattle.hs_core.proofs.emitter.ActEmitter.push.Goals as goal

pub returns : goal.returns
returns c = λ f s g. moves_push c.args.defs.now (λ z. slotted_core_ex (roots c.args.defs.now) z (operand f c.args.what)) (c.in_ok-id.ensures f s g) c.in_ok-add.ensures.ok

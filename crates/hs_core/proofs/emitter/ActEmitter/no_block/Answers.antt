use Rattle.std.proofs.Common.{refl}
use Rattle.rules_code.specs.declared.act.Act.TheVariants as k
use Rattle.rules_code.specs.CodeTrees.{a_return}
use Rattle.hs_core.proofs.Steps.{of_ex}
use Rattle.hs_core.proofs.emitter.ActEmitter.no_block.Goals as goal

pub returns : goal.returns
returns c = of_ex k.Return a_return (λ ts us x. refl) c.in_ok-e.ensures (λ k. k) c.in_ok-id.ensures

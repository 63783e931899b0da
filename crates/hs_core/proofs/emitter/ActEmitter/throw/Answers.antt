use Rattle.std.proofs.Common.{refl}
use Rattle.rules_code.specs.declared.act.Act.TheVariants as k
use Rattle.rules_code.specs.CodeTrees.{a_throw}
use Rattle.hs_core.proofs.Steps.{of_ex}
use Rattle.hs_core.proofs.emitter.ActEmitter.throw.Goals as goal

pub returns : goal.returns
returns c =
    of_ex k.Throw a_throw (λ ts us x. refl) c.in_ok-i.ensures (λ k. k) c.in_ok-id.ensures

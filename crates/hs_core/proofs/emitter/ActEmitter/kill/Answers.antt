use Rattle.rules_expansion.specs.declared.primitive.Primitive.TheVariants as p
use Rattle.rules_code.specs.Slots.{s_none, s_more}
use Rattle.rules_code.specs.CodeTrees.{a_perform}
use Rattle.hs_core.proofs.Steps.{with_killed}
use Rattle.hs_core.proofs.emitter.ActEmitter.kill.Goals as goal

pub returns : goal.returns
returns c =
    λ t. with_killed (λ v w. a_perform p.ThrowTo (s_more v (s_more w s_none))) c.in_ok-killed.ensures tt c.in_ok-id.ensures

use Rattle.rules_expansion.specs.declared.primitive.Primitive.TheVariants as p
use Rattle.hs_base.specs.declared.exn.Exn.TheVariants as x
use Rattle.rules_expansion.specs.trees.Trees.{exception}
use Rattle.rules_code.specs.Slots.{s_none, s_more, s_literal}
use Rattle.rules_code.specs.CodeTrees.{a_perform}
use Rattle.hs_core.proofs.Steps.{after_ex}
use Rattle.hs_core.proofs.emitter.ActEmitter.kill_thread.Goals as goal

pub returns : goal.returns
returns c =
    after_ex (λ u. a_perform p.ThrowTo (s_more u (s_more (s_literal (exception x.ThreadKilled)) s_none))) c.in_ok-i.ensures (λ k. k) c.in_ok-id.ensures

use Rattle.rules_code.specs.Slots.{s_none, s_more}
use Rattle.rules_code.specs.CodeTrees.{a_perform}
use Rattle.hs_core.proofs.Steps.{after_ex}
use Rattle.hs_core.proofs.emitter.ActEmitter.primitive_one.Goals as goal

pub returns : goal.returns
returns c =
    after_ex (λ u. a_perform c.args.primitive (s_more u s_none)) c.in_ok-i.ensures (λ k. k) c.in_ok-id.ensures

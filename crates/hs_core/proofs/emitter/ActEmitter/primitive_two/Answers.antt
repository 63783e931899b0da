use Rattle.rules_code.specs.Slots.{s_none, s_more}
use Rattle.rules_code.specs.CodeTrees.{a_perform}
use Rattle.hs_core.proofs.ActArena.{knows_on}
use Rattle.hs_core.proofs.Steps.{after_ex2}
use Rattle.hs_core.proofs.emitter.ActEmitter.primitive_two.Goals as goal

pub returns : goal.returns
returns c =
    after_ex2 (λ u v. a_perform c.args.primitive (s_more u (s_more v s_none))) c.in_ok-i.ensures (λ k. k) c.in_ok-j.ensures (λ k. knows_on c.in_ok-i.ensures.nodes k) c.in_ok-id.ensures

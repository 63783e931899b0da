use Rattle.std.proofs.Common.{ap}
use Rattle.rules_code.specs.Slots.{s_none, s_more, trees_in}
use Rattle.rules_code.specs.CodeTrees.{a_perform}
use Rattle.hs_core.proofs.Waits.{moves_operands}
use Rattle.hs_core.proofs.emitter.ActEmitter.make_perform_two.Goals as goal

pub returns : goal.returns
returns c =
    λ d. moves_operands d (λ x y. a_perform c.args.primitive (s_more x (s_more y s_none))) (λ ts us. ap (λ z. a_perform c.args.primitive (trees_in ts z)) c.in_ok-es.ensures) c.in_ok-f.ensures c.in_ok-e.ensures c.in_ok-put.ensures

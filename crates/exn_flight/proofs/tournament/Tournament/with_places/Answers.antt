use Rattle.std.proofs.Common.{◌+◌, ◌∙◌, None, arith}
use Rattle.std.proofs.lemmas.List.{get_or-drop, length-drop}
use Rattle.exn_flight.proofs.Winning.{won_vacant}
use Rattle.exn_flight.proofs.tournament.Tournament.with_places.Goals as goal

pub push_reserved-requires : goal.push_reserved-requires
push_reserved-requires c =
    let h = c.loop-node.invariant in
    omega (arith, h.0, h.1, c.loop-node.nodes.ok.0, c.loop-node-test.true)

pub invariant_of-result : goal.invariant_of-result
invariant_of-result c =
    let h = c.loop-node.invariant in
    record { size = omega (arith, h.0, c.loop-node-test.false, h.3); won = won_vacant c.args.n c.loop-node.nodes.items h.2 }

pub returns-clause-places : goal.returns-clause-places
returns-clause-places c =
    let h = c.loop-node.invariant in
    omega (arith, length-drop c.args.n c.loop-node.nodes.items, h.0, c.loop-node-test.false, h.3)

pub returns-clause-vacant : goal.returns-clause-vacant
returns-clause-vacant c = λ k. get_or-drop c.args.n c.loop-node.nodes.items k None ∙ c.loop-node.invariant.2 (c.args.n + k)

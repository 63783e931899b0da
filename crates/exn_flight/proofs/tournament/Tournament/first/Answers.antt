use Rattle.std.proofs.Common.{◌<◌, ◌≤◌, ◌∙◌, length, None, ap, arith}
use Rattle.std.proofs.lemmas.List.{get_or_read}
use Rattle.exn_flight.specs.Tournaments.{best}
use Rattle.exn_flight.proofs.Winning.{root_is_best}
use Rattle.exn_flight.proofs.tournament.Tournament.first.Goals as goal

-- node 1 stands over all
pub returns : goal.returns
returns c =
    let ns = c.self.inside.nodes.items in
    let n = c.self.inside.places in
    let h = c.self.invariant in
    let some : 1 ≤ n = omega (arith, c.if-self-eq0.false) in
    let lt : 1 < length ns = omega (arith, some, h.size) in
    c.as_ref.ensures.value ∙ get_or_read ns 1 c.index.result.now lt c.index.ensures None ∙ root_is_best ns n h some ∙ ap best c.self.view_is

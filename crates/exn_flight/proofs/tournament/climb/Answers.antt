use Rattle.std.proofs.Common.{◌≡◌, ◌+◌, ◌*◌, ◌/◌, ◌<◌, ◌∙◌, length, None, refl, ap, arith}
use Rattle.std.proofs.lemmas.List.{get_or_read}
use Rattle.exn_flight.specs.Tournaments.{node, first_of}
use Rattle.exn_flight.proofs.Winning.{climbs_more}
use Rattle.exn_flight.proofs.tournament.climb.Goals as goal

-- the node above has the first of two
pub loop-at-preserved : goal.loop-at-preserved
loop-at-preserved c =
    let ns = c.loop-at.nodes.items in
    let h = c.loop-at.invariant in
    let up = c.loop-at.at / 2 in
    let low : 2 * up < length ns = omega (arith, h.size, h.within) in
    let high : 2 * up + 1 < length ns = omega (arith, h.size, h.within) in
    let left : c.index.result.now ≡ node ns (up + up) = get_or_read ns (2 * up) c.index.result.now low c.index.ensures None ∙ ap (node ns) (omega arith) in
    let right : c.index-in-loop-at.result.now ≡ node ns (up + up + 1) = get_or_read ns (2 * up + 1) c.index-in-loop-at.result.now high c.index-in-loop-at.ensures None ∙ ap (node ns) (omega arith) in
    climbs_more c.args.places c.args.nodes.now.items ns c.loop-at.at up c.winner.result h c.loop-at-test.true refl (c.winner.ensures ∙ ap (λ x. first_of x c.index-in-loop-at.result.now) left ∙ ap (first_of (node ns (up + up))) right)

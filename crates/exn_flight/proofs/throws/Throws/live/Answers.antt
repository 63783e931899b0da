-- One place more is counted.
use Rattle.std.proofs.Common.{◌∙◌, ◌∷◌, [], take, length, arith, ap}
use Rattle.std.proofs.lemmas.List.{get_or_read, length-append, length-take}
use Rattle.exn_flight.specs.Throwing.{throw_at, no_throw, flying}
use Rattle.exn_flight.proofs.Flying.{flying_length, flying_more}
use Rattle.exn_flight.proofs.throws.Throws.live.Goals as goal

pub overflow_add-live : goal.overflow_add-live
overflow_add-live c =
    let list = c.args.self.now.list in
    omega (arith, flying_length (take c.loop-place.place list.items), length-take c.loop-place.place list.items, list.ok.0, list.ok.1, list.small, c.loop-place.invariant, c.count-live.ensures, flying_length (c.index.result.now ∷ []))

pub loop-place-preserved : goal.loop-place-preserved
loop-place-preserved c =
    let ts = c.args.self.now.list.items in
    let i = c.loop-place.place in
    let lt = c.loop-place-test.true in
    omega (arith, ap length (flying_more ts i (omega (arith, lt, c.args.self.now.list.ok.0, c.loop-place.auto.place-end, c.len-place-end.ensures))) ∙ length-append (flying (take i ts)) (flying (throw_at ts i ∷ [])), c.loop-place.invariant, c.count-live.ensures, ap (λ t. length (flying (t ∷ []))) (get_or_read ts i c.index.result.now (omega (arith, lt, c.args.self.now.list.ok.0, c.loop-place.auto.place-end, c.len-place-end.ensures)) c.index.ensures no_throw))

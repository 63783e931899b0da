-- The new throw is the last in order and at its target.
use Rattle.std.proofs.Common.{◌≡◌, ◌∙◌, ◌++◌, ◌∷◌, [], length, refl, sym, ap, subst, Some, nat_eq}
use Rattle.std.specs.HashMap.{get}
use Rattle.exn_flight.specs.declared.throws.Throw.{Throw}
use Rattle.exn_flight.specs.Tables.{IsPut, IsPutFirst}
use Rattle.exn_flight.specs.Throwing.{followed, flying, AreThrows}
use Rattle.exn_flight.proofs.Growing.{grown, last_within, throws_grown}
use Rattle.exn_flight.proofs.Flying.{nowhere, flying_append, flying_followed}
use Rattle.exn_flight.proofs.throws.Throws.add.Goals as goal

pub follow-requires : goal.follow-requires
follow-requires c =
    last_within c.args.self.now.list.items (get nat_eq c.args.self.now.throwers) (get nat_eq c.args.self.now.firsts) (get nat_eq c.args.self.now.lasts) c.args.target c.place_of.result c.requires.sound (sym c.place_of.ensures)

pub returns-clause-sound : goal.returns-clause-sound
returns-clause-sound c =
    let ts = c.args.self.now.list.items in
    let at = get nat_eq c.args.self.now.throwers in
    let first = get nat_eq c.args.self.now.firsts in
    let lasts = get nat_eq c.args.self.now.lasts in
    let at' = get nat_eq c.put-2.new.table in
    let first' = get nat_eq c.put_first.new.table in
    let lasts' = get nat_eq c.put.new.table in
    let last = c.place_of.result in
    let x : Throw = record { thrower = c.args.thrower; target = c.args.target; exn = Some c.args.exn; next = 0 } in
    let size : c.len-place.result ≡ length ts = c.len-place.ensures ∙ c.args.self.now.list.ok.0 in
    let is : c.push_reserved.new.self.items ≡ followed ts last (length ts) ++ x ∷ [] = c.push_reserved.ensures.items ∙ ap (λ us. us ++ x ∷ []) (c.follow.ensures.list ∙ ap (followed ts last) size) in
    let within = last_within ts at first lasts c.args.target last c.requires.sound (sym c.place_of.ensures) in
    subst (λ us. AreThrows us at' first' lasts') (sym is) (throws_grown ts _ x last (grown ts x last within) at at' first first' lasts lasts' c.requires.sound (sym c.place_of.ensures) refl refl (nowhere ts at c.args.thrower c.requires.sound.at c.requires.alone)
    (subst (λ n. IsPut at at' c.args.thrower (Some n)) size c.put-2.ensures.place)
    (subst (λ n. IsPutFirst first first' c.args.target n) size c.put_first.ensures.place)
    (subst (λ n. IsPut lasts lasts' c.args.target (Some n)) size c.put.ensures.place))

pub returns-clause-list : goal.returns-clause-list
returns-clause-list c =
    let ts = c.args.self.now.list.items in
    let last = c.place_of.result in
    let n = c.len-place.result in
    let x : Throw = record { thrower = c.args.thrower; target = c.args.target; exn = Some c.args.exn; next = 0 } in
    let is : c.push_reserved.new.self.items ≡ followed ts last n ++ x ∷ [] = c.push_reserved.ensures.items ∙ ap (λ us. us ++ x ∷ []) c.follow.ensures.list in
    ap flying is ∙ flying_append (followed ts last n) (x ∷ []) ∙ ap (λ fs. fs ++ flying (x ∷ [])) (flying_followed ts last n)

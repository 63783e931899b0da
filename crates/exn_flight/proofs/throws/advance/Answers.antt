-- Where the throw was the first at its target, the next in flight is.
use Rattle.std.proofs.Common.{◌≡◌, ◌∙◌, sym, ap, subst, Some, None, nat_eq}
use Rattle.std.proofs.lemmas.List.{get_or_read}
use Rattle.std.specs.HashMap.{get}
use Rattle.exn_flight.specs.Tables.{IsPut}
use Rattle.exn_flight.specs.Throwing.{throw_at, no_throw}
use Rattle.exn_flight.proofs.Over.{not_first, next_is_first, none_is_first, is_some_place, is_other_place}
use Rattle.exn_flight.proofs.throws.advance.Goals as goal

pub returns-then-ne-clause-firsts : goal.returns-then-ne-clause-firsts
returns-then-ne-clause-firsts c =
    let ts = c.args.list.now.items in
    let f = get nat_eq c.args.firsts.now in
    let target = ap (λ x. x.target) (get_or_read ts c.args.place c.index.result.now c.requires.within c.index.ensures no_throw) in
    not_first ts f c.args.place c.requires.firsts (λ e. is_other_place c.place_of.result c.args.place (sym c.if-ne.true ∙ c.ne.ensures) (c.place_of.ensures ∙ ap f target ∙ e))

pub returns-in-Some-clause-firsts : goal.returns-in-Some-clause-firsts
returns-in-Some-clause-firsts c =
    let ts = c.args.list.now.items in
    let f = get nat_eq c.args.firsts.now in
    let g = get nat_eq c.replace.new.table in
    let target = ap (λ x. x.target) (get_or_read ts c.args.place c.index.result.now c.requires.within c.index.ensures no_throw) in
    let here : f (throw_at ts c.args.place).target ≡ Some c.args.place = ap f (sym target) ∙ sym c.place_of.ensures ∙ is_some_place c.place_of.result c.args.place (sym c.if-ne.false ∙ c.ne.ensures) in
    next_is_first ts f g c.args.place c.in-Some.first c.requires.firsts here c.requires.gone c.in-Some.ensures (subst (λ u. IsPut f g u (Some c.in-Some.first)) target c.replace.ensures.place)

pub returns-in-None-clause-firsts : goal.returns-in-None-clause-firsts
returns-in-None-clause-firsts c =
    let ts = c.args.list.now.items in
    let f = get nat_eq c.args.firsts.now in
    let g = get nat_eq c.clear.new.table in
    let target = ap (λ x. x.target) (get_or_read ts c.args.place c.index.result.now c.requires.within c.index.ensures no_throw) in
    let here : f (throw_at ts c.args.place).target ≡ Some c.args.place = ap f (sym target) ∙ sym c.place_of.ensures ∙ is_some_place c.place_of.result c.args.place (sym c.if-ne.false ∙ c.ne.ensures) in
    none_is_first ts f g c.args.place c.requires.firsts here c.requires.gone c.in-None.ensures (subst (λ u. IsPut f g u None) target c.clear.ensures.place)

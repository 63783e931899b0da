-- The throw at a place is over, and all else is as it was.
use Rattle.std.proofs.Common.{◌∙◌, sym, ap, subst, None, nat_eq}
use Rattle.std.proofs.lemmas.List.{get_or_read}
use Rattle.std.specs.HashMap.{get}
use Rattle.exn_flight.specs.Tables.{IsPut}
use Rattle.exn_flight.specs.Throwing.{throw_at, no_throw, flying, AreLinked, AreFirstsBut, AreFirsts, AreThrows}
use Rattle.exn_flight.proofs.Growing.{live_within}
use Rattle.exn_flight.proofs.Over.{over, over_is, at_over, firsts_over, lasts_over, links_over}
use Rattle.exn_flight.proofs.Flying.{flying_over, only_at}
use Rattle.exn_flight.proofs.throws.Throws.leave.Goals as goal

pub advance-requires-clause-linked : goal.advance-requires-clause-linked
advance-requires-clause-linked c =
    let ts = c.args.self.now.list.items in
    let lt = live_within ts c.args.place c.requires.live in
    let same = over_is ts c.args.place c.index_mut.result.now c.replace.new.dest (get_or_read ts c.args.place c.index_mut.result.now lt c.index_mut.ensures.value no_throw) c.replace.ensures.after in
    subst AreLinked (sym same) (links_over ts _ c.args.place (over ts c.args.place lt) c.requires.sound.links)

pub advance-requires-clause-gone : goal.advance-requires-clause-gone
advance-requires-clause-gone c =
    let ts = c.args.self.now.list.items in
    let lt = live_within ts c.args.place c.requires.live in
    let same = over_is ts c.args.place c.index_mut.result.now c.replace.new.dest (get_or_read ts c.args.place c.index_mut.result.now lt c.index_mut.ensures.value no_throw) c.replace.ensures.after in
    ap (λ us. (throw_at us c.args.place).exn) same ∙ (over ts c.args.place lt).gone

pub advance-requires-clause-firsts : goal.advance-requires-clause-firsts
advance-requires-clause-firsts c =
    let ts = c.args.self.now.list.items in
    let f = get nat_eq c.args.self.now.firsts in
    let lt = live_within ts c.args.place c.requires.live in
    let same = over_is ts c.args.place c.index_mut.result.now c.replace.new.dest (get_or_read ts c.args.place c.index_mut.result.now lt c.index_mut.ensures.value no_throw) c.replace.ensures.after in
    subst (λ us. AreFirstsBut c.args.place us f) (sym same) (firsts_over ts _ c.args.place (over ts c.args.place lt) f c.requires.sound.first)

pub returns-clause-sound : goal.returns-clause-sound
returns-clause-sound c =
    let ts = c.args.self.now.list.items in
    let at = get nat_eq c.args.self.now.throwers in
    let at' = get nat_eq c.clear.new.table in
    let first = get nat_eq c.advance.new.firsts in
    let last = get nat_eq c.args.self.now.lasts in
    let lt = live_within ts c.args.place c.requires.live in
    let same = over_is ts c.args.place c.index_mut.result.now c.replace.new.dest (get_or_read ts c.args.place c.index_mut.result.now lt c.index_mut.ensures.value no_throw) c.replace.ensures.after in
    let thrower = ap (λ x. x.thrower) (get_or_read ts c.args.place c.index.result.now lt c.index.ensures no_throw) in
    let o = over ts c.args.place lt in
    subst (λ us. AreThrows us at' first last) (sym same) (record {
      at = at_over ts _ c.args.place o at at' c.requires.sound.at c.requires.live (subst (λ t. IsPut at at' t None) thrower c.clear.ensures.place);
      first = subst (λ us. AreFirsts us first) same c.advance.ensures.firsts;
      last = lasts_over ts _ c.args.place o last c.requires.sound.last;
      links = links_over ts _ c.args.place o c.requires.sound.links;
    })

pub returns-clause-list : goal.returns-clause-list
returns-clause-list c =
    let ts = c.args.self.now.list.items in
    let at = get nat_eq c.args.self.now.throwers in
    let lt = live_within ts c.args.place c.requires.live in
    let same = over_is ts c.args.place c.index_mut.result.now c.replace.new.dest (get_or_read ts c.args.place c.index_mut.result.now lt c.index_mut.ensures.value no_throw) c.replace.ensures.after in
    let thrower = ap (λ x. x.thrower) (get_or_read ts c.args.place c.index.result.now lt c.index.ensures no_throw) in
    ap flying same ∙ flying_over ts c.index.result.now.thrower c.args.place c.requires.live (sym thrower) (only_at ts at c.index.result.now.thrower c.args.place c.requires.sound.at (ap at thrower ∙ c.requires.sound.at.thrower c.args.place c.requires.live))

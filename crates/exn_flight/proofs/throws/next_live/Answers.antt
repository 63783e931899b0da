use Rattle.std.proofs.Common.{sym, ap, subst}
use Rattle.std.proofs.lemmas.List.{get_or_read}
use Rattle.exn_flight.specs.Throwing.{no_throw, HasSearched}
use Rattle.exn_flight.proofs.Over.{searched_first}
use Rattle.exn_flight.proofs.throws.next_live.Goals as goal

pub loop-at-init : goal.loop-at-init
loop-at-init c =
    let ts = c.args.list.now.items in
    let next = ap (λ x. x.next) (get_or_read ts c.args.place c.index.result.now c.requires.within c.index.ensures no_throw) in
    subst (HasSearched ts c.args.place) (sym next) (searched_first ts c.args.place c.requires.linked c.requires.within)

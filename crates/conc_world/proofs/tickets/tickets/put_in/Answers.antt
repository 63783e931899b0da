-- A ticket that isn't among some is put behind them.
use Rattle.std.proofs.Common.{nat_eq, sym, subst}
use Rattle.std.proofs.lemmas.Cmp.{nat_eq_equiv}
use Rattle.std.proofs.lemmas.Map.Keys.{IsDistinct-push}
use Rattle.std.specs.List.{IsDistinct}
use Rattle.conc_world.proofs.tickets_lemmas.Marks.{not_there}
use Rattle.conc_world.proofs.tickets.tickets.put_in.Goals as goal

pub push_reserved-requires : goal.push_reserved-requires
push_reserved-requires c = c.requires (not_there c.args.ticket c.args.tickets.now.items c.deref.result.now c.contains.result c.deref.ensures.value c.contains.ensures.value c.if-not-contains.true)

pub returns-then-not-contains-clause-once : goal.returns-then-not-contains-clause-once
returns-then-not-contains-clause-once c = λ once.
    let new = not_there c.args.ticket c.args.tickets.now.items c.deref.result.now c.contains.result c.deref.ensures.value c.contains.ensures.value c.if-not-contains.true in
    subst (IsDistinct nat_eq) (sym c.push_reserved.ensures.items) (IsDistinct-push nat_eq_equiv c.args.tickets.now.items c.args.ticket once new)

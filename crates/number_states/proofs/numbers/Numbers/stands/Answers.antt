use Rattle.std.proofs.Common.{◌<◌, length, slice_get, sym, ap, ◌∙◌, subst}
use Rattle.number_states.specs.Stocks.{Stock}
use Rattle.number_states.proofs.Stacked.{stands_there}
use Rattle.number_states.proofs.numbers.Numbers.stands.Goals as goal

-- src/terms.rt
pub returns : goal.returns
returns c =
    let one = c.in-Some.field-0.now in
    let known = c.in-Some.ensures {u = tt} in
    stands_there c.args.self.now c.args.term one (ap (λ (g : Stock). slice_get g.terms.terms c.args.term) (sym c.self.view_is) ∙ sym known.is)
    (subst (λ (g : Stock). one.stack < length g.terms.stacks) c.self.view_is known.stack)

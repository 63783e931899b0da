use Rattle.std.proofs.Common.{◌≡◌, Some, length, slice_get, sym, ap, ◌∙◌}
use Rattle.slot_laws.specs.SlotRules.{SlotTerm}
use Rattle.number_states.specs.Stocks.{Stock}
use Rattle.number_states.proofs.Stacked.{stack_at, long}
use Rattle.number_states.proofs.numbers.Numbers.depth.Goals as goal

-- src/terms.rt
pub returns : goal.returns
returns c = λ b.
    let now = c.args.self.now in
    let one = c.in-Some.one.now in
    let e : slice_get now.terms.terms c.args.term ≡ Some one = ap (λ (g : Stock). slice_get g.terms.terms c.args.term) (sym c.self.view_is) ∙ sym (c.in-Some.ensures {u = tt}).is in
    let k = stack_at now b c.args.term one e c.requires in
    let there = ap (λ (g : Stock). slice_get g.terms.stacks one.stack) c.self.view_is ∙ k.1 in
    c.depth.ensures k.0 there ∙ sym (long b k.0) ∙ ap (λ (st : SlotTerm). length st.frames) k.2

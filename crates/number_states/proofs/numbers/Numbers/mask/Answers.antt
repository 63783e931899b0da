use Rattle.std.proofs.Common.{◌≡◌, Some, slice_get, sym, ap, ◌∙◌}
use Rattle.hs_base.specs.declared.mask.Mask.TheVariants.{Unmasked}
use Rattle.slot_laws.specs.SlotRules.{SlotTerm, mask_from}
use Rattle.local_steps.proofs.Codes.{masks_inside}
use Rattle.number_states.specs.Stocks.{Stock}
use Rattle.number_states.proofs.Stacked.{stack_at}
use Rattle.number_states.proofs.numbers.Numbers.mask.Goals as goal

-- src/terms.rt
pub returns : goal.returns
returns c = λ b.
    let now = c.args.self.now in
    let one = c.in-Some.one.now in
    let e : slice_get now.terms.terms c.args.term ≡ Some one = ap (λ (g : Stock). slice_get g.terms.terms c.args.term) (sym c.self.view_is) ∙ sym (c.in-Some.ensures {u = tt}).is in
    let k = stack_at now b c.args.term one e c.requires in
    let there = ap (λ (g : Stock). slice_get g.terms.stacks one.stack) c.self.view_is ∙ k.1 in
    c.mask.ensures k.0 there ∙ masks_inside b Unmasked k.0 ∙ ap (λ (st : SlotTerm). mask_from Unmasked st.frames) k.2

use Rattle.std.proofs.Common.{◌≡◌, None, MatchOption, map, ap, ◌∙◌, subst}
use Rattle.hs_base.specs.declared.mask.Mask.TheVariants.{Unmasked}
use Rattle.slot_laws.specs.SlotRules.{local}
use Rattle.local_steps.specs.Machine.{funs_of}
use Rattle.term_graph.specs.tables.Numbered.{term_in}
use Rattle.term_graph.specs.Steps.{Steps}
use Rattle.number_states.specs.declared.held.HeldValue.{HeldValue}
use Rattle.number_states.specs.declared.held.HeldExn.{HeldExn}
use Rattle.number_states.specs.declared.held.HeldText.{HeldText}
use Rattle.number_states.specs.Stocks.{Stock, stock, term_at}
use Rattle.number_states.proofs.Stacked.{term_there, stepped}
use Rattle.number_states.proofs.numbers.Numbers.step.Goals as goal

-- src/terms.rt
pub returns-in-Some-clause-is : goal.returns-in-Some-clause-is
returns-in-Some-clause-is c =
    let now = c.args.self.now in
    let b = c.args.body.now in
    let st = term_at now b c.args.term in
    let old = ap (λ (g : Stock). term_in g.terms b c.args.term) c.self.view_is ∙ term_there now b c.args.term c.requires in
    let new = stock c.step.new.terms (map (λ (h : HeldValue). h.value) c.self.inside.values) (map (λ (h : HeldExn). h.exn) c.self.inside.exceptions) (map (λ (h : HeldText). h.text) c.self.inside.texts) in
    stepped new b st c.in-Some.step
    (subst (λ o. MatchOption o (local (funs_of b) Unmasked st.part st.frames ≡ None) (Steps c.step.new.terms b st)) c.in-Some.is (c.in_ok-step.ensures.is st old))

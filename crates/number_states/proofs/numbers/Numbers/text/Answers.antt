use Rattle.std.proofs.Common.{map, subst}
use Rattle.std.proofs.lemmas.Result.{IfOk-weaker}
use Rattle.number_states.specs.declared.held.HeldValue.{HeldValue}
use Rattle.number_states.specs.declared.held.HeldExn.{HeldExn}
use Rattle.number_states.specs.declared.held.HeldText.{HeldText}
use Rattle.number_states.specs.Stocks.{Stock, stock, HasGrown}
use Rattle.number_states.proofs.Growth.{mapped_on}
use Rattle.number_states.proofs.Stocking.{text_number, grown_texts}
use Rattle.number_states.proofs.numbers.Numbers.text.Goals as goal

-- src/numbers.rt
pub returns-clause-is : goal.returns-clause-is
returns-clause-is c = IfOk-weaker c.number.result _ _ (λ n is. text_number c.number.new.self n c.args.text is) c.number.ensures.is

pub returns-clause-grows : goal.returns-clause-grows
returns-clause-grows c =
    subst (λ (g : Stock). HasGrown g (stock c.self.inside.terms (map (λ (h : HeldValue). h.value) c.self.inside.values) (map (λ (h : HeldExn). h.exn) c.self.inside.exceptions) (map (λ (h : HeldText). h.text) c.number.new.self))) c.self.view_is
    (grown_texts c.self.inside.terms (map (λ (h : HeldValue). h.value) c.self.inside.values) (map (λ (h : HeldExn). h.exn) c.self.inside.exceptions) (map (λ (h : HeldText). h.text) c.self.inside.texts) (map (λ (h : HeldText). h.text) c.number.new.self) (mapped_on (λ (h : HeldText). h.text) c.self.inside.texts c.number.new.self c.number.ensures.grows))

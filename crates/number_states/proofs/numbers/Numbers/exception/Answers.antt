use Rattle.std.proofs.Common.{map, subst}
use Rattle.std.proofs.lemmas.Result.{IfOk-weaker}
use Rattle.number_states.specs.declared.held.HeldValue.{HeldValue}
use Rattle.number_states.specs.declared.held.HeldExn.{HeldExn}
use Rattle.number_states.specs.declared.held.HeldText.{HeldText}
use Rattle.number_states.specs.Stocks.{Stock, stock, HasGrown}
use Rattle.number_states.proofs.Growth.{mapped_on}
use Rattle.number_states.proofs.Stocking.{exception_number, grown_exceptions}
use Rattle.number_states.proofs.numbers.Numbers.exception.Goals as goal

-- src/numbers.rt
pub returns-clause-is : goal.returns-clause-is
returns-clause-is c = IfOk-weaker c.number.result _ _ (λ n is. exception_number c.number.new.self n c.args.exn is) c.number.ensures.is

pub returns-clause-grows : goal.returns-clause-grows
returns-clause-grows c =
    subst (λ (g : Stock). HasGrown g (stock c.self.inside.terms (map (λ (h : HeldValue). h.value) c.self.inside.values) (map (λ (h : HeldExn). h.exn) c.number.new.self) (map (λ (h : HeldText). h.text) c.self.inside.texts))) c.self.view_is
    (grown_exceptions c.self.inside.terms (map (λ (h : HeldValue). h.value) c.self.inside.values) (map (λ (h : HeldExn). h.exn) c.self.inside.exceptions) (map (λ (h : HeldExn). h.exn) c.number.new.self) (map (λ (h : HeldText). h.text) c.self.inside.texts) (mapped_on (λ (h : HeldExn). h.exn) c.self.inside.exceptions c.number.new.self c.number.ensures.grows))

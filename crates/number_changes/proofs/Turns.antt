-- The same change for each item of a list, in order.
use Rattle.std.proofs.Common.{◌≡◌, List, [], ◌∷◌, refl, sym, ap, ◌∙◌}
use Rattle.rules_code.specs.declared.code.CodeBody.{CodeBody}
use Rattle.slot_states.specs.SlotStates.{SlotState}
use Rattle.number_states.specs.declared.state.NumberState.{NumberState}
use Rattle.number_states.specs.Stocks.{Stock, HasGrown}
use Rattle.number_states.specs.States.{slots, AreIn, Becomes}
use Rattle.number_states.proofs.Growth.{stock_same, stock_on}

-- what the items that are left make of the state y is what all make of the state x
pub record AreLeft {A : Type 0} (f : List A → CodeBody → SlotState → SlotState) (all rest : List A) (g : Stock) (x : NumberState) (h : Stock) (y : NumberState) : Type 0 where
  pub is : (b : CodeBody) → f rest b (slots h b y) ≡ f all b (slots g b x)
  pub there : AreIn h y
  pub output : y.output ≡ x.output
  pub errors : y.errors ≡ x.errors
  pub grown : HasGrown g h

module _ {A : Type 0} (f : List A → CodeBody → SlotState → SlotState) (all : List A) (g : Stock) (x : NumberState) where
  pub all_left : AreIn g x → AreLeft f all all g x g x
  all_left t = record { is = λ b. refl; there = t; output = refl; errors = refl; grown = stock_same g }

  pub one_less : (one : CodeBody → SlotState → SlotState) (rest less : List A) (t : A) (h i : Stock) (y z : NumberState) → rest ≡ t ∷ less → ((b : CodeBody) (s : SlotState) → f (t ∷ less) b s ≡ f less b (one b s))
      → AreLeft f all rest g x h y → Becomes one h y i z → HasGrown h i → AreLeft f all less g x i z
  one_less one rest less t h i y z e k p q grown = record {
    is = λ b. ap (f less b) (q.is b) ∙ sym (k b (slots h b y)) ∙ ap (λ us. f us b (slots h b y)) (sym e) ∙ p.is b;
    there = q.there;
    output = q.output ∙ p.output;
    errors = q.errors ∙ p.errors;
    grown = stock_on g h i p.grown grown;
  }

  pub none_left : (rest : List A) (h : Stock) (y : NumberState) → rest ≡ [] → ((b : CodeBody) (s : SlotState) → f [] b s ≡ s) → AreLeft f all rest g x h y → Becomes (f all) g x h y
  none_left rest h y e k p = record {
    is = λ b. sym (k b (slots h b y)) ∙ ap (λ us. f us b (slots h b y)) (sym e) ∙ p.is b;
    there = p.there;
    output = p.output;
    errors = p.errors;
  }

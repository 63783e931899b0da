-- Local rules in turn.
use Rattle.std.proofs.Common.{◌≡◌, ℕ, zero, suc, ◌-◌, ◌<◌, true, false, cond, List, Some, None, refl, ap, ◌∙◌, arith}
use Rattle.hs_base.specs.declared.mask.Mask.TheVariants.{Unmasked}
use Rattle.rules_code.specs.CodeTrees.{SlottedFunction}
use Rattle.slot_laws.specs.SlotRules.{SlotTerm, local, locals, on_term}
use Rattle.slot_states.specs.SlotStates.{SlotThread, SlotState, moves}
use Rattle.slot_states.specs.entering.Entering.{local_entry, moved}

module _ (funs : List SlottedFunction) where
  pub steps_on : (n : ℕ) (t u : SlotTerm) → 0 < n → local funs Unmasked t.part t.frames ≡ Some u → locals funs Unmasked n t ≡ locals funs Unmasked (n - 1) u
  steps_on zero t u small e = absurd (omega arith)
  steps_on (suc n) t u small e =
      let less : n ≡ suc n - 1 = omega arith in
      ap (λ o. on_term o (λ v. locals funs Unmasked n v)) e ∙ ap (λ k. locals funs Unmasked k u) less

  pub steps_stop : (n : ℕ) (t : SlotTerm) → 0 < n → local funs Unmasked t.part t.frames ≡ None → locals funs Unmasked n t ≡ None
  steps_stop zero t small e = absurd (omega arith)
  steps_stop (suc n) t small e = ap (λ o. on_term o (λ v. locals funs Unmasked n v)) e

  pub local_blocked : (t k : ℕ) (th : SlotThread) (x : SlotState) → th.blocked ≡ true → local_entry funs t k th x ≡ None
  local_blocked t zero th x e = refl
  local_blocked t (suc k) th x e = ap (λ z. cond z None (moved t (locals funs Unmasked (suc k) th.term) x)) e

  pub local_none : (t k : ℕ) (th : SlotThread) (x : SlotState) → k ≡ 0 → local_entry funs t k th x ≡ None
  local_none t zero th x e = refl
  local_none t (suc k) th x e = absurd (omega arith)

  pub local_stuck : (t k : ℕ) (th : SlotThread) (x : SlotState) → th.blocked ≡ false → locals funs Unmasked k th.term ≡ None → local_entry funs t k th x ≡ None
  local_stuck t zero th x free e = refl
  local_stuck t (suc k) th x free e = ap (λ z. cond z None (moved t (locals funs Unmasked (suc k) th.term) x)) free ∙ ap (λ o. moved t o x) e

  pub local_moves : (t k : ℕ) (th : SlotThread) (st : SlotTerm) (x : SlotState) → (k ≡ 0 → ⊥) → th.blocked ≡ false → locals funs Unmasked k th.term ≡ Some st → local_entry funs t k th x ≡ Some (moves t st x)
  local_moves t zero th st x some free e = absurd (some refl)
  local_moves t (suc k) th st x some free e = ap (λ z. cond z None (moved t (locals funs Unmasked (suc k) th.term) x)) free ∙ ap (λ o. moved t o x) e

-- Entries that were tried: where none of the candidates has a next state, no entry but a Tick has.
use Rattle.std.proofs.Common.{◌≡◌, ◌≤◌, ◌<◌, ◌+◌, ℕ, zero, suc, Bool, true, false, MatchBool, List, [], ◌∷◌, Option, Some, None, MatchOption, length, slice_get, refl, sym, ◌∙◌, subst, arith, below_more}
use Rattle.std.specs.Option.{is_some}
use Rattle.std.specs.List.{Contains}
use Rattle.std.proofs.lemmas.Option.{same_Some}
use Rattle.hs_rules.specs.declared.entry.Entry.{Entry}
use Rattle.hs_rules.specs.declared.entry.Entry.TheVariants as entry
use Rattle.hs_rules.specs.Endings.{IsTick}
use Rattle.rules_code.specs.CodeTrees.{SlottedFunction}
use Rattle.outcome_laws.specs.timing.WithoutTime.{without_ticks}
use Rattle.slot_states.specs.SlotStates.{SlotState}
use Rattle.slot_states.specs.entering.Entering.{next}
use Rattle.number_states.proofs.Changes.{got_read}
use Rattle.search_laws.specs.Going.{IsStill}
use Rattle.search_laws.specs.Found.{candidates}
use Rattle.search_laws.proofs.Candidates.{all_still}

module _ (funs : List SlottedFunction) (x : SlotState) (es : List Entry) where
  -- none of the entries below a place has a next state
  abbrev pub NoneBelow : ℕ → Type 0
  NoneBelow n = (k : ℕ) → k < n → (e : Entry) → slice_get es k ≡ Some e → next funs x e ≡ None

  pub none_yet : NoneBelow 0
  none_yet k below = absurd (omega (arith, below))

  pub none_more : (n : ℕ) (e : Entry) → NoneBelow n → slice_get es n ≡ Some e → next funs x e ≡ None → NoneBelow (n + 1)
  none_more n e before is none =
      below_more (λ k. (q : Entry) → slice_get es k ≡ Some q → next funs x q ≡ None) n before (λ q at. subst (λ z. next funs x z ≡ None) (same_Some e q (sym is ∙ at)) none)

  pub none_of_all : (n : ℕ) → es ≡ candidates x → length es ≤ n → NoneBelow n → IsStill funs x
  none_of_all n all whole none =
      all_still funs x (λ e within.
      let w : Contains es e = subst (λ zs. Contains zs e) (sym all) within in
      let low : w.0 < length es = w.1 in
      none w.0 (omega arith) e (got_read es w.0 e low (sym w.2)))

-- where there is no value
pub when_none : {T : Type 0} (o : Option T) (P : Type 0) (Q : T → Type 0) → false ≡ is_some o → MatchOption o P Q → P
when_none None P Q e h = h
when_none (Some x) P Q e h = absurd (cc e)

pub when_false : (yes : Bool) (P Q : Type 0) → yes ≡ false → MatchBool yes P Q → Q
when_false false P Q e h = h
when_false true P Q e h = absurd (cc e)

-- ---- entries other than Ticks

pub not_tick : (e : Entry) → ((t : ℕ) → e ≡ entry.Tick t → ⊥) → ¬ IsTick e
not_tick (entry.Tick t) h k = h t refl
not_tick (entry.Local t n) h k = k
not_tick (entry.Op t) h k = k
not_tick (entry.Receive t) h k = k
not_tick (entry.Wake t) h k = k
not_tick (entry.Finish t) h k = k
not_tick entry.Stranded h k = k

-- an entry that isn't a Tick is one of those other than Ticks
pub works_there : (es : List Entry) (k : ℕ) (e : Entry) → slice_get es k ≡ Some e → ¬ IsTick e → 0 < length (without_ticks es)
works_there [] k e at plain = absurd (cc at)
works_there (entry.Tick t ∷ es) zero e at plain = absurd (plain (subst IsTick (same_Some (entry.Tick t) e at) tt))
works_there (entry.Tick t ∷ es) (suc k) e at plain = works_there es k e at plain
works_there (entry.Local t n ∷ es) k e at plain = omega arith
works_there (entry.Op t ∷ es) k e at plain = omega arith
works_there (entry.Receive t ∷ es) k e at plain = omega arith
works_there (entry.Wake t ∷ es) k e at plain = omega arith
works_there (entry.Finish t ∷ es) k e at plain = omega arith
works_there (entry.Stranded ∷ es) k e at plain = omega arith

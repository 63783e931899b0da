-- The last entry of a history, as it is read by its place.
use Rattle.std.proofs.Common.{◌≡◌, ℕ, zero, suc, ◌+◌, List, [], ◌∷◌, ◌++◌, length, length-append, slice_get, Bool, true, Some, refl, sym, ap, ◌∙◌, subst, arith}
use Rattle.plain_laws.proofs.Lists.{get_last}
use Rattle.hs_rules.specs.declared.entry.Entry.{Entry}
use Rattle.hs_rules.specs.declared.entry.Entry.TheVariants as entry
use Rattle.hs_rules.specs.Endings.{IsTick}
use Rattle.hs_laws.specs.ClockLaw.{EndsInTick}

last_is : {A : Type 0} (xs : List A) (n : ℕ) (x : A) → n + 1 ≡ length xs → slice_get xs n ≡ Some x → (front : List A) × (xs ≡ front ++ x ∷ [])
last_is [] n x e is = absurd (cc is)
last_is (y ∷ []) zero x e is = ([], ap (λ z. z ∷ []) (cc is))
last_is (y ∷ z ∷ ys) zero x e is = absurd (omega arith)
last_is (y ∷ ys) (suc n) x e is = let k = last_is ys n x (omega arith) is in (y ∷ k.0, ap (λ zs. y ∷ zs) k.1)

tick_of : (e : Entry) → IsTick e → (at : ℕ) × (e ≡ entry.Tick at)
tick_of (entry.Tick at) h = (at, refl)
tick_of (entry.Local t k) h = absurd h
tick_of (entry.Op t) h = absurd h
tick_of (entry.Receive t) h = absurd h
tick_of (entry.Wake t) h = absurd h
tick_of (entry.Finish t) h = absurd h
tick_of entry.Stranded h = absurd h

module _ (es : List Entry) (n : ℕ) (last : n + 1 ≡ length es) where
  -- where a Tick is read at the last place the history ends in it
  tick_ends : (e : Entry) → slice_get es n ≡ Some e → IsTick e → EndsInTick es
  tick_ends e is h =
      let tick = tick_of e h in
      let k = last_is es n (entry.Tick tick.0) last (is ∙ ap Some tick.1) in
      (k.0, tick.0, k.1)

  -- and a history that ends in one has it there
  ends_tick : (e : Entry) → slice_get es n ≡ Some e → EndsInTick es → IsTick e
  ends_tick e is h =
      let x : Entry = entry.Tick h.1 in
      let long : n ≡ length h.0 = omega (arith, last, ap length h.2, length-append h.0 (x ∷ [])) in
      let there : slice_get es n ≡ Some x = ap (λ zs. slice_get zs n) h.2 ∙ (ap (slice_get (h.0 ++ x ∷ [])) long ∙ get_last h.0 x) in
      let same : x ≡ e = let z : Some x ≡ Some e = sym there ∙ is in cc z in
      subst IsTick same tt

  -- what the last entry is tells how the history ends
  pub ends_by : (e : Entry) → slice_get es n ≡ Some e → (b : Bool) → (b ≡ true → IsTick e) × (IsTick e → b ≡ true) → (b ≡ true → EndsInTick es) × (EndsInTick es → b ≡ true)
  ends_by e is b h = (λ q. tick_ends e is (h.0 q), λ k. h.1 (ends_tick e is k))

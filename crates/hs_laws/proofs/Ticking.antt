-- The clock: the time stays but for Ticks, and its law goes on one entry after another.
use Rattle.std.proofs.Common.{◌≡◌, ◌≢◌, ℕ, suc, ◌≤◌, List, [], ◌∷◌, ◌++◌, length, Some, refl, sym, ap, ◌∙◌, subst, arith, ◌⊎◌, inl, inr, ⊎_elim, append_assoc, length-append}
use Rattle.std.proofs.lemmas.Option.{same_Some}
use Rattle.std.proofs.lemmas.List.Elements.{Contains-append_left, Contains-append_right}
use Rattle.hs_rules.specs.declared.entry.Entry.{Entry}
use Rattle.hs_rules.specs.declared.entry.Entry.TheVariants as entry
use Rattle.rules_expansion.specs.trees.Programs.{Fn}
use Rattle.rules_meaning.specs.CoreMeaning.{Code, code_of}
use Rattle.hs_base.specs.declared.exn.Exn.TheVariants.{BlockedIndefinitely}
use Rattle.hs_rules.specs.Terms.{Ret, Throw}
use Rattle.hs_rules.specs.Entries.{stranded, next}
use Rattle.hs_rules.specs.State.{State}
use Rattle.hs_rules.specs.Endings.{IsTick}
use Rattle.hs_rules.specs.Runs.{after}
use Rattle.hs_laws.specs.ClockLaw.{TickStands, IsPunctual, ClockKept}
use Rattle.hs_laws.proofs.Lists.{those}
use Rattle.hs_laws.proofs.Changes as change
use Rattle.hs_laws.proofs.Changes.{Changes, all_kept, changes}

-- ---- no entry but a Tick changes the time

changed_stays : {code : Code} {s u : State} {e : Entry} → ¬ IsTick e → Changes code s e u → u.clock ≡ s.clock
changed_stays other (change.ticks h) = absurd (other tt)
changed_stays {s} other change.strands = all_kept (λ u. u.clock ≡ s.clock) (Throw BlockedIndefinitely) (λ t u h. h) (stranded s) s refl
changed_stays other (change.holds c o u k) = changed_stays other k
changed_stays other (change.serves w v u r a k) = changed_stays other k
changed_stays {s} other (change.all p v u k) = all_kept (λ x. x.clock ≡ s.clock) (Ret v) (λ t x h. h) (those p u.blocked) u (changed_stays other k)
changed_stays other _ = refl

pub entry_stays : (code : Code) (s u : State) (e : Entry) → ¬ IsTick e → next code s e ≡ Some u → u.clock ≡ s.clock
entry_stays code s u e other n = changed_stays other (changes code s e u n)

-- ---- where an entry stands in a history with one more entry

not_none : {A : Type 0} (xs ys : List A) (x : A) → [] ≢ xs ++ x ∷ ys
not_none [] ys x e = cc e
not_none (z ∷ xs) ys x e = cc e

abbrev Last : {A : Type 0} → List A → A → List A → A → List A → Type 0
Last {A} es e front x back = ((back ≡ []) × (front ≡ es) × (x ≡ e)) ⊎ ((rest : List A) × (back ≡ rest ++ e ∷ []) × (es ≡ front ++ x ∷ rest))

pub last_or : {A : Type 0} (es : List A) (e : A) (front : List A) (x : A) (back : List A) → es ++ e ∷ [] ≡ front ++ x ∷ back → Last es e front x back
last_or [] e [] x back h = let a : e ≡ x = cc h in let b : [] ≡ back = cc h in inl (sym b, refl, sym a)
last_or [] e (y ∷ front) x back h = let b : [] ≡ front ++ x ∷ back = cc h in absurd (not_none front back x b)
last_or (z ∷ es) e [] x back h = let a : z ≡ x = cc h in let b : es ++ e ∷ [] ≡ back = cc h in inr (es, sym b, ap (λ w. w ∷ es) a)
last_or (z ∷ es) e (y ∷ front) x back h =
    let a : z ≡ y = cc h in
    let b : es ++ e ∷ [] ≡ front ++ x ∷ back = cc h in
    ⊎_elim
    (λ k. inl (k.0, ap (λ w. w ∷ front) (sym a) ∙ ap (λ ws. z ∷ ws) k.1, k.2))
    (λ k. inr (k.0, k.1, ap (λ w. w ∷ es) a ∙ ap (λ ws. y ∷ ws) k.2))
    (last_or es e front x back b)

-- ---- the law

pub clock_begins : (ds : List Fn) → ClockKept ds [] 0
clock_begins ds = record {
  places = [];
  few = omega arith;
  stands = λ front back at s e a. absurd (not_none front back (entry.Tick at) e);
  punctual = λ front back at s e a. absurd (not_none front back (entry.Tick at) e);
}

pub clock_more : (ds : List Fn) (es : List Entry) (n k : ℕ) → n ≤ k → ClockKept ds es n → ClockKept ds es k
clock_more ds es n k le h = record { places = h.places; few = omega (arith, h.few); stands = h.stands; punctual = h.punctual }

pub clock_before : (ds : List Fn) (es more : List Entry) (n : ℕ) → ClockKept ds (es ++ more) n → ClockKept ds es n
clock_before ds es more n h = record {
  places = h.places;
  few = h.few;
  stands = λ front back at s e a. h.stands front (back ++ more) at s (longer front back at e) a;
  punctual = λ front back at s e a. h.punctual front (back ++ more) at s (longer front back at e) a;
}
  where
    longer : (front back : List Entry) (at : ℕ) → es ≡ front ++ entry.Tick at ∷ back → es ++ more ≡ front ++ entry.Tick at ∷ (back ++ more)
    longer front back at e = ap (λ z. z ++ more) e ∙ append_assoc front (entry.Tick at ∷ back) more

-- an entry that isn't a Tick
pub clock_works : (ds : List Fn) (es : List Entry) (e : Entry) (n : ℕ) → ¬ IsTick e → ClockKept ds es n → ClockKept ds (es ++ e ∷ []) n
clock_works ds es e n other h = record {
  places = h.places;
  few = h.few;
  stands = λ front back at s split a. ⊎_elim (λ k. absurd (other (subst IsTick k.2 tt))) (λ k. h.stands front k.0 at s k.2 a) (last_or es e front (entry.Tick at) back split);
  punctual = λ front back at s split a. ⊎_elim (λ k. absurd (other (subst IsTick k.2 tt))) (λ k. h.punctual front k.0 at s k.2 a) (last_or es e front (entry.Tick at) back split);
}

-- two ticks to one time
tick_at : (a b : ℕ) → entry.Tick a ≡ entry.Tick b → a ≡ b
tick_at a b e = cc e

module _ (ds : List Fn) (es : List Entry) (at n : ℕ) (s : State) (is : after ds es ≡ Some s) (h : ClockKept ds es n) (t : TickStands (code_of ds) es s at) where
  stands_more : (front back : List Entry) (b : ℕ) (u : State) → es ++ entry.Tick at ∷ [] ≡ front ++ entry.Tick b ∷ back → after ds front ≡ Some u → TickStands (code_of ds) front u b
  stands_more front back b u split a =
      ⊎_elim
      (λ k.
      let same : s ≡ u = same_Some s u (sym is ∙ (ap (after ds) (sym k.1) ∙ a)) in
      let time : at ≡ b = sym (tick_at b at k.2) in
      subst (λ z. TickStands (code_of ds) z u b) (sym k.1) (subst (λ x. TickStands (code_of ds) es x b) same (subst (TickStands (code_of ds) es s) time t)))
      (λ k. h.stands front k.0 b u k.2 a)
      (last_or es (entry.Tick at) front (entry.Tick b) back split)

  pub clock_ticks : IsPunctual (code_of ds) s at → ClockKept ds (es ++ entry.Tick at ∷ []) n
  clock_ticks p = record {
    places = h.places;
    few = h.few;
    stands = stands_more;
    punctual = λ front back b u split a. ⊎_elim
        (λ k.
        let same : s ≡ u = same_Some s u (sym is ∙ (ap (after ds) (sym k.1) ∙ a)) in
        let time : at ≡ b = sym (tick_at b at k.2) in
        inl (subst (λ x. IsPunctual (code_of ds) x b) same (subst (IsPunctual (code_of ds) s) time p)))
        (λ k. h.punctual front k.0 b u k.2 a)
        (last_or es (entry.Tick at) front (entry.Tick b) back split);
  }

  pub clock_ticks_early : ClockKept ds (es ++ entry.Tick at ∷ []) (suc n)
  clock_ticks_early = record {
    places = h.places ++ length es ∷ [];
    few = omega (arith, h.few, length-append h.places (length es ∷ []));
    stands = stands_more;
    punctual = λ front back b u split a. ⊎_elim
        (λ k. inr (Contains-append_right h.places (length es ∷ []) (length front) (0, omega arith, ap length (sym k.1))))
        (λ k. ⊎_elim (λ p. inl p) (λ c. inr (Contains-append_left h.places (length es ∷ []) (length front) c)) (h.punctual front k.0 b u k.2 a))
        (last_or es (entry.Tick at) front (entry.Tick b) back split);
  }

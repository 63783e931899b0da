-- The tickets that a hand has taken.
use Rattle.std.proofs.Common.{◌≡◌, ◌≢◌, ◌⊎◌, ◌↔◌, ℕ, zero, suc, ◌+◌, ◌<◌, ◌≤◌, List, [], ◌∷◌, ◌++◌, length, set, slice_get, Option, Some, None, IsNone, MatchOption, refl, ap, sym, ◌∙◌, subst, inl, inr, ⊎_elim, arith, append-nil, Bool, true, false, ◌==◌}
use Rattle.std.proofs.lemmas.Bool.Decides.{nat_tests}
use Rattle.rules_code.specs.declared.code.CodeBody.{CodeBody}
use Rattle.conc_hands.specs.declared.queues.view.QueueView.{QueueView}
use Rattle.conc_hands.specs.declared.queues.deque.DequePass.{DequePass}
use Rattle.conc_hands.specs.queues.QueueRule.{weigh, SameTickets, MetEmpty, view_with}
use Rattle.conc_hands.specs.queues.Deques.{pass_view}
use Rattle.conc_hands.proofs.queues_lemmas.Weights.{weigh_append}
use Rattle.conc_hands.specs.Ends.{stolen_by, share_if, share_at}

share_case : (number k : ℕ) (b : Bool) → (number == k) ≡ b → k ≢ number → share_if b ≡ 1
share_case number k true is ne = absurd (ne (grind (arith, nat_tests, is)))
share_case number k false is ne = refl

-- a pass for another's deque has one share
pub share_other : (number k : ℕ) → k ≢ number → share_at number k ≡ 1
share_other number k ne = share_case number k (number == k) refl ne

module _ {J : Type 0} where
  pub stolen_set : (ps : List (DequePass J)) (i : ℕ) (p q : DequePass J) → slice_get ps i ≡ Some p → (h : ℕ → ℕ) → weigh h (stolen_by (set ps i q)) + weigh h (pass_view p).taken ≡ weigh h (stolen_by ps) + weigh h (pass_view q).taken
  stolen_set [] i p q e h = absurd (cc e)
  stolen_set (x ∷ xs) zero p q e h = let is : x ≡ p = cc e in
      let same : weigh h (pass_view x).taken ≡ weigh h (pass_view p).taken = ap (λ (y : DequePass J). weigh h (pass_view y).taken) is in
      let a = weigh_append h (pass_view x).taken (stolen_by xs) in
      let b = weigh_append h (pass_view q).taken (stolen_by xs) in omega arith
  stolen_set (x ∷ xs) (suc i) p q e h = let r = stolen_set xs i p q e h in
      let a = weigh_append h (pass_view x).taken (stolen_by xs) in
      let b = weigh_append h (pass_view x).taken (stolen_by (set xs i q)) in omega arith

  pub stolen_same : (ps : List (DequePass J)) (i : ℕ) (p q : DequePass J) → slice_get ps i ≡ Some p → (pass_view q).taken ≡ (pass_view p).taken → stolen_by (set ps i q) ≡ stolen_by ps
  stolen_same [] i p q e same = refl
  stolen_same (x ∷ xs) zero p q e same = let is : p ≡ x = cc e in ap (λ (ts : List ℕ). ts ++ stolen_by xs) (same ∙ ap (λ (y : DequePass J). (pass_view y).taken) is)
  stolen_same (x ∷ xs) (suc i) p q e same = ap (λ (ts : List ℕ). (pass_view x).taken ++ ts) (stolen_same xs i p q e same)

  pub stolen_none : (ps : List (DequePass J)) → ((k : ℕ) (p : DequePass J) → slice_get ps k ≡ Some p → (pass_view p).taken ≡ []) → stolen_by ps ≡ []
  stolen_none [] none = refl
  stolen_none (p ∷ ps) none = ap (λ (xs : List ℕ). xs ++ stolen_by ps) (none 0 p refl) ∙ stolen_none ps (λ k q e. none (suc k) q e)

  -- a hand with one pass, which has taken nothing
  pub stolen_alone : (ps : List (DequePass J)) → length ps ≡ 1 → ((p : DequePass J) → slice_get ps 0 ≡ Some p → (pass_view p).taken ≡ []) → stolen_by ps ≡ []
  stolen_alone [] few none = refl
  stolen_alone (p ∷ []) few none = ap (λ (xs : List ℕ). xs ++ []) (none p refl)
  stolen_alone (p ∷ q ∷ ps) few none = absurd (omega arith)

module _ {J : Type 0} (number : J → ℕ) (belongs : J → CodeBody) where
  -- what one take tells, in the words of a queue
  abbrev Told : Option J → QueueView → QueueView → Type 0
  Told o v w = MatchOption o ((w ≡ v) × MetEmpty number belongs v) (λ x. (Some (belongs x) ≡ v.code) × (w ≡ view_with v.code v.shares v.put (v.taken ++ number x ∷ [])))

  pub popped : (o : Option J) (v w : QueueView) (rest : List ℕ) (code : CodeBody) → v.code ≡ Some code → Told o v w
      → MatchOption o (((w.put ≡ v.put) × (w.taken ++ rest ≡ v.taken ++ rest)) × MetEmpty number belongs v)
      (λ x. (belongs x ≡ code) × (w.put ≡ v.put) × SameTickets (w.taken ++ rest) ((v.taken ++ rest) ++ number x ∷ []))
  popped None v w rest code is t = ((ap (λ (u : QueueView). u.put) t.0, ap (λ (u : QueueView). u.taken ++ rest) t.0), t.1)
  popped (Some x) v w rest code is t = (
    cc (t.0 ∙ is),
    ap (λ (u : QueueView). u.put) t.1,
    λ h.
        let n = ap (λ (u : QueueView). weigh h u.taken) t.1 in
        let a = weigh_append h w.taken rest in
        let b = weigh_append h v.taken rest in
        let c = weigh_append h v.taken (number x ∷ []) in
        let d = weigh_append h (v.taken ++ rest) (number x ∷ []) in omega arith,
  )

  -- a take leaves what was put, the shares and the code
  pub same_rights : (o : Option J) (v w : QueueView) → Told o v w → (w.put ≡ v.put) × (w.shares ≡ v.shares) × (w.code ≡ v.code)
  same_rights None v w t = (ap (λ (u : QueueView). u.put) t.0, ap (λ (u : QueueView). u.shares) t.0, ap (λ (u : QueueView). u.code) t.0)
  same_rights (Some x) v w t = (ap (λ (u : QueueView). u.put) t.1, ap (λ (u : QueueView). u.shares) t.1, ap (λ (u : QueueView). u.code) t.1)

  pub stole : (o : Option J) (own : List ℕ) (ps : List (DequePass J)) (i : ℕ) (p q : DequePass J) → slice_get ps i ≡ Some p → (code : Option CodeBody) → (pass_view p).code ≡ code → Told o (pass_view p) (pass_view q)
      → MatchOption o ((own ++ stolen_by (set ps i q) ≡ own ++ stolen_by ps) × ((p' : DequePass J) × (slice_get ps i ≡ Some p') × MetEmpty number belongs (pass_view p')))
      (λ x. (Some (belongs x) ≡ code) × SameTickets (own ++ stolen_by (set ps i q)) ((own ++ stolen_by ps) ++ number x ∷ []))
  stole None own ps i p q at code is t = (ap (λ (ts : List ℕ). own ++ ts) (stolen_same ps i p q at (ap (λ (u : QueueView). u.taken) t.0)), (p, at, t.1))
  stole (Some x) own ps i p q at code is t = (
    t.0 ∙ is,
    λ h.
        let s = stolen_set ps i p q at h in
        let n = ap (λ (u : QueueView). weigh h u.taken) t.1 in
        let c = weigh_append h (pass_view p).taken (number x ∷ []) in
        let a = weigh_append h own (stolen_by (set ps i q)) in
        let b = weigh_append h own (stolen_by ps) in
        let d = weigh_append h (own ++ stolen_by ps) (number x ∷ []) in omega arith,
  )

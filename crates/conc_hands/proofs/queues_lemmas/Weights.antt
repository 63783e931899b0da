-- Sums over the views and over lists of tickets.
use Rattle.std.proofs.Common.{◌≡◌, ◌≢◌, ℕ, zero, suc, ◌+◌, ◌≤◌, List, [], ◌∷◌, ◌++◌, set, refl, ap, sym, arith}
use mathlib.Core.Option.{some, some-injective, some-ne-none}
use lib.ListN.{get_elem?}
use Rattle.conc_hands.specs.declared.queues.view.QueueView.{QueueView}
use Rattle.conc_hands.specs.queues.QueueRule.{total, weigh}

pub weigh_append : (h : ℕ → ℕ) (xs ys : List ℕ) → weigh h (xs ++ ys) ≡ weigh h xs + weigh h ys
weigh_append h [] ys = omega arith
weigh_append h (x ∷ xs) ys = let r = weigh_append h xs ys in omega arith

module _ (f : QueueView → ℕ) where
  pub total_set : (views : List QueueView) (id : ℕ) (v w : QueueView) → get_elem? views id ≡ some v → total f (set views id w) + f v ≡ total f views + f w
  total_set [] id v w at = absurd (some-ne-none v (sym at))
  total_set (u ∷ us) zero v w at = let e : f u ≡ f v = ap f (some-injective u v at) in omega arith
  total_set (u ∷ us) (suc id) v w at = let r = total_set us id v w at in omega arith

  pub total_snoc : (views : List QueueView) (w : QueueView) → total f (views ++ w ∷ []) ≡ total f views + f w
  total_snoc [] w = omega arith
  total_snoc (u ∷ us) w = let r = total_snoc us w in omega arith

  pub total_one : (views : List QueueView) (id : ℕ) (v : QueueView) → get_elem? views id ≡ some v → f v ≤ total f views
  total_one [] id v at = absurd (some-ne-none v (sym at))
  total_one (u ∷ us) zero v at = let e : f u ≡ f v = ap f (some-injective u v at) in omega arith
  total_one (u ∷ us) (suc id) v at = let r = total_one us id v at in omega arith

  pub total_two : (views : List QueueView) (id other : ℕ) (v u : QueueView) → get_elem? views id ≡ some v → get_elem? views other ≡ some u → other ≢ id → f v + f u ≤ total f views
  total_two [] id other v u at at' ne = absurd (some-ne-none v (sym at))
  total_two (x ∷ xs) zero zero v u at at' ne = absurd (ne refl)
  total_two (x ∷ xs) zero (suc other) v u at at' ne = let e : f x ≡ f v = ap f (some-injective x v at) in let r = total_one xs other u at' in omega arith
  total_two (x ∷ xs) (suc id) zero v u at at' ne = let e : f x ≡ f u = ap f (some-injective x u at') in let r = total_one xs id v at in omega arith
  total_two (x ∷ xs) (suc id) (suc other) v u at at' ne = let r = total_two xs id other v u at at' (λ e. ne (ap suc e)) in omega arith

  pub total_zero : (views : List QueueView) → ((j : ℕ) (u : QueueView) → get_elem? views j ≡ some u → f u ≡ 0) → total f views ≡ 0
  total_zero [] rest = refl
  total_zero (u ∷ us) rest = let z = rest zero u refl in let r = total_zero us (λ j w a. rest (suc j) w a) in omega arith

  -- where all but one weigh nothing
  pub total_alone : (views : List QueueView) (id : ℕ) (v : QueueView) → get_elem? views id ≡ some v → ((j : ℕ) (u : QueueView) → get_elem? views j ≡ some u → j ≢ id → f u ≡ 0) → total f views ≡ f v
  total_alone [] id v at rest = absurd (some-ne-none v (sym at))
  total_alone (u ∷ us) zero v at rest = let e : f u ≡ f v = ap f (some-injective u v at) in let z = total_zero us (λ j w a. rest (suc j) w a (λ h. absurd (omega arith))) in omega arith
  total_alone (u ∷ us) (suc id) v at rest = let z = rest zero u refl (λ h. absurd (omega arith)) in let r = total_alone us id v at (λ j w a ne. rest (suc j) w a (λ h. ne (omega arith))) in omega arith

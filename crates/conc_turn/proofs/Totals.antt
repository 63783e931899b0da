-- Sums over the views.
use Rattle.std.proofs.Common.{◌≡◌, ◌≢◌, ℕ, zero, suc, ◌+◌, ◌≤◌, List, [], ◌∷◌, ◌++◌, set, refl, ap, sym, arith}
use mathlib.Core.Option.{some, some-injective, some-ne-none}
use lib.ListN.{get_elem?}
use Rattle.conc_turn.specs.declared.view.View.{View}
use Rattle.conc_turn.specs.TurnRule.{total}

module _ (f : View → ℕ) where
  pub total_set : (views : List View) (id : ℕ) (v w : View) → get_elem? views id ≡ some v → total f (set views id w) + f v ≡ total f views + f w
  total_set [] id v w at = absurd (some-ne-none v (sym at))
  total_set (u ∷ us) zero v w at = let e : f u ≡ f v = ap f (some-injective u v at) in omega arith
  total_set (u ∷ us) (suc id) v w at = let r = total_set us id v w at in omega arith

  pub total_snoc : (views : List View) (w : View) → total f (views ++ w ∷ []) ≡ total f views + f w
  total_snoc [] w = omega arith
  total_snoc (u ∷ us) w = let r = total_snoc us w in omega arith

  pub total_one : (views : List View) (id : ℕ) (v : View) → get_elem? views id ≡ some v → f v ≤ total f views
  total_one [] id v at = absurd (some-ne-none v (sym at))
  total_one (u ∷ us) zero v at = let e : f u ≡ f v = ap f (some-injective u v at) in omega arith
  total_one (u ∷ us) (suc id) v at = let r = total_one us id v at in omega arith

  pub total_two : (views : List View) (id other : ℕ) (v u : View) → get_elem? views id ≡ some v → get_elem? views other ≡ some u → other ≢ id → f v + f u ≤ total f views
  total_two [] id other v u at at' ne = absurd (some-ne-none v (sym at))
  total_two (x ∷ xs) zero zero v u at at' ne = absurd (ne refl)
  total_two (x ∷ xs) zero (suc other) v u at at' ne = let e : f x ≡ f v = ap f (some-injective x v at) in let r = total_one xs other u at' in omega arith
  total_two (x ∷ xs) (suc id) zero v u at at' ne = let e : f x ≡ f u = ap f (some-injective x u at') in let r = total_one xs id v at in omega arith
  total_two (x ∷ xs) (suc id) (suc other) v u at at' ne = let r = total_two xs id other v u at at' (λ e. ne (ap suc e)) in omega arith

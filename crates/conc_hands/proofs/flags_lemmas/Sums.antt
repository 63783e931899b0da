-- Sums over views, and what stands in a list.
use Rattle.std.proofs.Common.{◌≡◌, ◌≢◌, ◌⊎◌, ℕ, zero, suc, ◌+◌, ◌≤◌, List, [], ◌∷◌, ◌++◌, length, set, get_or, replicate, refl, ap, sym, inl, inr, ⊎_elim, arith}
use mathlib.Core.Option.{some, some-injective, some-ne-none}
use lib.ListN.{get_elem?}
use Rattle.conc_hands.specs.declared.flags.view.PenView.{PenView}
use Rattle.conc_hands.specs.flags.FlagsRule.{total, shares_in, Among}

pub total_set : (views : List PenView) (id : ℕ) (v w : PenView) → get_elem? views id ≡ some v → total shares_in (set views id w) + v.shares ≡ total shares_in views + w.shares
total_set [] id v w at = absurd (some-ne-none v (sym at))
total_set (u ∷ us) zero v w at = let e : u.shares ≡ v.shares = ap shares_in (some-injective u v at) in omega arith
total_set (u ∷ us) (suc id) v w at = let r = total_set us id v w at in omega arith

pub total_snoc : (views : List PenView) (w : PenView) → total shares_in (views ++ w ∷ []) ≡ total shares_in views + w.shares
total_snoc [] w = omega arith
total_snoc (u ∷ us) w = let r = total_snoc us w in omega arith

total_one : (views : List PenView) (id : ℕ) (v : PenView) → get_elem? views id ≡ some v → v.shares ≤ total shares_in views
total_one [] id v at = absurd (some-ne-none v (sym at))
total_one (u ∷ us) zero v at = let e : u.shares ≡ v.shares = ap shares_in (some-injective u v at) in omega arith
total_one (u ∷ us) (suc id) v at = let r = total_one us id v at in omega arith

pub total_two : (views : List PenView) (id other : ℕ) (v u : PenView) → get_elem? views id ≡ some v → get_elem? views other ≡ some u → other ≢ id → v.shares + u.shares ≤ total shares_in views
total_two [] id other v u at at' ne = absurd (some-ne-none v (sym at))
total_two (x ∷ xs) zero zero v u at at' ne = absurd (ne refl)
total_two (x ∷ xs) zero (suc other) v u at at' ne = let e : x.shares ≡ v.shares = ap shares_in (some-injective x v at) in let r = total_one xs other u at' in omega arith
total_two (x ∷ xs) (suc id) zero v u at at' ne = let e : x.shares ≡ u.shares = ap shares_in (some-injective x u at') in let r = total_one xs id v at in omega arith
total_two (x ∷ xs) (suc id) (suc other) v u at at' ne = let r = total_two xs id other v u at at' (λ e. ne (ap suc e)) in omega arith

pub set_at : (views : List PenView) (id : ℕ) (v w : PenView) → get_elem? views id ≡ some v → get_elem? (set views id w) id ≡ some w
set_at [] id v w at = absurd (some-ne-none v (sym at))
set_at (x ∷ xs) zero v w at = refl
set_at (x ∷ xs) (suc id) v w at = set_at xs id v w at

pub only_one : (w v : PenView) (id : ℕ) → get_elem? (w ∷ []) id ≡ some v → w ≡ v
only_one w v zero e = some-injective w v e
only_one w v (suc id) e = absurd (some-ne-none v (sym e))

pub at_end : (views : List PenView) (w : PenView) → get_elem? (views ++ w ∷ []) (length views) ≡ some w
at_end [] w = refl
at_end (x ∷ xs) w = at_end xs w

pub zeros : (n w : ℕ) → get_or {A = ℕ} (replicate {A = ℕ} n 0) w 0 ≡ zero
zeros zero w = refl
zeros (suc n) zero = refl
zeros (suc n) (suc w) = zeros n w

module _ {A : Type 0} where
  pub among_more : (t : A) (xs ys : List A) → Among t xs → Among t (xs ++ ys)
  among_more t [] ys m = absurd m
  among_more t (x ∷ xs) ys m = ⊎_elim (λ e. inl e) (λ r. inr (among_more t xs ys r)) m

  pub among_after : (t : A) (xs ys : List A) → Among t ys → Among t (xs ++ ys)
  among_after t [] ys m = m
  among_after t (x ∷ xs) ys m = inr (among_after t xs ys m)

  pub among_either : (t : A) (xs ys : List A) → Among t (xs ++ ys) → Among t xs ⊎ Among t ys
  among_either t [] ys m = inr m
  among_either t (x ∷ xs) ys m = ⊎_elim (λ e. inl (inl e)) (λ r. ⊎_elim (λ y. inl (inr y)) (λ y. inr y) (among_either t xs ys r)) m

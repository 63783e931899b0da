-- What the passes of the inbox and the pens of all hands add up to.
use Rattle.std.proofs.Common.{◌≡◌, ℕ, suc, ◌+◌, ◌<◌, List, [], ◌∷◌, ◌++◌, length, set, take, drop, slice_get, Some, append_assoc, append-nil, refl, ap, sym, ◌∙◌, arith}
use Rattle.conc_hands.specs.declared.hand.Hand.{Hand}
use Rattle.conc_hands.specs.Hands.{inbox_view_of}
use Rattle.conc_hands.specs.Lists.{joined_over}
use Rattle.conc_hands.specs.Gathering.{shares_over}
use Rattle.conc_hands.proofs.Places.{taken_more}

module _ {J S : Type 0} where
  joined_snoc : {A : Type 0} (f : Hand J S → List A) (ys : List (Hand J S)) (x : Hand J S) → joined_over f (ys ++ x ∷ []) ≡ joined_over f ys ++ f x
  joined_snoc f [] x = append-nil (f x)
  joined_snoc f (y ∷ ys) x = ap (λ zs. f y ++ zs) (joined_snoc f ys x) ∙ sym (append_assoc (f y) (joined_over f ys) (f x))

  shares_snoc : (ys : List (Hand J S)) (x : Hand J S) → shares_over (ys ++ x ∷ []) ≡ shares_over ys + (inbox_view_of x).shares
  shares_snoc [] x = omega arith
  shares_snoc (y ∷ ys) x = let r = shares_snoc ys x in omega arith

  pub joined_more : {A : Type 0} (f : Hand J S → List A) (xs : List (Hand J S)) (i : ℕ) (x : Hand J S) → slice_get xs i ≡ Some x → joined_over f (take (i + 1) xs) ≡ joined_over f (take i xs) ++ f x
  joined_more f xs i x e = let one : i + 1 ≡ suc i = omega arith in ap (λ n. joined_over f (take n xs)) one ∙ (ap (joined_over f) (taken_more xs i x e) ∙ joined_snoc f (take i xs) x)

  pub shares_more : (xs : List (Hand J S)) (i : ℕ) (x : Hand J S) → slice_get xs i ≡ Some x → shares_over (take (i + 1) xs) ≡ shares_over (take i xs) + (inbox_view_of x).shares
  shares_more xs i x e = let one : i + 1 ≡ suc i = omega arith in ap (λ n. shares_over (take n xs)) one ∙ (ap shares_over (taken_more xs i x e) ∙ shares_snoc (take i xs) x)

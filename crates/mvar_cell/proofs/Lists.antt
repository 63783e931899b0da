-- Lists that differ at one place.
use Rattle.std.proofs.Common.{◌≡◌, ◌≢◌, ℕ, zero, suc, ◌<◌, List, [], ◌∷◌, length, map, get_or, set, refl, ap, ◌∙◌, arith}
use Rattle.std.proofs.lemmas.List.{map-set}

module _ {A B : Type 0} (f g : A → B) where
  map-agree : (xs : List A) → ((k : ℕ) (d : A) → k < length xs → f (get_or xs k d) ≡ g (get_or xs k d)) → map f xs ≡ map g xs
  map-agree [] h = refl
  map-agree (x ∷ xs) h = ap (λ y. y ∷ map f xs) (h 0 x (omega arith)) ∙ ap (λ ys. g x ∷ ys) (map-agree xs (λ k d lt. h (suc k) d (omega arith)))

  set-map-agree : (xs : List A) (m : ℕ) (y : B) → ((k : ℕ) (d : A) → k < length xs → k ≢ m → f (get_or xs k d) ≡ g (get_or xs k d)) → set (map f xs) m y ≡ set (map g xs) m y
  set-map-agree [] m y h = refl
  set-map-agree (x ∷ xs) zero y h = ap (λ ys. y ∷ ys) (map-agree xs (λ k d lt. h (suc k) d (omega arith) (omega arith)))
  set-map-agree (x ∷ xs) (suc m) y h =
      ap (λ z. z ∷ set (map f xs) m y) (h 0 x (omega arith) (omega arith)) ∙ ap (λ ys. g x ∷ ys) (set-map-agree xs m y (λ k d lt ne. h (suc k) d (omega arith) (omega arith)))

  -- two functions that agree on all items but one, which is replaced
  pub map-set_agree : (xs : List A) (m : ℕ) (x : A) → ((k : ℕ) (d : A) → k < length xs → k ≢ m → f (get_or xs k d) ≡ g (get_or xs k d)) → map f (set xs m x) ≡ set (map g xs) m (f x)
  map-set_agree xs m x h = map-set f xs m x ∙ set-map-agree xs m (f x) h

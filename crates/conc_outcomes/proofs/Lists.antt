-- Lists by place.
use Rattle.std.proofs.Common.{◌≡◌, ◌<◌, ◌+◌, ℕ, zero, suc, List, [], ◌∷◌, ◌++◌, length, map, take, drop, Some, None, slice_get, refl, sym, ap, ◌∙◌, arith, add-one, append_assoc}
use Rattle.std.proofs.lemmas.Option.{same_Some}

take_suc : {A : Type 0} → (xs : List A) (n : ℕ) (x : A) → slice_get xs n ≡ Some x → take (suc n) xs ≡ take n xs ++ x ∷ []
take_suc [] zero x h = absurd (cc h)
take_suc [] (suc n) x h = absurd (cc h)
take_suc (y ∷ xs) zero x h = ap (λ z. z ∷ []) (same_Some y x h)
take_suc (y ∷ xs) (suc n) x h = ap (λ zs. y ∷ zs) (take_suc xs n x h)

-- what has been taken, and the next
pub take_next : {A : Type 0} → (xs : List A) (n : ℕ) (x : A) → slice_get xs n ≡ Some x → take (n + 1) xs ≡ take n xs ++ x ∷ []
take_next xs n x h = rw add-one (take_suc xs n x h)

drop_suc : {A : Type 0} → (xs : List A) (n : ℕ) (x : A) → slice_get xs n ≡ Some x → drop n xs ≡ x ∷ drop (suc n) xs
drop_suc [] zero x h = absurd (cc h)
drop_suc [] (suc n) x h = absurd (cc h)
drop_suc (y ∷ xs) zero x h = ap (λ z. z ∷ xs) (same_Some y x h)
drop_suc (y ∷ xs) (suc n) x h = drop_suc xs n x h

-- the next, and what is left
pub drop_next : {A : Type 0} → (xs : List A) (n : ℕ) (x : A) → slice_get xs n ≡ Some x → drop n xs ≡ x ∷ drop (n + 1) xs
drop_next xs n x h = rw add-one (drop_suc xs n x h)

pub map_next : {A B : Type 0} → (f : A → B) (xs : List A) (x : A) → map f (xs ++ x ∷ []) ≡ map f xs ++ f x ∷ []
map_next f [] x = refl
map_next f (y ∷ xs) x = ap (λ zs. f y ∷ zs) (map_next f xs x)

-- one more has been taken
pub moved : {A : Type 0} → (old new whole xs : List A) (n : ℕ) (x : A) → slice_get xs n ≡ Some x → new ≡ old ++ x ∷ [] → old ++ drop n xs ≡ whole → new ++ drop (n + 1) xs ≡ whole
moved old new whole xs n x at is h = ap (λ ys. ys ++ drop (n + 1) xs) is ∙ append_assoc old (x ∷ []) (drop (n + 1) xs) ∙ ap (λ ys. old ++ ys) (sym (drop_next xs n x at)) ∙ h

pub nothing_there : {A : Type 0} → (xs : List A) (n : ℕ) → n < length xs → slice_get xs n ≡ None → ⊥
nothing_there [] n h e = absurd (omega arith)
nothing_there (x ∷ xs) zero h e = absurd (cc e)
nothing_there (x ∷ xs) (suc n) h e = nothing_there xs n (omega arith) e

-- What stands at a place of a list.
use Rattle.std.proofs.Common.{◌≡◌, ◌≢◌, ◌⊎◌, ℕ, zero, suc, ◌+◌, ◌<◌, ◌≤◌, List, [], ◌∷◌, ◌++◌, length, map, set, remove, take, drop, slice_get, Some, refl, ap, sym, ◌∙◌, inl, inr, ⊎_elim, arith}

module _ {A : Type 0} where
  -- after a write
  pub got_after : (xs : List A) (i k : ℕ) (a b : A) → slice_get (set xs i a) k ≡ Some b → ((k ≡ i) × (a ≡ b)) ⊎ ((k ≢ i) × (slice_get xs k ≡ Some b))
  got_after [] i k a b e = absurd (cc e)
  got_after (x ∷ xs) zero zero a b e = inl (refl, cc e)
  got_after (x ∷ xs) zero (suc k) a b e = inr ((λ z. absurd (omega arith)), e)
  got_after (x ∷ xs) (suc i) zero a b e = inr ((λ z. absurd (omega arith)), e)
  got_after (x ∷ xs) (suc i) (suc k) a b e = ⊎_elim (λ t. inl (ap suc t.0, t.1)) (λ t. inr ((λ z. t.0 (omega arith)), t.1)) (got_after xs i k a b e)

  -- with one more at the end
  pub got_more : (xs : List A) (a b : A) (k : ℕ) → slice_get (xs ++ a ∷ []) k ≡ Some b → ((k ≡ length xs) × (a ≡ b)) ⊎ (slice_get xs k ≡ Some b)
  got_more [] a b zero e = inl (refl, cc e)
  got_more [] a b (suc k) e = inr e
  got_more (x ∷ xs) a b zero e = inr e
  got_more (x ∷ xs) a b (suc k) e = ⊎_elim (λ t. inl (ap suc t.0, t.1)) (λ t. inr t) (got_more xs a b k e)

  -- the end of a longer list is not looked at
  pub got_before : (xs ys : List A) (k : ℕ) (b : A) → slice_get (xs ++ ys) k ≡ Some b → k < length xs → slice_get xs k ≡ Some b
  got_before [] ys k b e small = absurd (omega arith)
  got_before (x ∷ xs) ys zero b e small = e
  got_before (x ∷ xs) ys (suc k) b e small = got_before xs ys k b e (omega arith)

  pub got_last : (xs : List A) (a : A) → slice_get (xs ++ a ∷ []) (length xs) ≡ Some a
  got_last [] a = refl
  got_last (x ∷ xs) a = got_last xs a

  pub within : (xs : List A) (k : ℕ) (b : A) → slice_get xs k ≡ Some b → k < length xs
  within [] k b e = absurd (cc e)
  within (x ∷ xs) zero b e = omega arith
  within (x ∷ xs) (suc k) b e = let r = within xs k b e in omega arith

  -- with the first one gone
  pub got_later : (xs : List A) (k : ℕ) (b : A) → slice_get (remove xs 0) k ≡ Some b → slice_get xs (suc k) ≡ Some b
  got_later [] k b e = e
  got_later (x ∷ xs) k b e = e

  drop_one : (xs : List A) (i : ℕ) → drop 1 (drop i xs) ≡ drop (suc i) xs
  drop_one [] zero = refl
  drop_one [] (suc i) = refl
  drop_one (x ∷ xs) zero = refl
  drop_one (x ∷ xs) (suc i) = drop_one xs i

  got_first : (xs : List A) (i : ℕ) → slice_get (drop i xs) 0 ≡ slice_get xs i
  got_first [] zero = refl
  got_first [] (suc i) = refl
  got_first (x ∷ xs) zero = refl
  got_first (x ∷ xs) (suc i) = got_first xs i

  -- written back
  pub set_same : (xs : List A) (i : ℕ) (a : A) → slice_get xs i ≡ Some a → set xs i a ≡ xs
  set_same [] i a e = refl
  set_same (x ∷ xs) zero a e = let is : a ≡ x = cc e in ap (λ y. y ∷ xs) is
  set_same (x ∷ xs) (suc i) a e = ap (λ ys. x ∷ ys) (set_same xs i a e)

  pub got_set : (xs : List A) (i : ℕ) (a : A) → i < length xs → slice_get (set xs i a) i ≡ Some a
  got_set [] i a small = absurd (omega arith)
  got_set (x ∷ xs) zero a small = refl
  got_set (x ∷ xs) (suc i) a small = got_set xs i a (omega arith)

  pub dropped_set : (xs : List A) (i : ℕ) (a : A) → drop (suc i) (set xs i a) ≡ drop (suc i) xs
  dropped_set [] i a = refl
  dropped_set (x ∷ xs) zero a = refl
  dropped_set (x ∷ xs) (suc i) a = dropped_set xs i a

  pub dropped_next : (xs ys : List A) (i : ℕ) → drop i xs ≡ drop i ys → drop (suc i) xs ≡ drop (suc i) ys
  dropped_next xs ys i e = sym (drop_one xs i) ∙ (ap (drop 1) e ∙ drop_one ys i)

  pub got_dropped : (xs ys : List A) (i : ℕ) → drop i xs ≡ drop i ys → slice_get xs i ≡ slice_get ys i
  got_dropped xs ys i e = sym (got_first xs i) ∙ (ap (λ zs. slice_get zs 0) e ∙ got_first ys i)

  pub taken_more : (xs : List A) (i : ℕ) (a : A) → slice_get xs i ≡ Some a → take (suc i) xs ≡ take i xs ++ a ∷ []
  taken_more [] i a e = absurd (cc e)
  taken_more (x ∷ xs) zero a e = let is : x ≡ a = cc e in ap (λ y. y ∷ []) is
  taken_more (x ∷ xs) (suc i) a e = ap (λ ys. x ∷ ys) (taken_more xs i a e)

-- a write that a map doesn't see
pub mapped_back : {A B : Type 0} (f : A → B) (xs : List A) (i : ℕ) (a b : A) → slice_get xs i ≡ Some a → f b ≡ f a → map f (set xs i b) ≡ map f xs
mapped_back f [] i a b e same = refl
mapped_back f (x ∷ xs) zero a b e same = let is : a ≡ x = cc e in ap (λ y. y ∷ map f xs) (same ∙ ap f is)
mapped_back f (x ∷ xs) (suc i) a b e same = ap (λ ys. f x ∷ ys) (mapped_back f xs i a b e same)

pub taken_whole : {A : Type 0} (xs : List A) (n : ℕ) → length xs ≤ n → take n xs ≡ xs
taken_whole [] zero all = refl
taken_whole [] (suc n) all = refl
taken_whole (x ∷ xs) zero all = absurd (omega arith)
taken_whole (x ∷ xs) (suc n) all = ap (λ ys. x ∷ ys) (taken_whole xs n (omega arith))

pub mapped_set : {A B : Type 0} (f : A → B) (xs : List A) (i : ℕ) (a : A) → map f (set xs i a) ≡ set (map f xs) i (f a)
mapped_set f [] i a = refl
mapped_set f (x ∷ xs) zero a = refl
mapped_set f (x ∷ xs) (suc i) a = ap (λ ys. f x ∷ ys) (mapped_set f xs i a)

pub got_mapped : {A B : Type 0} (f : A → B) (xs : List A) (i : ℕ) (a : A) → slice_get xs i ≡ Some a → slice_get (map f xs) i ≡ Some (f a)
got_mapped f [] i a e = absurd (cc e)
got_mapped f (x ∷ xs) zero a e = let is : x ≡ a = cc e in ap (λ y. Some (f y)) is
got_mapped f (x ∷ xs) (suc i) a e = got_mapped f xs i a e

pub length_mapped : {A B : Type 0} (f : A → B) (xs : List A) → length (map f xs) ≡ length xs
length_mapped f [] = refl
length_mapped f (x ∷ xs) = ap (λ n. suc n) (length_mapped f xs)

-- where a map looks at a place, the list has one there
pub mapped_at : {A B : Type 0} (f : A → B) (xs : List A) (i : ℕ) (b : B) → slice_get (map f xs) i ≡ Some b → (a : A) × (slice_get xs i ≡ Some a) × (f a ≡ b)
mapped_at f [] i b e = absurd (cc e)
mapped_at f (x ∷ xs) zero b e = (x, refl, cc e)
mapped_at f (x ∷ xs) (suc i) b e = mapped_at f xs i b e

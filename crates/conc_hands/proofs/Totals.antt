-- Sums over lists.
use Rattle.std.proofs.Common.{◌≡◌, ◌≢◌, ℕ, zero, suc, ◌+◌, ◌≤◌, List, [], ◌∷◌, map, set, slice_get, Some, refl, ap, sym, ◌∙◌, arith}
use mathlib.Core.Logic.{dite}
use native.Mathlib.Decide.{ℕ_discrete}
use Rattle.conc_hands.specs.queues.QueueRule.{weigh}
use Rattle.conc_hands.specs.Gathering.{if_same, total_over, number_in}

pub if_same_plus : (m n j k : ℕ) → if_same m n (j + k) ≡ if_same m n j + if_same m n k
if_same_plus zero zero j k = refl
if_same_plus zero (suc n) j k = refl
if_same_plus (suc m) zero j k = refl
if_same_plus (suc m) (suc n) j k = if_same_plus m n j k

pub if_same_one : (n k : ℕ) → if_same n n k ≡ k
if_same_one zero k = refl
if_same_one (suc n) k = if_same_one n k

pub if_same_none : (m n k : ℕ) → if_same m n 1 ≡ 0 → if_same m n k ≡ 0
if_same_none zero zero k none = absurd (omega arith)
if_same_none zero (suc n) k none = refl
if_same_none (suc m) zero k none = refl
if_same_none (suc m) (suc n) k none = if_same_none m n k none

pub if_same_other : (m n k : ℕ) → m ≢ n → if_same m n k ≡ 0
if_same_other zero zero k ne = absurd (ne refl)
if_same_other zero (suc n) k ne = refl
if_same_other (suc m) zero k ne = refl
if_same_other (suc m) (suc n) k ne = if_same_other m n k (λ e. ne (ap suc e))

pub same_in : (ms ns : List ℕ) (k : ℕ) → ms ≡ ns → number_in ms k ≡ number_in ns k
same_in ms ns k same = ap (λ xs. number_in xs k) same

module _ {A : Type 0} (f : A → ℕ) where
  pub total_set : (xs : List A) (i : ℕ) (a b : A) → slice_get xs i ≡ Some a → total_over f (set xs i b) + f a ≡ total_over f xs + f b
  total_set [] i a b at = absurd (cc at)
  total_set (x ∷ xs) zero a b at = let is : x ≡ a = cc at in let n = ap f is in omega arith
  total_set (x ∷ xs) (suc i) a b at = let r = total_set xs i a b at in omega arith

  pub mapped_same : (xs : List A) (i : ℕ) (a b : A) → slice_get xs i ≡ Some a → f b ≡ f a → map f (set xs i b) ≡ map f xs
  mapped_same [] i a b at same = refl
  mapped_same (x ∷ xs) zero a b at same = let is : a ≡ x = cc at in ap (λ n. n ∷ map f xs) (same ∙ ap f is)
  mapped_same (x ∷ xs) (suc i) a b at same = ap (λ ns. f x ∷ ns) (mapped_same xs i a b at same)

  pub number_here : (xs : List A) (k : ℕ) (a : A) → slice_get xs k ≡ Some a → f a ≡ number_in (map f xs) k
  number_here [] k a at = absurd (cc at)
  number_here (x ∷ xs) zero a at = let is : a ≡ x = cc at in ap f is
  number_here (x ∷ xs) (suc k) a at = number_here xs k a at

  pub by_number : (h : ℕ → ℕ) (xs : List A) → total_over (λ x. h (f x)) xs ≡ weigh h (map f xs)
  by_number h [] = refl
  by_number h (x ∷ xs) = let r = by_number h xs in omega arith

  some_number : (xs : List A) (n i : ℕ) (a : A) → slice_get xs i ≡ Some a → f a ≡ n → 1 ≤ total_over (λ x. if_same (f x) n 1) xs
  some_number [] n i a at is = absurd (cc at)
  some_number (x ∷ xs) n zero a at is = let x_is : x ≡ a = cc at in let one = ap (λ m. if_same m n 1) (ap f x_is ∙ is) ∙ if_same_one n 1 in omega arith
  some_number (x ∷ xs) n (suc i) a at is = let r = some_number xs n i a at is in omega arith

  no_number : (xs : List A) (n : ℕ) (s : A → ℕ) → total_over (λ x. if_same (f x) n 1) xs ≡ 0 → total_over (λ x. if_same (f x) n (s x)) xs ≡ 0
  no_number [] n s none = refl
  no_number (x ∷ xs) n s none = let a = if_same_none (f x) n (s x) (omega arith) in let b = no_number xs n s (omega arith) in omega arith

  -- of one that has the number, where it is the only one
  pub one_number : (xs : List A) (n : ℕ) (s : A → ℕ) (i : ℕ) (a : A) → slice_get xs i ≡ Some a → f a ≡ n → total_over (λ x. if_same (f x) n 1) xs ≡ 1 → total_over (λ x. if_same (f x) n (s x)) xs ≡ s a
  one_number [] n s i a at is one = absurd (cc at)
  one_number (x ∷ xs) n s zero a at is one = let x_is : x ≡ a = cc at in
      let p = ap (λ m. if_same m n 1) (ap f x_is ∙ is) ∙ if_same_one n 1 in
      let q = ap (λ m. if_same m n (s x)) (ap f x_is ∙ is) ∙ if_same_one n (s x) in
      let r = no_number xs n s (omega arith) in let d = ap s x_is in omega arith
  one_number (x ∷ xs) n s (suc i) a at is one = let some = some_number xs n i a at is in
      let p = if_same_none (f x) n (s x) (omega arith) in let q = one_number xs n s i a at is (omega arith) in omega arith

  -- one has the number, where not none does
  pub some_has : (xs : List A) (n : ℕ) → 1 ≤ total_over (λ x. if_same (f x) n 1) xs → (i : ℕ) × (a : A) × (slice_get xs i ≡ Some a) × (f a ≡ n)
  some_has [] n some = absurd (omega arith)
  some_has (x ∷ xs) n some = dite (ℕ_discrete (f x) n)
      (λ e. (0, x, refl, e))
      (λ ne. let z = if_same_other (f x) n 1 ne in let r = some_has xs n (omega arith) in (suc r.0, r.1, r.2, r.3))

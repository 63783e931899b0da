-- Sleepers in order.
use Rattle.std.proofs.Common.{◌≡◌, ℕ, zero, suc, ◌+◌, ◌<◌, ◌≤◌, true, false, cond, List, [], ◌∷◌, ◌++◌, length, get_or, take, drop, Some, All, refl, ap, sym, ◌∙◌, add-one, arith}
use Rattle.std.proofs.Math.ListN.{set}
use Rattle.std.specs.List.{swap}
use Rattle.std.specs.List.Sorted.{IsPermutation, IsNonDecreasingBy}
use Rattle.std.proofs.lemmas.List.Elements.{All-nil, All-cons, All-head, All-tail}
use Rattle.std.proofs.lemmas.List.Sorted.{All-permutation, IsPermutation-keeps, IsNonDecreasingBy-drop}
use Rattle.rules_waiting.specs.Waiting.{Sleeper, sleeper_before, sleeper_added, sorted_sleepers, earliest}
use Rattle.exn_flight.proofs.Sorting.{added_twice}
use Rattle.number_states.specs.declared.waits.sleepers.Asleep.{Asleep}
use Rattle.number_states.specs.waits.Sleeping.{sleeper_of, sleepers, undue}

-- ---- the place of a sleeper
sleepers_append : (xs ys : List Asleep) → sleepers (xs ++ ys) ≡ sleepers xs ++ sleepers ys
sleepers_append [] ys = refl
sleepers_append (x ∷ xs) ys = ap (λ zs. sleeper_of x ∷ zs) (sleepers_append xs ys)

module _ (s : Asleep) where
  -- it comes before all from a place on
  abbrev pub IsFirstFrom : List Asleep → ℕ → Type 0
  IsFirstFrom xs i = sleeper_added (sleeper_of s) (sleepers (drop i xs)) ≡ sleeper_of s ∷ sleepers (drop i xs)

  -- it comes behind all before a place
  abbrev pub IsBehind : List Asleep → ℕ → Type 0
  IsBehind xs i = sleeper_added (sleeper_of s) (sleepers xs) ≡ sleepers (take i xs) ++ sleeper_added (sleeper_of s) (sleepers (drop i xs))

  pub is_first : (xs : List Asleep) (i : ℕ) (d : Asleep) → i < length xs → sleeper_before (sleeper_of (get_or xs i d)) (sleeper_of s) ≡ false → IsFirstFrom xs i
  is_first [] i d lt e = absurd (omega arith)
  is_first (x ∷ xs) zero d lt e = ap (λ b. cond b (sleeper_of x ∷ sleeper_added (sleeper_of s) (sleepers xs)) (sleeper_of s ∷ sleeper_of x ∷ sleepers xs)) e
  is_first (x ∷ xs) (suc i) d lt e = is_first xs i d (omega arith) e

  pub is_last : (xs : List Asleep) → IsFirstFrom xs (length xs)
  is_last [] = refl
  is_last (x ∷ xs) = is_last xs

  pub stands_there : (xs : List Asleep) (i : ℕ) → IsBehind xs i → IsFirstFrom xs i → sleeper_added (sleeper_of s) (sleepers xs) ≡ sleepers (take i xs ++ s ∷ drop i xs)
  stands_there xs i h k = h ∙ ap (λ ys. sleepers (take i xs) ++ ys) k ∙ sym (sleepers_append (take i xs) (s ∷ drop i xs))

  one_more : (xs : List Asleep) (i : ℕ) (d : Asleep) → i < length xs → sleeper_before (sleeper_of (get_or xs i d)) (sleeper_of s) ≡ true
      → sleepers (take i xs) ++ sleeper_added (sleeper_of s) (sleepers (drop i xs)) ≡ sleepers (take (suc i) xs) ++ sleeper_added (sleeper_of s) (sleepers (drop (suc i) xs))
  one_more [] i d lt e = absurd (omega arith)
  one_more (x ∷ xs) zero d lt e = ap (λ b. cond b (sleeper_of x ∷ sleeper_added (sleeper_of s) (sleepers xs)) (sleeper_of s ∷ sleeper_of x ∷ sleepers xs)) e
  one_more (x ∷ xs) (suc i) d lt e = ap (λ ys. sleeper_of x ∷ ys) (one_more xs i d (omega arith) e)

  pub behind_more : (xs : List Asleep) (i : ℕ) (d : Asleep) → i < length xs → sleeper_before (sleeper_of (get_or xs i d)) (sleeper_of s) ≡ true → IsBehind xs i → IsBehind xs (i + 1)
  behind_more xs i d lt e h = rw add-one (h ∙ one_more xs i d lt e)

-- ---- all may wake at 0
undone : (xs : List Asleep) (i : ℕ) (d : Asleep) → i < length xs → (ys : List Asleep) → ys ≡ set xs i (record { thread = (get_or xs i d).thread; due = 0 })
    → sleepers (take (suc i) ys) ++ undue (sleepers (drop (suc i) ys)) ≡ sleepers (take i xs) ++ undue (sleepers (drop i xs))
undone [] i d lt ys e = absurd (omega arith)
undone (x ∷ xs) zero d lt ys e = ap (λ zs. sleepers (take 1 zs) ++ undue (sleepers (drop 1 zs))) e
undone (x ∷ xs) (suc i) d lt ys e =
    ap (λ zs. sleepers (take (suc (suc i)) zs) ++ undue (sleepers (drop (suc (suc i)) zs))) e ∙ ap (λ zs. sleeper_of x ∷ zs) (undone xs i d (omega arith) (set xs i (record { thread = (get_or xs i d).thread; due = 0 })) refl)

pub one_undone : (xs : List Asleep) (i : ℕ) (d : Asleep) → i < length xs → let ys = set xs i (record { thread = (get_or xs i d).thread; due = 0 }) in
    sleepers (take (i + 1) ys) ++ undue (sleepers (drop (i + 1) ys)) ≡ sleepers (take i xs) ++ undue (sleepers (drop i xs))
one_undone xs i d lt = rw add-one (undone xs i d lt _ refl)

-- ---- a sort
abbrev sorted : List Asleep → List Sleeper
sorted xs = sorted_sleepers (sleepers xs)

-- one of a list and one before it change places
exchanged : (x d : Asleep) (xs : List Asleep) (i : ℕ) → i < length xs → sorted (get_or xs i d ∷ set xs i x) ≡ sorted (x ∷ xs)
exchanged x d [] i lt = absurd (omega arith)
exchanged x d (y ∷ xs) zero lt = added_twice (sleeper_of y) (sleeper_of x) (sorted xs)
exchanged x d (y ∷ xs) (suc i) lt =
    added_twice (sleeper_of (get_or xs i d)) (sleeper_of y) (sorted (set xs i x)) ∙ ap (sleeper_added (sleeper_of y)) (exchanged x d xs i (omega arith)) ∙ added_twice (sleeper_of y) (sleeper_of x) (sorted xs)

swapped_at : (d : Asleep) (xs : List Asleep) (i j : ℕ) → i < length xs → j < length xs → sorted (set (set xs i (get_or xs j d)) j (get_or xs i d)) ≡ sorted xs
swapped_at d [] i j p q = absurd (omega arith)
swapped_at d (x ∷ xs) zero zero p q = refl
swapped_at d (x ∷ xs) zero (suc j) p q = exchanged x d xs j (omega arith)
swapped_at d (x ∷ xs) (suc i) zero p q = exchanged x d xs i (omega arith)
swapped_at d (x ∷ xs) (suc i) (suc j) p q = ap (sleeper_added (sleeper_of x)) (swapped_at d xs i j (omega arith) (omega arith))

swapped : (xs : List Asleep) (i j : ℕ) → i < length xs → j < length xs → sorted (swap xs i j) ≡ sorted xs
swapped [] i j p q = refl
swapped (x ∷ xs) i j p q = swapped_at x (x ∷ xs) i j p q

moved : (xs ys : List Asleep) → IsPermutation xs ys → sorted ys ≡ sorted xs
moved xs ys h = IsPermutation-keeps xs (λ zs. sorted zs ≡ sorted xs) refl (λ zs i j p q e. swapped zs i j p q ∙ e) ys h

abbrev IsUndue : Asleep → Type 0
IsUndue x = x.due ≡ 0

abbrev rest_of : List Sleeper → List Sleeper
rest_of [] = []
rest_of (s ∷ ss) = ss

are_undue : (xs : List Asleep) (ss : List Sleeper) → sleepers xs ≡ undue ss → All IsUndue xs
are_undue [] ss e = All-nil IsUndue
are_undue (x ∷ xs) [] e = absurd (cc e)
are_undue (x ∷ xs) (s ∷ ss) e = let h : Some x.due ≡ Some 0 = ap earliest e in All-cons IsUndue x xs (cc h) (are_undue xs ss (ap rest_of e))

not_before : (x y : Asleep) → x.due ≡ 0 → y.due ≡ 0 → x.thread ≤ y.thread → sleeper_before (sleeper_of y) (sleeper_of x) ≡ false
not_before x y p q h = grind arith

in_order : (xs : List Asleep) → All IsUndue xs → IsNonDecreasingBy (λ (x : Asleep). x.thread) xs → sorted xs ≡ sleepers xs
in_order [] u h = refl
in_order (x ∷ []) u h = refl
in_order (x ∷ y ∷ ys) u h =
    let more = All-tail IsUndue x (y ∷ ys) u in
    let rest = in_order (y ∷ ys) more (IsNonDecreasingBy-drop (λ (z : Asleep). z.thread) 1 (x ∷ y ∷ ys) h) in
    let e = not_before x y (All-head IsUndue x (y ∷ ys) u) (All-head IsUndue y ys more) (h 0 1 x (omega arith) (omega arith)) in
    ap (sleeper_added (sleeper_of x)) rest ∙ ap (λ b. cond b (sleeper_of y ∷ sleeper_added (sleeper_of x) (sleepers ys)) (sleeper_of x ∷ sleeper_of y ∷ sleepers ys)) e

-- those that all may wake at 0, by thread
pub undue_sorted : (ss : List Sleeper) (xs ys : List Asleep) → sleepers xs ≡ undue ss → IsPermutation xs ys → IsNonDecreasingBy (λ (x : Asleep). x.thread) ys → sleepers ys ≡ sorted_sleepers (undue ss)
undue_sorted ss xs ys e p h = sym (in_order ys (All-permutation IsUndue xs ys p (are_undue xs ss e)) h) ∙ moved xs ys p ∙ ap sorted_sleepers e

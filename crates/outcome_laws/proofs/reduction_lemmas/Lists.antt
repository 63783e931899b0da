-- Lists in which one item is put, and threads that don't wait.
use Rattle.std.proofs.Common.{◌≡◌, ◌≢◌, ℕ, zero, suc, ◌==◌, List, [], ◌∷◌, ◌++◌, slice_get, slice_set, true, false, Some, refl, sym, ap, ◌∙◌, ⊎_elim}
use Rattle.rules_meaning.specs.Values.{V}
use Rattle.rules_waiting.specs.Waiting.{Waiting, is_blocked}
use Rattle.hs_laws.proofs.Lists.{cond_true, cond_false, equal_or, Each}

-- ---- an item is put

pub set_apart : {A : Type 0} (xs : List A) (n k : ℕ) (x y : A) → k ≢ n → slice_set (slice_set xs n x) k y ≡ slice_set (slice_set xs k y) n x
set_apart [] n k x y h = refl
set_apart (z ∷ xs) zero zero x y h = absurd (h refl)
set_apart (z ∷ xs) zero (suc k) x y h = refl
set_apart (z ∷ xs) (suc n) zero x y h = refl
set_apart (z ∷ xs) (suc n) (suc k) x y h = ap (λ ys. z ∷ ys) (set_apart xs n k x y (λ e. h (ap suc e)))

pub set_twice : {A : Type 0} (xs : List A) (n : ℕ) (x y : A) → slice_set (slice_set xs n x) n y ≡ slice_set xs n y
set_twice [] n x y = refl
set_twice (z ∷ xs) zero x y = refl
set_twice (z ∷ xs) (suc n) x y = ap (λ ys. z ∷ ys) (set_twice xs n x y)

pub set_append : {A : Type 0} (xs ys : List A) (n : ℕ) (x y : A) → slice_get xs n ≡ Some x → slice_set (xs ++ ys) n y ≡ slice_set xs n y ++ ys
set_append [] ys n x y h = absurd (cc h)
set_append (z ∷ xs) ys zero x y h = refl
set_append (z ∷ xs) ys (suc n) x y h = ap (λ zs. z ∷ zs) (set_append xs ys n x y h)

-- ---- who doesn't wait

-- all that wait are others
pub others_wait : (t : ℕ) (ws : List (Waiting V)) → is_blocked t ws ≡ false → Each (λ u r. u ≢ t) ws
others_wait t [] h = tt
others_wait t (w ∷ ws) h =
    ⊎_elim
    (λ e. let b : true ≡ false = sym (cond_true (w.thread == t) true (is_blocked t ws) e.0) ∙ h in absurd (cc b))
    (λ e. (e.1, others_wait t ws (sym (cond_false (w.thread == t) true (is_blocked t ws) e.0) ∙ h)))
    (equal_or w.thread t)

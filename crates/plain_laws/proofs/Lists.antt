-- Lists by number, and what holds of each item.
use Rattle.std.proofs.Common.{◌≡◌, ◌≢◌, ℕ, zero, suc, ◌+◌, ◌-◌, ◌≤◌, ◌<◌, List, [], ◌∷◌, ◌++◌, map, length, length-drop, take, drop, slice_get, bytes_eq, Bool, not, cond, Some, None, refl, sym, ap, ◌∙◌, arith, ⊎_elim}
use Rattle.std.specs.List.{AllByRecursion, prefix_len, position}
use Rattle.std.specs.Option.{unwrap_or}
use Rattle.std.proofs.Math.Bool.{not-not}
use Rattle.std.proofs.Math.Seq.{take-length}
use Rattle.std.proofs.lemmas.Bool.{cases_lt, lt-ltb, le-ltb}
use Rattle.std.proofs.lemmas.Option.{same_Some}
use Rattle.std.proofs.lemmas.List.Sums.{prefix_len-le-length}
use Rattle.std.proofs.lemmas.Slice.Eq.{bytes_eq-Decides}
use Rattle.plain_laws.proofs.Booleans.{same_bool}

-- ---- items by number

pub get_append : {A : Type 0} (xs more : List A) (n : ℕ) (x : A) → slice_get xs n ≡ Some x → slice_get (xs ++ more) n ≡ Some x
get_append [] more n x e = absurd (cc e)
get_append (y ∷ xs) more zero x e = e
get_append (y ∷ xs) more (suc n) x e = get_append xs more n x e

pub get_last : {A : Type 0} (xs : List A) (x : A) → slice_get (xs ++ x ∷ []) (length xs) ≡ Some x
get_last [] x = refl
get_last (y ∷ xs) x = get_last xs x

pub get_before_last : {A : Type 0} (xs : List A) (y : A) (n : ℕ) → n ≢ length xs → slice_get (xs ++ y ∷ []) n ≡ slice_get xs n
get_before_last [] y zero e = absurd (e refl)
get_before_last [] y (suc n) e = refl
get_before_last (x ∷ xs) y zero e = refl
get_before_last (x ∷ xs) y (suc n) e = get_before_last xs y n (λ k. e (ap suc k))

pub get_mapped : {A B : Type 0} (f : A → B) (xs : List A) (n : ℕ) (x : A) → slice_get xs n ≡ Some x → slice_get (map f xs) n ≡ Some (f x)
get_mapped f [] n x e = absurd (cc e)
get_mapped f (y ∷ xs) zero x e = ap (λ z. Some (f z)) (same_Some y x e)
get_mapped f (y ∷ xs) (suc n) x e = get_mapped f xs n x e

pub mapped_there : {A B : Type 0} (f : A → B) (xs : List A) (n : ℕ) (y : B) → slice_get (map f xs) n ≡ Some y → (x : A) × (slice_get xs n ≡ Some x) × (f x ≡ y)
mapped_there f [] n y e = absurd (cc e)
mapped_there f (x ∷ xs) zero y e = (x, refl, same_Some (f x) y e)
mapped_there f (x ∷ xs) (suc n) y e = mapped_there f xs n y e

-- ---- what holds of each item

pub all_append : {A : Type 0} (P : A → Type 0) (xs ys : List A) → AllByRecursion P xs → AllByRecursion P ys → AllByRecursion P (xs ++ ys)
all_append P [] ys h k = k
all_append P (x ∷ xs) ys h k = (h.0, all_append P xs ys h.1 k)

-- ---- the items in front that pass a test

pub prefix_not_not : (p : ℕ → Bool) (xs : List ℕ) → prefix_len (λ x. not (not (p x))) xs ≡ prefix_len p xs
prefix_not_not p [] = refl
prefix_not_not p (x ∷ xs) = ap (λ b. cond b (1 + prefix_len (λ x. not (not (p x))) xs) 0) (not-not (p x)) ∙ ap (λ n. cond (p x) (1 + n) 0) (prefix_not_not p xs)

-- the first item that passes stands behind those that do not
pub until : (p : ℕ → Bool) (xs : List ℕ) → unwrap_or (position p xs) (length xs) ≡ prefix_len (λ x. not (p x)) xs
until p xs =
    let n : ℕ = prefix_len (λ x. not (p x)) xs in
    ⊎_elim (λ (h : n < length xs). ap (λ b. unwrap_or (cond b (Some n) None) (length xs)) (lt-ltb n (length xs) h))
    (λ (h : length xs ≤ n). let w : n ≤ length xs = prefix_len-le-length (λ x. not (p x)) xs in
    ap (λ b. unwrap_or (cond b (Some n) None) (length xs)) (le-ltb n (length xs) h) ∙ (let e : length xs ≡ n = omega arith in e))
    (cases_lt n (length xs))

-- ---- bytes

-- `&xs[n..]`
pub slice_from : (xs : List ℕ) (n : ℕ) → take (length xs - n) (drop n xs) ≡ drop n xs
slice_from xs n = ap (λ k. take k (drop n xs)) (sym (length-drop n xs)) ∙ take-length (drop n xs)

pub bytes_eq_sym : (x y : List ℕ) → bytes_eq x y ≡ bytes_eq y x
bytes_eq_sym x y = same_bool (bytes_eq x y) (bytes_eq y x) (λ e. (bytes_eq-Decides y x).1 (sym ((bytes_eq-Decides x y).0 e))) (λ e. (bytes_eq-Decides x y).1 (sym ((bytes_eq-Decides y x).0 e)))

-- An ending is put in its place.
use Rattle.std.proofs.Common.{◌≡◌, ◌<◌, ◌≤◌, ◌+◌, ℕ, zero, suc, List, [], ◌∷◌, ◌++◌, take, drop, length, Some, None, slice_get, get_or, Bool, true, false, cond, Result, Ok, Err, OnOk, is_ok, refl, sym, ap, ◌∙◌, subst, arith, inl, inr, ⊎_elim}
use Rattle.std.specs.Ordering.{ordering_reverse}
use Rattle.std.specs.Prelude.{◌⊎◌}
use Rattle.std.specs.List.{AllByRecursion, insert}
use Rattle.std.specs.declared.cmp.Ordering.{Ordering}
use Rattle.std.specs.declared.cmp.Ordering.TheVariants.{Less, Equal, Greater}
use Rattle.std.proofs.lemmas.Bool.{cases_lt}
use Rattle.std.proofs.lemmas.Option.{slice_get-get_or}
use Rattle.outcome_laws.specs.Outcomes.{outcome_cmp}
use Rattle.outcome_laws.proofs.Ordered.{outcome_total, same_outcome}
use Rattle.conc_outcomes.specs.declared.order.ended.Ended.{Ended}
use Rattle.conc_outcomes.specs.order.Rising.{outcome_by, IsBefore, IsRising, Holds, Has, AreBefore, AreBehind, IsPlaceOf}

some_one : (a b : Ended) → ◌≡◌ (Some a) (Some b) → a ≡ b
some_one a b h = cc

trans : (a b c : Ended) → IsBefore a b → IsBefore b c → IsBefore a c
trans a b c = outcome_total.trans (outcome_by a) (outcome_by b) (outcome_by c)

behind : (a b : Ended) → outcome_cmp (outcome_by a) (outcome_by b) ≡ Greater → IsBefore b a
behind a b h = outcome_total.antisymm (outcome_by b) (outcome_by a) ∙ ap ordering_reverse h

each_of : (a : Ended) (bs : List Ended) (j : ℕ) (b : Ended) → AllByRecursion (IsBefore a) bs → slice_get bs j ≡ Some b → IsBefore a b
each_of a [] j b h at = absurd (let r : ⊥ = cc in r)
each_of a (c ∷ bs) zero b h at = let same : c ≡ b = some_one _ _ at in subst (IsBefore a) same h.0
each_of a (c ∷ bs) (suc j) b h at = each_of a bs j b h.1 at

-- of two the one with the lower place comes first
pub pair : (xs : List Ended) → IsRising xs → (i j : ℕ) (a b : Ended) → i < j → slice_get xs i ≡ Some a → slice_get xs j ≡ Some b → IsBefore a b
pair [] r i j a b less at bt = absurd (let r : ⊥ = cc in r)
pair (x ∷ xs) r i zero a b less at bt = absurd (omega arith)
pair (x ∷ xs) r zero (suc j) a b less at bt = let same : x ≡ a = some_one _ _ at in subst (λ z. IsBefore z b) same (each_of x xs j b r.0 bt)
pair (x ∷ xs) r (suc i) (suc j) a b less at bt = pair xs r.1 i j a b (omega arith) at bt

-- ---- halving

pub there : (xs : List Ended) (i : ℕ) (a : Ended) → i < length xs → a ≡ get_or xs i a → slice_get xs i ≡ Some a
there xs i a less is = slice_get-get_or xs i a less ∙ ap (λ z. Some z) (sym is)

pub less_more : (xs : List Ended) (r : IsRising xs) (middle : ℕ) (m e : Ended) (o : Ordering) → slice_get xs middle ≡ Some m → o ≡ outcome_cmp (outcome_by m) (outcome_by e) → o ≡ Less → AreBefore xs (middle + 1) e
less_more xs r middle m e o at is less i a below here =
    let before : IsBefore m e = sym is ∙ less in
    ⊎_elim (λ (h : i < middle). trans a m e (pair xs r i middle a m h here at) before)
    (λ (h : middle ≤ i). let same : i ≡ middle = omega arith in subst (λ z. IsBefore z e) (some_one _ _ (sym at ∙ (ap (slice_get xs) (sym same) ∙ here))) before)
    (cases_lt i middle)

pub greater_more : (xs : List Ended) (r : IsRising xs) (middle : ℕ) (m e : Ended) (o : Ordering) → slice_get xs middle ≡ Some m → o ≡ outcome_cmp (outcome_by m) (outcome_by e) → o ≡ Greater → AreBehind xs middle e
greater_more xs r middle m e o at is more i a from here =
    let before : IsBefore e m = behind m e (sym is ∙ more) in
    ⊎_elim (λ (h : middle < i). trans e m a before (pair xs r middle i m a h at here))
    (λ (h : i ≤ middle). let same : i ≡ middle = omega arith in subst (IsBefore e) (some_one _ _ (sym at ∙ (ap (slice_get xs) (sym same) ∙ here))) before)
    (cases_lt middle i)

pub equal_has : (xs : List Ended) (middle : ℕ) (m e : Ended) (o : Ordering) → slice_get xs middle ≡ Some m → o ≡ outcome_cmp (outcome_by m) (outcome_by e) → o ≡ Equal → Has xs (outcome_by e)
equal_has xs middle m e o at is equal = (m, (middle, at), same_outcome (outcome_by m) (outcome_by e) (sym is ∙ equal))

-- ---- putting

all_behind : (xs : List Ended) (e : Ended) → AreBehind xs 0 e → AllByRecursion (IsBefore e) xs
all_behind [] e h = tt
all_behind (x ∷ xs) e h = (h 0 x (omega arith) refl, all_behind xs e (λ i a le at. h (suc i) a (omega arith) at))

all_put : (a e : Ended) (k : ℕ) (xs : List Ended) → IsBefore a e → AllByRecursion (IsBefore a) xs → AllByRecursion (IsBefore a) (take k xs ++ e ∷ drop k xs)
all_put a e zero xs h r = (h, r)
all_put a e (suc k) [] h r = (h, tt)
all_put a e (suc k) (x ∷ xs) h r = (r.0, all_put a e k xs h r.1)

pub put_rising : (k : ℕ) (xs : List Ended) (e : Ended) → IsRising xs → IsPlaceOf xs k e → IsRising (take k xs ++ e ∷ drop k xs)
put_rising zero xs e r h = (all_behind xs e h.1, r)
put_rising (suc k) [] e r h = (tt, tt)
put_rising (suc k) (x ∷ xs) e r h =
    (all_put x e k xs (h.0 0 x (omega arith) refl) r.0, put_rising k xs e r.1 (λ i a less at. h.0 (suc i) a (omega arith) at, λ i a le at. h.1 (suc i) a (omega arith) at))

pub put_has : (k : ℕ) (xs : List Ended) (e : Ended) → Holds (take k xs ++ e ∷ drop k xs) e
put_has zero xs e = (0, refl)
put_has (suc k) [] e = (0, refl)
put_has (suc k) (x ∷ xs) e = let h = put_has k xs e in (suc h.0, h.1)

pub put_keeps : (k : ℕ) (xs : List Ended) (e a : Ended) → Holds xs a → Holds (take k xs ++ e ∷ drop k xs) a
put_keeps zero xs e a h = (suc h.0, h.1)
put_keeps (suc k) [] e a h = absurd (let n : ◌≡◌ None (Some a) = h.1 in let r : ⊥ = cc in r)
put_keeps (suc k) (x ∷ xs) e a (zero, at) = (0, at)
put_keeps (suc k) (x ∷ xs) e a (suc i, at) = let h = put_keeps k xs e a (i, at) in (suc h.0, h.1)

pub put_only : (k : ℕ) (xs : List Ended) (e a : Ended) → Holds (take k xs ++ e ∷ drop k xs) a → Holds xs a ⊎ (a ≡ e)
put_only zero xs e a (zero, at) = inr (sym (some_one _ _ at))
put_only zero xs e a (suc i, at) = inl (i, at)
put_only (suc k) [] e a (zero, at) = inr (sym (some_one _ _ at))
put_only (suc k) [] e a (suc i, at) = inl (i, at)
put_only (suc k) (x ∷ xs) e a (zero, at) = inl (0, at)
put_only (suc k) (x ∷ xs) e a (suc i, at) = ⊎_elim (λ (h : Holds xs a). inl (suc h.0, h.1)) (λ (same : a ≡ e). inr same) (put_only k xs e a (i, at))

-- what is so of the list before is so of the list with the ending or without it
pub put_or_not : (P : List Ended → Type 0) (b : Bool) (xs ys : List Ended) (k : ℕ) (e : Ended) → ys ≡ cond b (insert xs k e) xs → P xs → P (take k xs ++ e ∷ drop k xs) → P ys
put_or_not P true xs ys k e is p q = subst P (sym is) q
put_or_not P false xs ys k e is p q = subst P (sym is) p

pub put_where_ok : {A E : Type 0} (r : Result A E) (ok : A) (xs ys : List Ended) (k : ℕ) (e : Ended) → ys ≡ cond (is_ok r) (insert xs k e) xs → r ≡ Ok ok → Holds ys e
put_where_ok r ok xs ys k e is h = let b : is_ok r ≡ true = ap is_ok h in subst (λ zs. Holds zs e) (sym (is ∙ ap (λ b. cond b (insert xs k e) xs) b)) (put_has k xs e)

pub on_ok : {A E P : Type 0} (r : Result A E) → P → OnOk r P
on_ok (Ok a) p = p
on_ok (Err e) p = tt

pub on_err : {A E : Type 0} (P : Type 0) (r : Result A E) (e : E) → r ≡ Err e → OnOk r P
on_err P (Ok a) e h = absurd (let r : ⊥ = cc in r)
on_err P (Err f) e h = tt

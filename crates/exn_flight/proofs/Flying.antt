-- The exceptions in flight of a list of throws.
use Rattle.std.proofs.Common.{◌≡◌, ◌≢◌, ℕ, zero, suc, ◌<◌, ◌≤◌, ◌+◌, ◌==◌, true, false, cond, List, [], ◌∷◌, ◌++◌, length, take, Option, Some, None, IsSome, refl, ap, sym, ◌∙◌, arith, eq-eqb, set}
use Rattle.std.proofs.lemmas.Bool.{ne_eqb, both_ways}
use Rattle.std.proofs.lemmas.List.{take_more}
use Rattle.hs_base.specs.declared.exn.Exn.{Exn}
use Rattle.rules_waiting.specs.Waiting.{Flying, withdrawn, is_throwing, thrown_by, flying_to, first_thrown}
use Rattle.exn_flight.specs.declared.throws.Throw.{Throw}
use Rattle.exn_flight.specs.Flights.{AreThrowers}
use Rattle.exn_flight.specs.Throwing.{throw_at, no_throw, with_exn, flying, followed, IsLive, NoneTo, IsFirst, AreAt}
use Rattle.exn_flight.proofs.Numbers.{without_absent}
use Rattle.exn_flight.proofs.Growing.{same_some}

with_exn_append : (t u : ℕ) (o : Option Exn) (fs gs : List Flying) → with_exn t u o (fs ++ gs) ≡ with_exn t u o fs ++ gs
with_exn_append t u None fs gs = refl
with_exn_append t u (Some e) fs gs = refl

pub flying_append : (ts us : List Throw) → flying (ts ++ us) ≡ flying ts ++ flying us
flying_append [] us = refl
flying_append (t ∷ ts) us = ap (with_exn t.thrower t.target t.exn) (flying_append ts us) ∙ with_exn_append t.thrower t.target t.exn (flying ts) (flying us)

with_more : (t u : ℕ) (o : Option Exn) (fs : List Flying) (n : ℕ) → length fs ≤ n → length (with_exn t u o fs) ≤ suc n
with_more t u None fs n h = omega (arith, h)
with_more t u (Some e) fs n h = omega (arith, h)

-- there are at most as many as throws
pub few_fly : (ts : List Throw) → length (flying ts) ≤ length ts
few_fly [] = omega arith
few_fly (t ∷ ts) = with_more t.thrower t.target t.exn (flying ts) (length ts) (few_fly ts)

flying_linked : (ts : List Throw) (l place : ℕ) → flying (set ts l (record (throw_at ts l) { next = place })) ≡ flying ts
flying_linked [] l place = refl
flying_linked (t ∷ ts) zero place = refl
flying_linked (t ∷ ts) (suc l) place = ap (with_exn t.thrower t.target t.exn) (flying_linked ts l place)

pub flying_followed : (ts : List Throw) (last : Option ℕ) (place : ℕ) → flying (followed ts last place) ≡ flying ts
flying_followed ts None place = refl
flying_followed ts (Some l) place = flying_linked ts l place

-- one throw more of a list that is gone over
pub flying_more : (ts : List Throw) (i : ℕ) → i < length ts → flying (take (i + 1) ts) ≡ flying (take i ts) ++ flying (throw_at ts i ∷ [])
flying_more ts i lt = ap flying (take_more ts i no_throw lt) ∙ flying_append (take i ts) (throw_at ts i ∷ [])

pub none_live : (t : Throw) → t.exn ≡ None → flying (t ∷ []) ≡ []
none_live t e = ap (λ o. with_exn t.thrower t.target o []) e

with_exn_length : (t u : ℕ) (o : Option Exn) (fs : List Flying) → length (with_exn t u o fs) ≤ suc (length fs)
with_exn_length t u None fs = omega arith
with_exn_length t u (Some e) fs = omega arith

pub flying_length : (ts : List Throw) → length (flying ts) ≤ length ts
flying_length [] = omega arith
flying_length (t ∷ ts) = omega (arith, with_exn_length t.thrower t.target t.exn (flying ts), flying_length ts)

-- ---- who throws
has_exn : (t thr u : ℕ) (o : Option Exn) (fs : List Flying) → IsSome o → thr ≡ t → is_throwing t (with_exn thr u o fs) ≡ true
has_exn t thr u None fs l e = let no : ⊥ = cc in absurd no
has_exn t thr u (Some x) fs l e = ap (λ b. cond b true (is_throwing t fs)) (eq-eqb thr t e)

has_more : (t thr u : ℕ) (o : Option Exn) (fs : List Flying) → is_throwing t fs ≡ true → is_throwing t (with_exn thr u o fs) ≡ true
has_more t thr u None fs h = h
has_more t thr u (Some x) fs h = elim (thr == t) as (λ b. cond b true (is_throwing t fs) ≡ true) [ true ↦ refl | false ↦ h ]

has_other : (t thr u : ℕ) (o : Option Exn) (fs : List Flying) → (IsSome o → thr ≡ t → ⊥) → is_throwing t fs ≡ false → is_throwing t (with_exn thr u o fs) ≡ false
has_other t thr u None fs other h = h
has_other t thr u (Some x) fs other h = ap (λ b. cond b true (is_throwing t fs)) (ne_eqb thr t (other refl)) ∙ h

pub throwing_live : (ts : List Throw) (t k : ℕ) → IsLive ts k → (throw_at ts k).thrower ≡ t → is_throwing t (flying ts) ≡ true
throwing_live [] t k l e = let no : ⊥ = cc in absurd no
throwing_live (x ∷ xs) t zero l e = has_exn t x.thrower x.target x.exn (flying xs) l e
throwing_live (x ∷ xs) t (suc k) l e = has_more t x.thrower x.target x.exn (flying xs) (throwing_live xs t k l e)

-- no throw in flight is this thread's
abbrev pub NoneBy : List Throw → ℕ → Type 0
NoneBy ts t = (k : ℕ) → IsLive ts k → (throw_at ts k).thrower ≢ t

pub throwing_none : (ts : List Throw) (t : ℕ) → NoneBy ts t → is_throwing t (flying ts) ≡ false
throwing_none [] t h = refl
throwing_none (x ∷ xs) t h = has_other t x.thrower x.target x.exn (flying xs) (h 0) (throwing_none xs t (λ k. h (suc k)))

-- only this throw in flight is the thread's
abbrev pub OnlyAt : List Throw → ℕ → ℕ → Type 0
OnlyAt ts t p = (k : ℕ) → IsLive ts k → (throw_at ts k).thrower ≡ t → k ≡ p

none_behind : (x : Throw) (xs : List Throw) (t : ℕ) → OnlyAt (x ∷ xs) t 0 → NoneBy xs t
none_behind x xs t h k l e = let q : suc k ≡ 0 = h (suc k) l e in let no : ⊥ = omega (arith, q) in no

only_behind : (x : Throw) (xs : List Throw) (t p : ℕ) → OnlyAt (x ∷ xs) t (suc p) → OnlyAt xs t p
only_behind x xs t p h k l e = let q : suc k ≡ suc p = h (suc k) l e in omega (arith, q)

not_here : (x : Throw) (xs : List Throw) (t p : ℕ) → OnlyAt (x ∷ xs) t (suc p) → IsSome x.exn → x.thrower ≡ t → ⊥
not_here x xs t p h l e = let q : 0 ≡ suc p = h 0 l e in let no : ⊥ = omega (arith, q) in no

without_here : (t thr u : ℕ) (o : Option Exn) (fs : List Flying) → thr ≡ t → withdrawn t (with_exn thr u o fs) ≡ withdrawn t fs
without_here t thr u None fs e = refl
without_here t thr u (Some x) fs e = ap (λ b. cond b (withdrawn t fs) (record { thrower = thr; target = u; exn = x } ∷ withdrawn t fs)) (eq-eqb thr t e)

without_there : (t thr u : ℕ) (o : Option Exn) (fs : List Flying) → (IsSome o → thr ≡ t → ⊥) → withdrawn t (with_exn thr u o fs) ≡ with_exn thr u o (withdrawn t fs)
without_there t thr u None fs other = refl
without_there t thr u (Some x) fs other = ap (λ b. cond b (withdrawn t fs) (record { thrower = thr; target = u; exn = x } ∷ withdrawn t fs)) (ne_eqb thr t (other refl))

-- the throw that is over is its thrower's only one
pub flying_over : (ts : List Throw) (t p : ℕ) → IsLive ts p → (throw_at ts p).thrower ≡ t → OnlyAt ts t p → flying (set ts p (record (throw_at ts p) { exn = None })) ≡ withdrawn t (flying ts)
flying_over [] t p l e only = refl
flying_over (x ∷ xs) t zero l e only =
    sym (without_here t x.thrower x.target x.exn (flying xs) e ∙ without_absent (λ (f : Flying). f.thrower) t (flying xs) (throwing_none xs t (none_behind x xs t only)))
flying_over (x ∷ xs) t (suc p) l e only =
    ap (with_exn x.thrower x.target x.exn) (flying_over xs t p l e (only_behind x xs t p only)) ∙ sym (without_there t x.thrower x.target x.exn (flying xs) (not_here x xs t p only))

by_here : (t thr u : ℕ) (o : Option Exn) (fs : List Flying) → IsSome o → thr ≡ t → thrown_by t (with_exn thr u o fs) ≡ o
by_here t thr u None fs l e = let no : ⊥ = cc in absurd no
by_here t thr u (Some x) fs l e = ap (λ b. cond b (Some x) (thrown_by t fs)) (eq-eqb thr t e)

by_there : (t thr u : ℕ) (o : Option Exn) (fs : List Flying) → (IsSome o → thr ≡ t → ⊥) → thrown_by t (with_exn thr u o fs) ≡ thrown_by t fs
by_there t thr u None fs other = refl
by_there t thr u (Some x) fs other = ap (λ b. cond b (Some x) (thrown_by t fs)) (ne_eqb thr t (other refl))

pub thrown_live : (ts : List Throw) (t p : ℕ) → IsLive ts p → (throw_at ts p).thrower ≡ t → OnlyAt ts t p → thrown_by t (flying ts) ≡ (throw_at ts p).exn
thrown_live [] t p l e only = refl
thrown_live (x ∷ xs) t zero l e only = by_here t x.thrower x.target x.exn (flying xs) l e
thrown_live (x ∷ xs) t (suc p) l e only = by_there t x.thrower x.target x.exn (flying xs) (not_here x xs t p only) ∙ thrown_live xs t p l e (only_behind x xs t p only)

pub thrown_none : (ts : List Throw) (t : ℕ) → NoneBy ts t → thrown_by t (flying ts) ≡ None
thrown_none [] t h = refl
thrown_none (x ∷ xs) t h = by_there t x.thrower x.target x.exn (flying xs) (h 0) ∙ thrown_none xs t (λ k. h (suc k))

-- no thread throws twice
abbrev pub Once : List Throw → Type 0
Once ts = (j k : ℕ) → IsLive ts j → IsLive ts k → (throw_at ts j).thrower ≡ (throw_at ts k).thrower → j ≡ k

distinct_with : (thr u : ℕ) (o : Option Exn) (fs : List Flying) → (IsSome o → is_throwing thr fs ≡ false) → AreThrowers fs → AreThrowers (with_exn thr u o fs)
distinct_with thr u None fs alone h = h
distinct_with thr u (Some x) fs alone h = (alone refl, h)

pub flying_once : (ts : List Throw) → Once ts → AreThrowers (flying ts)
flying_once [] h = tt
flying_once (x ∷ xs) h =
    distinct_with x.thrower x.target x.exn (flying xs)
    (λ l. throwing_none xs x.thrower (λ k m e. (let q : 0 ≡ suc k = h 0 (suc k) l m (sym e) in let no : ⊥ = omega (arith, q) in no)))
    (flying_once xs (λ j k l m e. (let q : suc j ≡ suc k = h (suc j) (suc k) l m e in omega (arith, q))))

pub once_at : (ts : List Throw) (f : ℕ → Option ℕ) → AreAt ts f → Once ts
once_at ts f a j k l m e = same_some j k (sym (a.thrower j l) ∙ ap f e ∙ a.thrower k m)

pub only_at : (ts : List Throw) (f : ℕ → Option ℕ) (t p : ℕ) → AreAt ts f → f t ≡ Some p → OnlyAt ts t p
only_at ts f t p a h k l e = same_some k p (sym (a.thrower k l) ∙ ap f e ∙ h)

pub none_by : (ts : List Throw) (f : ℕ → Option ℕ) (t : ℕ) → AreAt ts f → f t ≡ None → NoneBy ts t
none_by ts f t a h k l e = let q : Some k ≡ None = sym (a.thrower k l) ∙ ap f e ∙ h in let no : ⊥ = cc in no

no_place : (ts : List Throw) (f : ℕ → Option ℕ) (t : ℕ) (o : Option ℕ) → AreAt ts f → is_throwing t (flying ts) ≡ false → f t ≡ o → o ≡ None
no_place ts f t None a h e = refl
no_place ts f t (Some i) a h e = let w = a.place t i e in absurd (both_ways (is_throwing t (flying ts)) h (throwing_live ts t i w.0 w.1))

pub nowhere : (ts : List Throw) (f : ℕ → Option ℕ) (t : ℕ) → AreAt ts f → is_throwing t (flying ts) ≡ false → f t ≡ None
nowhere ts f t a h = no_place ts f t (f t) a h refl

-- ---- the first at a target
abbrev answer_of : ℕ → Option Exn → Option (ℕ × Exn)
answer_of t None = None
answer_of t (Some e) = Some (t, e)

first_here : (u thr tgt : ℕ) (o : Option Exn) (fs : List Flying) → IsSome o → tgt ≡ u → first_thrown (flying_to u (with_exn thr tgt o fs)) ≡ answer_of thr o
first_here u thr tgt None fs l e = let no : ⊥ = cc in absurd no
first_here u thr tgt (Some x) fs l e = ap (λ b. first_thrown (cond b (record { thrower = thr; target = tgt; exn = x } ∷ flying_to u fs) (flying_to u fs))) (eq-eqb tgt u e)

first_there : (u thr tgt : ℕ) (o : Option Exn) (fs : List Flying) → (IsSome o → tgt ≢ u) → first_thrown (flying_to u (with_exn thr tgt o fs)) ≡ first_thrown (flying_to u fs)
first_there u thr tgt None fs other = refl
first_there u thr tgt (Some x) fs other = ap (λ b. first_thrown (cond b (record { thrower = thr; target = tgt; exn = x } ∷ flying_to u fs) (flying_to u fs))) (ne_eqb tgt u (other refl))

first_found : (ts : List Throw) (u i : ℕ) → IsLive ts i → (throw_at ts i).target ≡ u → ((k : ℕ) → k < i → IsLive ts k → (throw_at ts k).target ≢ u) → first_thrown (flying_to u (flying ts)) ≡ answer_of (throw_at ts i).thrower (throw_at ts i).exn
first_found [] u i l e before = let no : ⊥ = cc in absurd no
first_found (x ∷ xs) u zero l e before = first_here u x.thrower x.target x.exn (flying xs) l e
first_found (x ∷ xs) u (suc i) l e before =
    first_there u x.thrower x.target x.exn (flying xs) (before 0 (omega arith)) ∙ first_found xs u i l e (λ k lt. before (suc k) (omega (arith, lt)))

pub first_flying : (ts : List Throw) (u i : ℕ) (e : Exn) → IsFirst ts u i → (throw_at ts i).exn ≡ Some e → first_thrown (flying_to u (flying ts)) ≡ Some ((throw_at ts i).thrower, e)
first_flying ts u i e h x = first_found ts u i h.live h.target h.before ∙ ap (answer_of (throw_at ts i).thrower) x

pub none_flying : (ts : List Throw) (u : ℕ) → NoneTo ts u → first_thrown (flying_to u (flying ts)) ≡ None
none_flying [] u h = refl
none_flying (x ∷ xs) u h = first_there u x.thrower x.target x.exn (flying xs) (h 0) ∙ none_flying xs u (λ k. h (suc k))

-- What the marks of a run look like, and what follows of the counts.
use Rattle.std.proofs.Common.{◌≡◌, ◌≢◌, ℕ, suc, ◌+◌, ◌<◌, ◌≤◌, ◌==◌, List, [], ◌∷◌, Bool, true, false, cond, refl, sym, ap, ◌∙◌, subst, arith, ⊎_elim}
use Rattle.hs_rules.specs.State.{Mark, AcquiredBy, ReleasedBy}
use Rattle.hs_laws.specs.BracketLaw.{without, mine, acquired, acquired_by, released, released_by, count, Numbered}
use Rattle.hs_laws.proofs.Lists.{cond_cases, cond_true, cond_false, equal_or}

-- Each acquired number is above the earlier ones, and each released one was its thread's last.
abbrev pub Proper : List Mark → Type 0
Proper [] = Unit {0}
Proper (AcquiredBy i t ∷ ms) = Numbered i ms × Proper ms
Proper (ReleasedBy i t ∷ ms) = (rest : List ℕ) × (mine t ms ≡ i ∷ rest) × Proper ms

pub numbered_more : (n k : ℕ) (ms : List Mark) → n ≤ k → Numbered n ms → Numbered k ms
numbered_more n k [] le h = tt
numbered_more n k (AcquiredBy i t ∷ ms) le h = (omega (arith, h.0), numbered_more n k ms le h.1)
numbered_more n k (ReleasedBy i t ∷ ms) le h = (omega (arith, h.0), numbered_more n k ms le h.1)

-- ---- the open instances after a mark
pub mine_acquired : (t i : ℕ) (ms : List Mark) → mine t (AcquiredBy i t ∷ ms) ≡ i ∷ mine t ms
mine_acquired t i ms = ⊎_elim (λ e. cond_true (t == t) (i ∷ mine t ms) (mine t ms) e.0) (λ e. absurd (e.1 refl)) (equal_or t t)

pub mine_acquired_other : (t u i : ℕ) (ms : List Mark) → u ≢ t → mine u (AcquiredBy i t ∷ ms) ≡ mine u ms
mine_acquired_other t u i ms n = ⊎_elim (λ e. absurd (n e.1)) (λ e. cond_false (u == t) (i ∷ mine u ms) (mine u ms) e.0) (equal_or u t)

without_first : (i : ℕ) (js : List ℕ) → without i (i ∷ js) ≡ js
without_first i js = ⊎_elim (λ e. cond_true (i == i) js (i ∷ without i js) e.0) (λ e. absurd (e.1 refl)) (equal_or i i)

pub mine_released : (t i : ℕ) (ms : List Mark) (rest : List ℕ) → mine t ms ≡ i ∷ rest → mine t (ReleasedBy i t ∷ ms) ≡ rest
mine_released t i ms rest h =
    ⊎_elim
    (λ e. cond_true (t == t) (without i (mine t ms)) (mine t ms) e.0 ∙ (ap (without i) h ∙ without_first i rest))
    (λ e. absurd (e.1 refl))
    (equal_or t t)

pub mine_released_other : (t u i : ℕ) (ms : List Mark) → u ≢ t → mine u (ReleasedBy i t ∷ ms) ≡ mine u ms
mine_released_other t u i ms n = ⊎_elim (λ e. absurd (n e.1)) (λ e. cond_false (u == t) (without i (mine u ms)) (mine u ms) e.0) (equal_or u t)

-- ---- counts
never : (i : ℕ) (ms : List Mark) → Numbered i ms → acquired i ms ≡ 0
never i [] h = refl
never i (AcquiredBy j u ∷ ms) h = ⊎_elim (λ e. absurd (omega (arith, e.1, h.0))) (λ e. cond_false (i == j) (suc (acquired i ms)) (acquired i ms) e.0 ∙ never i ms h.1) (equal_or i j)
never i (ReleasedBy j u ∷ ms) h = never i ms h.1

pub once_acquired : (i : ℕ) (ms : List Mark) → Proper ms → acquired i ms ≤ 1
once_acquired i [] h = omega arith
once_acquired i (AcquiredBy j u ∷ ms) h =
    ⊎_elim
    (λ e.
    let z : acquired i ms ≡ 0 = never i ms (subst (λ k. Numbered k ms) (sym e.1) h.0) in
    subst (λ k. k ≤ 1) (sym (cond_true (i == j) (suc (acquired i ms)) (acquired i ms) e.0)) (omega (arith, z)))
    (λ e. subst (λ k. k ≤ 1) (sym (cond_false (i == j) (suc (acquired i ms)) (acquired i ms) e.0)) (once_acquired i ms h.1))
    (equal_or i j)
once_acquired i (ReleasedBy j u ∷ ms) h = once_acquired i ms h.2

count_first : (i j : ℕ) (js : List ℕ) → i == j ≡ true → count i (j ∷ js) ≡ suc (count i js)
count_first i j js e = cond_true (i == j) (suc (count i js)) (count i js) e

count_other : (i j : ℕ) (js : List ℕ) → i == j ≡ false → count i (j ∷ js) ≡ count i js
count_other i j js e = cond_false (i == j) (suc (count i js)) (count i js) e

balance_acquired : (p q : Bool) (i j : ℕ) (js : List ℕ) (r a : ℕ) → i == j ≡ q → count i js + r ≡ a → count i (cond p (j ∷ js) js) + r ≡ cond q (cond p (suc a) a) a
balance_acquired false false i j js r a e h = h
balance_acquired false true i j js r a e h = h
balance_acquired true false i j js r a e h = omega (arith, count_other i j js e)
balance_acquired true true i j js r a e h = omega (arith, count_first i j js e)

balance_released : (q b : Bool) (i j : ℕ) (rest : List ℕ) (r a : ℕ) → i == j ≡ q → b ≡ true → count i (j ∷ rest) + r ≡ a → count i rest + cond q (cond b (suc r) r) r ≡ a
balance_released q false i j rest r a e f h = absurd (cc f)
balance_released false true i j rest r a e f h = omega (arith, count_other i j rest e)
balance_released true true i j rest r a e f h = omega (arith, count_first i j rest e)

balance_other : (q b : Bool) (c r a : ℕ) → b ≡ false → c + r ≡ a → c + cond q (cond b (suc r) r) r ≡ a
balance_other q true c r a f h = absurd (cc f)
balance_other false false c r a f h = h
balance_other true false c r a f h = h

-- a thread's open instances are those acquired and not released
pub balance : (i t : ℕ) (ms : List Mark) → Proper ms → count i (mine t ms) + released_by i t ms ≡ acquired_by i t ms
balance i t [] h = refl
balance i t (AcquiredBy j u ∷ ms) h = balance_acquired (t == u) (i == j) i j (mine t ms) (released_by i t ms) (acquired_by i t ms) refl (balance i t ms h.1)
balance i t (ReleasedBy j u ∷ ms) h =
    ⊎_elim
    (λ e.
    let m : mine t ms ≡ j ∷ h.0 = ap (λ v. mine v ms) e.1 ∙ h.1 in
    let n : mine t (ReleasedBy j u ∷ ms) ≡ h.0 = ap (λ v. mine t (ReleasedBy j v ∷ ms)) (sym e.1) ∙ mine_released t j ms h.0 m in
    subst (λ js. count i js + released_by i t (ReleasedBy j u ∷ ms) ≡ acquired_by i t ms) (sym n)
    (balance_released (i == j) (t == u) i j h.0 (released_by i t ms) (acquired_by i t ms) refl e.0 (subst (λ js. count i js + released_by i t ms ≡ acquired_by i t ms) m (balance i t ms h.2))))
    (λ e.
    subst (λ js. count i js + released_by i t (ReleasedBy j u ∷ ms) ≡ acquired_by i t ms) (sym (mine_released_other u t j ms e.1))
    (balance_other (i == j) (t == u) (count i (mine t ms)) (released_by i t ms) (acquired_by i t ms) e.0 (balance i t ms h.2)))
    (equal_or t u)

pub own_release : (i t : ℕ) (ms : List Mark) → Proper ms → released_by i t ms ≤ acquired_by i t ms
own_release i t ms h = omega (arith, balance i t ms h)

pub all_released : (i t : ℕ) (ms : List Mark) → Proper ms → mine t ms ≡ [] → released_by i t ms ≡ acquired_by i t ms
all_released i t ms h e = let b : 0 + released_by i t ms ≡ acquired_by i t ms = subst (λ js. count i js + released_by i t ms ≡ acquired_by i t ms) e (balance i t ms h) in omega arith

-- two threads' acquisitions are two
apart_acquired : (q p s : Bool) (a b c : ℕ) → (p ≡ true → s ≡ true → ⊥) → a + b ≤ c → cond q (cond p (suc a) a) a + cond q (cond s (suc b) b) b ≤ cond q (suc c) c
apart_acquired false p s a b c n h = h
apart_acquired true false false a b c n h = omega arith
apart_acquired true false true a b c n h = omega arith
apart_acquired true true false a b c n h = omega arith
apart_acquired true true true a b c n h = absurd (n refl refl)

both : (t u v : ℕ) → t ≢ u → t == v ≡ true → u == v ≡ true → ⊥
both t u v n e f = ⊎_elim (λ g. ⊎_elim (λ h. n (g.1 ∙ sym h.1)) (λ h. let b : true ≡ false = sym f ∙ h.0 in cc b) (equal_or u v)) (λ g. let b : true ≡ false = sym e ∙ g.0 in cc b) (equal_or t v)

apart : (i t u : ℕ) (ms : List Mark) → t ≢ u → acquired_by i t ms + acquired_by i u ms ≤ acquired i ms
apart i t u [] n = omega arith
apart i t u (AcquiredBy j v ∷ ms) n = apart_acquired (i == j) (t == v) (u == v) (acquired_by i t ms) (acquired_by i u ms) (acquired i ms) (both t u v n) (apart i t u ms n)
apart i t u (ReleasedBy j v ∷ ms) n = apart i t u ms n

open_acquired : (p q : Bool) (i j : ℕ) (js : List ℕ) (r c : ℕ) → i == j ≡ q → r + count i js ≤ c → r + count i (cond p (j ∷ js) js) ≤ cond q (suc c) c
open_acquired false false i j js r c e h = h
open_acquired false true i j js r c e h = omega arith
open_acquired true false i j js r c e h = omega (arith, count_other i j js e)
open_acquired true true i j js r c e h = omega (arith, count_first i j js e)

open_released : (q : Bool) (i j : ℕ) (rest : List ℕ) (r c : ℕ) → i == j ≡ q → r + count i (j ∷ rest) ≤ c → cond q (suc r) r + count i rest ≤ c
open_released false i j rest r c e h = omega (arith, count_other i j rest e)
open_released true i j rest r c e h = omega (arith, count_first i j rest e)

open_other : (q : Bool) (r n c : ℕ) → r + n ≤ c → (q ≡ true → suc r + n ≤ c) → cond q (suc r) r + n ≤ c
open_other false r n c h g = h
open_other true r n c h g = g refl

-- what was released is open nowhere
open_or_released : (i t : ℕ) (ms : List Mark) → Proper ms → released i ms + count i (mine t ms) ≤ acquired i ms
open_or_released i t [] h = omega arith
open_or_released i t (AcquiredBy j u ∷ ms) h = open_acquired (t == u) (i == j) i j (mine t ms) (released i ms) (acquired i ms) refl (open_or_released i t ms h.1)
open_or_released i t (ReleasedBy j u ∷ ms) h =
    ⊎_elim
    (λ e.
    let m : mine t ms ≡ j ∷ h.0 = ap (λ v. mine v ms) e.1 ∙ h.1 in
    let n : mine t (ReleasedBy j u ∷ ms) ≡ h.0 = ap (λ v. mine t (ReleasedBy j v ∷ ms)) (sym e.1) ∙ mine_released t j ms h.0 m in
    subst (λ js. released i (ReleasedBy j u ∷ ms) + count i js ≤ acquired i ms) (sym n)
    (open_released (i == j) i j h.0 (released i ms) (acquired i ms) refl (subst (λ js. released i ms + count i js ≤ acquired i ms) m (open_or_released i t ms h.2))))
    (λ e.
    subst (λ js. released i (ReleasedBy j u ∷ ms) + count i js ≤ acquired i ms) (sym (mine_released_other u t j ms e.1))
    (open_other (i == j) (released i ms) (count i (mine t ms)) (acquired i ms) (open_or_released i t ms h.2) (λ q.
    let x : released i ms + count i (j ∷ h.0) ≤ acquired i ms = subst (λ js. released i ms + count i js ≤ acquired i ms) h.1 (open_or_released i u ms h.2) in
    let y : count i (j ∷ h.0) + released_by i u ms ≡ acquired_by i u ms = subst (λ js. count i js + released_by i u ms ≡ acquired_by i u ms) h.1 (balance i u ms h.2) in
    let z = apart i t u ms e.1 in
    let b = balance i t ms h.2 in
    let c = count_first i j h.0 q in
    let o = once_acquired i ms h.2 in omega arith)))
    (equal_or t u)

pub once_released : (i : ℕ) (ms : List Mark) → Proper ms → released i ms ≤ 1
once_released i ms h = omega (arith, open_or_released i 0 ms h, once_acquired i ms h)

-- ---- open instances are below the next number
abbrev pub AllBelow : ℕ → List ℕ → Type 0
AllBelow n [] = Unit {0}
AllBelow n (j ∷ js) = (j < n) × AllBelow n js

below_without : (n i : ℕ) (js : List ℕ) → AllBelow n js → AllBelow n (without i js)
below_without n i [] h = tt
below_without n i (j ∷ js) h = cond_cases (AllBelow n) (i == j) js (j ∷ without i js) (λ e. h.1) (λ e. (h.0, below_without n i js h.1))

pub mine_below : (n t : ℕ) (ms : List Mark) → Numbered n ms → AllBelow n (mine t ms)
mine_below n t [] h = tt
mine_below n t (AcquiredBy i u ∷ ms) h = cond_cases (AllBelow n) (t == u) (i ∷ mine t ms) (mine t ms) (λ e. (h.0, mine_below n t ms h.1)) (λ e. mine_below n t ms h.1)
mine_below n t (ReleasedBy i u ∷ ms) h = cond_cases (AllBelow n) (t == u) (without i (mine t ms)) (mine t ms) (λ e. below_without n i (mine t ms) (mine_below n t ms h.1)) (λ e. mine_below n t ms h.1)

-- ---- no open instance stands twice
cond_le : (q p : Bool) (a c : ℕ) → a ≤ c → cond q (cond p (suc a) a) a ≤ cond q (suc c) c
cond_le false p a c h = h
cond_le true false a c h = omega arith
cond_le true true a c h = omega arith

acquired_least : (i t : ℕ) (ms : List Mark) → acquired_by i t ms ≤ acquired i ms
acquired_least i t [] = omega arith
acquired_least i t (AcquiredBy j u ∷ ms) = cond_le (i == j) (t == u) (acquired_by i t ms) (acquired i ms) (acquired_least i t ms)
acquired_least i t (ReleasedBy j u ∷ ms) = acquired_least i t ms

pub open_once : (i t : ℕ) (ms : List Mark) → Proper ms → count i (mine t ms) ≤ 1
open_once i t ms h = omega (arith, balance i t ms h, acquired_least i t ms, once_acquired i ms h)

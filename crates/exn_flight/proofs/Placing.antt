-- Sleepers by place: one is added, or leaves.
use Rattle.std.proofs.Common.{◌≡◌, ◌≢◌, ℕ, zero, suc, ◌<◌, ◌≤◌, ◌+◌, ◌-◌, ◌==◌, true, false, cond, List, [], ◌∷◌, ◌++◌, length, take, Option, Some, None, refl, ap, sym, ◌∙◌, arith, eq-eqb, set, inl, inr}
use Rattle.std.proofs.lemmas.Bool.{cases_eq, ne_eqb, both_ways}
use Rattle.std.proofs.lemmas.List.{get_or-set_same, get_or-set_other, length-set, take_more}
use Rattle.rules_waiting.specs.Waiting.{Sleeper, sleeper_before, sleeper_added, sorted_sleepers, still_asleep, is_sleeping}
use Rattle.exn_flight.specs.Asleep.{with_sleeper, sleepers_at, ArePlaced}
use Rattle.exn_flight.specs.Numbered.{AreDistinct}
use Rattle.exn_flight.specs.Tables.{IsPut}
use Rattle.exn_flight.specs.Tournaments.{node, first_of, best}
use Rattle.exn_flight.proofs.Numbers.{without_absent}
use Rattle.exn_flight.proofs.Growing.{not_none, same_some, put_here, put_there}
use Rattle.exn_flight.proofs.Order.{head}

one_sleeper : (a b : Sleeper) → Some a ≡ Some b → a ≡ b
one_sleeper a b h = cc

pub node_within : (os : List (Option Sleeper)) (k : ℕ) (s : Sleeper) → node os k ≡ Some s → k < length os
node_within [] k s h = let no : ⊥ = cc in absurd no
node_within (o ∷ os) zero s h = omega arith
node_within (o ∷ os) (suc k) s h = omega (arith, node_within os k s h)

-- ---- one is added behind all others
with_sleeper_append : (o : Option Sleeper) (ss rs : List Sleeper) → with_sleeper o (ss ++ rs) ≡ with_sleeper o ss ++ rs
with_sleeper_append None ss rs = refl
with_sleeper_append (Some s) ss rs = refl

pub nobody : (os : List (Option Sleeper)) → ((k : ℕ) → node os k ≡ None) → sleepers_at os ≡ []
nobody [] h = refl
nobody (o ∷ os) h = ap (λ x. with_sleeper x (sleepers_at os)) (h 0) ∙ nobody os (λ k. h (suc k))

pub added_behind : (os : List (Option Sleeper)) (i : ℕ) (s : Sleeper) → i < length os → ((k : ℕ) → i ≤ k → node os k ≡ None) → sleepers_at (set os i (Some s)) ≡ sleepers_at os ++ s ∷ []
added_behind [] i s lt h = let no : ⊥ = omega arith in absurd no
added_behind (o ∷ os) zero s lt h =
    ap (λ xs. s ∷ xs) (nobody os (λ k. h (suc k) (omega arith))) ∙ sym (ap (λ xs. xs ++ s ∷ []) (nobody (o ∷ os) (λ k. h k (omega arith))))
added_behind (o ∷ os) (suc i) s lt h =
    ap (with_sleeper o) (added_behind os i s (omega arith) (λ k le. h (suc k) (omega (arith, le)))) ∙ with_sleeper_append o (sleepers_at os) (s ∷ [])

-- one place more of a list that is gone over
pub sleepers_append : (os rs : List (Option Sleeper)) → sleepers_at (os ++ rs) ≡ sleepers_at os ++ sleepers_at rs
sleepers_append [] rs = refl
sleepers_append (o ∷ os) rs = ap (with_sleeper o) (sleepers_append os rs) ∙ with_sleeper_append o (sleepers_at os) (sleepers_at rs)

pub sleepers_more : (os : List (Option Sleeper)) (i : ℕ) → i < length os → sleepers_at (take (i + 1) os) ≡ sleepers_at (take i os) ++ with_sleeper (node os i) []
sleepers_more os i lt = ap sleepers_at (take_more os i None lt) ∙ sleepers_append (take i os) (node os i ∷ [])

-- ---- who sleeps
abbrev pub NoneIs : List (Option Sleeper) → ℕ → Type 0
NoneIs os t = (k : ℕ) (s : Sleeper) → node os k ≡ Some s → s.thread ≢ t

asleep_other : (t : ℕ) (o : Option Sleeper) (ss : List Sleeper) → ((s : Sleeper) → o ≡ Some s → s.thread ≢ t) → is_sleeping t ss ≡ false → is_sleeping t (with_sleeper o ss) ≡ false
asleep_other t None ss other h = h
asleep_other t (Some s) ss other h = ap (λ b. cond b true (is_sleeping t ss)) (ne_eqb s.thread t (other s refl)) ∙ h

pub asleep_none : (os : List (Option Sleeper)) (t : ℕ) → NoneIs os t → is_sleeping t (sleepers_at os) ≡ false
asleep_none [] t h = refl
asleep_none (o ∷ os) t h = asleep_other t o (sleepers_at os) (h 0) (asleep_none os t (λ k. h (suc k)))

asleep_here : (t : ℕ) (o : Option Sleeper) (s : Sleeper) (ss : List Sleeper) → o ≡ Some s → s.thread ≡ t → is_sleeping t (with_sleeper o ss) ≡ true
asleep_here t None s ss e q = let no : ⊥ = cc in absurd no
asleep_here t (Some r) s ss e q = ap (λ b. cond b true (is_sleeping t ss)) (eq-eqb r.thread t (ap (λ (x : Sleeper). x.thread) (one_sleeper r s e) ∙ q))

asleep_more : (t : ℕ) (o : Option Sleeper) (ss : List Sleeper) → is_sleeping t ss ≡ true → is_sleeping t (with_sleeper o ss) ≡ true
asleep_more t None ss h = h
asleep_more t (Some r) ss h = elim (r.thread == t) as (λ b. cond b true (is_sleeping t ss) ≡ true) [ true ↦ refl | false ↦ h ]

pub asleep_at : (os : List (Option Sleeper)) (t k : ℕ) (s : Sleeper) → node os k ≡ Some s → s.thread ≡ t → is_sleeping t (sleepers_at os) ≡ true
asleep_at [] t k s e q = let no : ⊥ = cc in absurd no
asleep_at (o ∷ os) t zero s e q = asleep_here t o s (sleepers_at os) e q
asleep_at (o ∷ os) t (suc k) s e q = asleep_more t o (sleepers_at os) (asleep_at os t k s e q)

-- ---- one leaves
abbrev pub OnlyIs : List (Option Sleeper) → ℕ → ℕ → Type 0
OnlyIs os t p = (k : ℕ) (s : Sleeper) → node os k ≡ Some s → s.thread ≡ t → k ≡ p

left_here : (t : ℕ) (o : Option Sleeper) (ss : List Sleeper) → ((s : Sleeper) → o ≡ Some s → s.thread ≡ t) → still_asleep t (with_sleeper o ss) ≡ still_asleep t ss
left_here t None ss h = refl
left_here t (Some r) ss h = ap (λ b. cond b (still_asleep t ss) (r ∷ still_asleep t ss)) (eq-eqb r.thread t (h r refl))

left_there : (t : ℕ) (o : Option Sleeper) (ss : List Sleeper) → ((s : Sleeper) → o ≡ Some s → s.thread ≢ t) → still_asleep t (with_sleeper o ss) ≡ with_sleeper o (still_asleep t ss)
left_there t None ss h = refl
left_there t (Some r) ss h = ap (λ b. cond b (still_asleep t ss) (r ∷ still_asleep t ss)) (ne_eqb r.thread t (h r refl))

pub left_from : (os : List (Option Sleeper)) (t p : ℕ) (r : Sleeper) → node os p ≡ Some r → r.thread ≡ t → OnlyIs os t p → sleepers_at (set os p None) ≡ still_asleep t (sleepers_at os)
left_from [] t p r e q only = refl
left_from (o ∷ os) t zero r e q only =
    let none : NoneIs os t = λ k s f z. (let w : suc k ≡ 0 = only (suc k) s f z in let no : ⊥ = omega (arith, w) in no) in
    sym (left_here t o (sleepers_at os) (λ s f. ap (λ (x : Sleeper). x.thread) (one_sleeper s r (sym f ∙ e)) ∙ q) ∙ without_absent (λ (s : Sleeper). s.thread) t (sleepers_at os) (asleep_none os t none))
left_from (o ∷ os) t (suc p) r e q only =
    let later : OnlyIs os t p = λ k s f z. (let w : suc k ≡ suc p = only (suc k) s f z in omega (arith, w)) in
    ap (with_sleeper o) (left_from os t p r e q later) ∙ sym (left_there t o (sleepers_at os) (λ s f z. (let w : 0 ≡ suc p = only 0 s f z in let no : ⊥ = omega (arith, w) in no)))

-- ---- no thread sleeps twice
abbrev pub Once : List (Option Sleeper) → Type 0
Once os = (j k : ℕ) (s r : Sleeper) → node os j ≡ Some s → node os k ≡ Some r → s.thread ≡ r.thread → j ≡ k

distinct_with : (o : Option Sleeper) (ss : List Sleeper) → ((s : Sleeper) → o ≡ Some s → is_sleeping s.thread ss ≡ false) → AreDistinct (λ (s : Sleeper). s.thread) ss → AreDistinct (λ (s : Sleeper). s.thread) (with_sleeper o ss)
distinct_with None ss h d = d
distinct_with (Some s) ss h d = (h s refl, d)

pub distinct_once : (os : List (Option Sleeper)) → Once os → AreDistinct (λ (s : Sleeper). s.thread) (sleepers_at os)
distinct_once [] h = tt
distinct_once (o ∷ os) h =
    distinct_with o (sleepers_at os)
    (λ s e. asleep_none os s.thread (λ k r f z. (let w : 0 ≡ suc k = h 0 (suc k) s r e f (sym z) in let no : ⊥ = omega (arith, w) in no)))
    (distinct_once os (λ j k s r e f z. (let w : suc j ≡ suc k = h (suc j) (suc k) s r e f z in omega (arith, w))))

pub once_placed : (os : List (Option Sleeper)) (free : ℕ) (f : ℕ → Option ℕ) → ArePlaced os free f → Once os
once_placed os free f a j k s r e q z = same_some j k (sym (a.sleeper j s e) ∙ ap f z ∙ a.sleeper k r q)

pub only_placed : (os : List (Option Sleeper)) (free : ℕ) (f : ℕ → Option ℕ) (t p : ℕ) → ArePlaced os free f → f t ≡ Some p → OnlyIs os t p
only_placed os free f t p a h k s e z = same_some k p (sym (a.sleeper k s e) ∙ ap f z ∙ h)

pub none_placed : (os : List (Option Sleeper)) (free : ℕ) (f : ℕ → Option ℕ) (t : ℕ) → ArePlaced os free f → f t ≡ None → NoneIs os t
none_placed os free f t a h k s e z = not_none (f t) k (ap f (sym z) ∙ a.sleeper k s e) h

-- ---- the table
pub placed_added : (os : List (Option Sleeper)) (free p : ℕ) (f g : ℕ → Option ℕ) (s : Sleeper) → ArePlaced os free f → 1 ≤ free → p ≡ length os - free → is_sleeping s.thread (sleepers_at os) ≡ false → IsPut f g s.thread (Some p) → ArePlaced (set os p (Some s)) (free - 1) g
placed_added os free p f g s a some at alone h =
    let size = length-set os p (Some s) in
    let lt : p < length os = omega (arith, at, some, a.within) in
    let here : node (set os p (Some s)) p ≡ Some s = get_or-set_same os p (Some s) None lt in
    let there : (k : ℕ) → k ≢ p → node (set os p (Some s)) k ≡ node os k = λ k ne. get_or-set_other os p k (Some s) None ne in
    let was : node os p ≡ None = a.vacant p (omega (arith, at)) in
    record {
      within = omega (arith, size, a.within);
      vacant = λ k le. there k (omega (arith, le, size, at, some, a.within)) ∙ a.vacant k (omega (arith, le, size, some));
      place = λ t k e. elim (cases_eq s.thread t) [
        | inl q ↦ (let same : p ≡ k = same_some p k (sym (put_here f g s.thread (Some p) h t q) ∙ e) in
            record { sleeper = s; is = ap (node (set os p (Some s))) (sym same) ∙ here; thread = q })
        | inr ne ↦ (let w = a.place t k (sym (put_there f g s.thread (Some p) h t ne) ∙ e) in
            let other : k ≢ p = λ q. not_none (node os k) w.sleeper w.is (ap (node os) q ∙ was) in
            record { sleeper = w.sleeper; is = there k other ∙ w.is; thread = w.thread })
      ];
      sleeper = λ k r e. elim (cases_eq k p) [
        | inl q ↦ (let same : s ≡ r = one_sleeper s r (sym here ∙ ap (node (set os p (Some s))) (sym q) ∙ e) in
            put_here f g s.thread (Some p) h r.thread (ap (λ (x : Sleeper). x.thread) same) ∙ ap Some (sym q))
        | inr ne ↦ (let w : node os k ≡ Some r = sym (there k ne) ∙ e in
            put_there f g s.thread (Some p) h r.thread (λ q. both_ways (is_sleeping s.thread (sleepers_at os)) alone (asleep_at os s.thread k r w (sym q))) ∙ a.sleeper k r w)
      ];
    }

pub placed_left : (os : List (Option Sleeper)) (free p t : ℕ) (f g : ℕ → Option ℕ) → ArePlaced os free f → f t ≡ Some p → IsPut f g t None → ArePlaced (set os p None) free g
placed_left os free p t f g a found h =
    let size = length-set os p None in
    let at = a.place t p found in
    let lt = node_within os p at.sleeper at.is in
    let here : node (set os p None) p ≡ None = get_or-set_same os p None None lt in
    let there : (k : ℕ) → k ≢ p → node (set os p None) k ≡ node os k = λ k ne. get_or-set_other os p k None None ne in
    record {
      within = omega (arith, size, a.within);
      vacant = λ k le. elim (cases_eq k p) [
        | inl q ↦ ap (node (set os p None)) q ∙ here
        | inr ne ↦ there k ne ∙ a.vacant k (omega (arith, le, size))
      ];
      place = λ u k e. elim (cases_eq t u) [
        | inl q ↦ absurd (not_none (g u) k e (put_here f g t None h u q))
        | inr ne ↦ (let w = a.place u k (sym (put_there f g t None h u ne) ∙ e) in
            let other : k ≢ p = λ q. ne (sym at.thread ∙ ap (λ (x : Sleeper). x.thread) (one_sleeper at.sleeper w.sleeper (sym at.is ∙ ap (node os) (sym q) ∙ w.is)) ∙ w.thread) in
            record { sleeper = w.sleeper; is = there k other ∙ w.is; thread = w.thread })
      ];
      sleeper = λ k r e. elim (cases_eq k p) [
        | inl q ↦ absurd (not_none (node (set os p None) p) r (ap (node (set os p None)) (sym q) ∙ e) here)
        | inr ne ↦ (let w : node os k ≡ Some r = sym (there k ne) ∙ e in
            put_there f g t None h r.thread (λ q. ne (same_some k p (sym (a.sleeper k r w) ∙ ap f (sym q) ∙ found))) ∙ a.sleeper k r w)
      ];
    }

-- ---- who is first
first_of_none : (o : Option Sleeper) → first_of o None ≡ o
first_of_none None = refl
first_of_none (Some s) = refl

head_added : (s : Sleeper) (qs : List Sleeper) → head (sleeper_added s qs) ≡ first_of (head qs) (Some s)
head_added s [] = refl
head_added s (r ∷ rs) = elim (sleeper_before r s) as (λ b. head (cond b (r ∷ sleeper_added s rs) (s ∷ r ∷ rs)) ≡ cond b (Some r) (Some s)) [ true ↦ refl | false ↦ refl ]

best_with : (o : Option Sleeper) (ss : List Sleeper) (b : Option Sleeper) → head (sorted_sleepers ss) ≡ b → head (sorted_sleepers (with_sleeper o ss)) ≡ first_of b o
best_with None ss b h = h ∙ sym (first_of_none b)
best_with (Some s) ss b h = head_added s (sorted_sleepers ss) ∙ ap (λ x. first_of x (Some s)) h

pub head_sorted : (os : List (Option Sleeper)) → head (sorted_sleepers (sleepers_at os)) ≡ best os
head_sorted [] = refl
head_sorted (o ∷ os) = best_with o (sleepers_at os) (best os) (head_sorted os)

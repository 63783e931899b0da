-- Sleepers in order.
use Rattle.std.proofs.Common.{◌≡◌, ℕ, ◌<◌, ◌≤◌, ◌==◌, nat_le, Bool, true, false, cond, List, [], ◌∷◌, Option, Some, None, refl, ap, ◌∙◌, arith}
use Rattle.std.proofs.lemmas.Bool.{lt-leb, le-leb, both_ways}
use Rattle.plain_laws.proofs.Booleans.{both_false}
use Rattle.rules_waiting.specs.Waiting.{Sleeper, sleeper_before, sleeper_added, sorted_sleepers, is_sleeping, first_awake, earliest}
use Rattle.exn_flight.specs.Numbered.{AreDistinct}
use Rattle.exn_flight.specs.Asleep.{IsBeforeAll, AreInOrder}

pub before_trans : (a b c : Sleeper) → sleeper_before a b ≡ true → sleeper_before b c ≡ true → sleeper_before a c ≡ true
before_trans a b c p q = grind arith

pub before_total : (a b : Sleeper) → sleeper_before a b ≡ false → a.thread == b.thread ≡ false → sleeper_before b a ≡ true
before_total a b p q = grind arith

pub before_due : (a b : Sleeper) → sleeper_before a b ≡ true → a.due ≤ b.due
before_due a b p = grind arith

all_before : (a b : Sleeper) (ss : List Sleeper) → sleeper_before a b ≡ true → IsBeforeAll b ss → IsBeforeAll a ss
all_before a b [] p h = tt
all_before a b (s ∷ ss) p h = (before_trans a b s p h.0, all_before a b ss p h.1)

-- ---- a new sleeper
all_added : (r s : Sleeper) (ss : List Sleeper) → sleeper_before r s ≡ true → IsBeforeAll r ss → IsBeforeAll r (sleeper_added s ss)
all_added r s [] p h = (p, tt)
all_added r s (x ∷ xs) p h =
    elim (sleeper_before x s) as (λ b. IsBeforeAll r (cond b (x ∷ sleeper_added s xs) (s ∷ x ∷ xs))) [ true ↦ (h.0, all_added r s xs p h.1) | false ↦ (p, h) ]

order_added : (s : Sleeper) (ss : List Sleeper) → is_sleeping s.thread ss ≡ false → AreInOrder ss → AreInOrder (sleeper_added s ss)
order_added s [] alone h = (tt, tt)
order_added s (x ∷ xs) alone h =
    let w = both_false (x.thread == s.thread) (is_sleeping s.thread xs) alone in
    let rest = order_added s xs w.1 h.1 in
    elim (sleeper_before x s) as (λ b. sleeper_before x s ≡ b → AreInOrder (cond b (x ∷ sleeper_added s xs) (s ∷ x ∷ xs))) [
      | true ↦ λ e. (all_added x s xs e h.0, rest)
      | false ↦ λ e. (let f = before_total x s e w.0 in (((f, all_before s x xs f h.0), h)))
    ] refl

has_added : (n : ℕ) (s : Sleeper) (ss : List Sleeper) → is_sleeping n ss ≡ false → s.thread == n ≡ false → is_sleeping n (sleeper_added s ss) ≡ false
has_added n s [] h e = ap (λ b. cond b true false) e
has_added n s (x ∷ xs) h e =
    let w = both_false (x.thread == n) (is_sleeping n xs) h in
    let rest = has_added n s xs w.1 e in
    elim (sleeper_before x s) as (λ b. is_sleeping n (cond b (x ∷ sleeper_added s xs) (s ∷ x ∷ xs)) ≡ false) [
      | true ↦ ap (λ b. cond b true (is_sleeping n (sleeper_added s xs))) w.0 ∙ rest
      | false ↦ ap (λ b. cond b true (cond (x.thread == n) true (is_sleeping n xs))) e ∙ h
    ]

-- ---- put in order one by one
pub has_sorted : (n : ℕ) (ss : List Sleeper) → is_sleeping n ss ≡ false → is_sleeping n (sorted_sleepers ss) ≡ false
has_sorted n [] h = refl
has_sorted n (s ∷ ss) h =
    let w = both_false (s.thread == n) (is_sleeping n ss) h in
    has_added n s (sorted_sleepers ss) (has_sorted n ss w.1) w.0

has_taken : (n : ℕ) (s : Sleeper) (ss : List Sleeper) → is_sleeping n (sleeper_added s ss) ≡ false → (s.thread == n ≡ false) × (is_sleeping n ss ≡ false)
has_taken n s [] h = ((both_false (s.thread == n) false h).0, refl)
has_taken n s (x ∷ xs) h =
    elim (sleeper_before x s) as (λ b. is_sleeping n (cond b (x ∷ sleeper_added s xs) (s ∷ x ∷ xs)) ≡ false → (s.thread == n ≡ false) × (is_sleeping n (x ∷ xs) ≡ false)) [
      | true ↦ λ g. (let w = both_false (x.thread == n) (is_sleeping n (sleeper_added s xs)) g in let r = has_taken n s xs w.1 in (r.0, ap (λ b. cond b true (is_sleeping n xs)) w.0 ∙ r.1))
      | false ↦ λ g. both_false (s.thread == n) (is_sleeping n (x ∷ xs)) g
    ] h

pub has_unsorted : (n : ℕ) (ss : List Sleeper) → is_sleeping n (sorted_sleepers ss) ≡ false → is_sleeping n ss ≡ false
has_unsorted n [] h = refl
has_unsorted n (s ∷ ss) h =
    let w = has_taken n s (sorted_sleepers ss) h in
    ap (λ b. cond b true (is_sleeping n ss)) w.0 ∙ has_unsorted n ss w.1

has_both : (n : ℕ) (ss : List Sleeper) (b : Bool) → is_sleeping n (sorted_sleepers ss) ≡ b → is_sleeping n ss ≡ true → b ≡ true
has_both n ss true e h = refl
has_both n ss false e h = absurd (both_ways (is_sleeping n ss) (has_unsorted n ss e) h)

pub still_sorted : (n : ℕ) (ss : List Sleeper) → is_sleeping n ss ≡ true → is_sleeping n (sorted_sleepers ss) ≡ true
still_sorted n ss h = has_both n ss (is_sleeping n (sorted_sleepers ss)) refl h

pub sorted_in_order : (ss : List Sleeper) → AreDistinct (λ (s : Sleeper). s.thread) ss → AreInOrder (sorted_sleepers ss)
sorted_in_order [] d = tt
sorted_in_order (s ∷ ss) d = order_added s (sorted_sleepers ss) (has_sorted s.thread ss d.0) (sorted_in_order ss d.1)

-- ---- the first due
none_awake_behind : (now : ℕ) (s : Sleeper) (ss : List Sleeper) → now < s.due → IsBeforeAll s ss → first_awake now ss ≡ None
none_awake_behind now s [] lt h = refl
none_awake_behind now s (r ∷ rs) lt h =
    let late : nat_le r.due now ≡ false = grind (arith, before_due s r h.0) in
    ap (λ b. cond b (Some r.thread) (first_awake now rs)) late ∙ none_awake_behind now s rs lt h.1

-- the first of a list
abbrev pub head : List Sleeper → Option Sleeper
head [] = None
head (s ∷ ss) = Some s

pub none_awake : (now : ℕ) (ss : List Sleeper) (s : Sleeper) → head ss ≡ Some s → now < s.due → AreInOrder ss → first_awake now ss ≡ None
none_awake now [] s e lt h = refl
none_awake now (r ∷ rs) s e lt h =
    let same : r ≡ s = cc in
    let due : r.due ≡ s.due = ap (λ (x : Sleeper). x.due) same in
    let late : nat_le r.due now ≡ false = lt-leb r.due now (omega (arith, lt, due)) in
    ap (λ b. cond b (Some r.thread) (first_awake now rs)) late ∙ none_awake_behind now r rs (omega (arith, lt, due)) h.0

pub one_awake : (now : ℕ) (ss : List Sleeper) (s : Sleeper) → head ss ≡ Some s → s.due ≤ now → first_awake now ss ≡ Some s.thread
one_awake now [] s e le = let no : ⊥ = cc in absurd no
one_awake now (r ∷ rs) s e le =
    let same : r ≡ s = cc in
    let due : r.due ≡ s.due = ap (λ (x : Sleeper). x.due) same in
    ap (λ b. cond b (Some r.thread) (first_awake now rs)) (le-leb r.due now (omega (arith, le, due))) ∙ ap (λ (x : Sleeper). Some x.thread) same

pub none_asleep : (now : ℕ) (ss : List Sleeper) → head ss ≡ None → first_awake now ss ≡ None
none_asleep now [] e = refl
none_asleep now (r ∷ rs) e = let no : ⊥ = cc in absurd no

pub earliest_head : (ss : List Sleeper) (s : Sleeper) → head ss ≡ Some s → earliest ss ≡ Some s.due
earliest_head [] s e = let no : ⊥ = cc in absurd no
earliest_head (r ∷ rs) s e = let same : r ≡ s = cc in ap (λ (x : Sleeper). Some x.due) same

pub earliest_none : (ss : List Sleeper) → head ss ≡ None → earliest ss ≡ None
earliest_none [] e = refl
earliest_none (r ∷ rs) e = let no : ⊥ = cc in absurd no

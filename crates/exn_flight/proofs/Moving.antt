-- The sleepers of one table of places are added to another.
use Rattle.std.proofs.Common.{◌≡◌, ℕ, suc, ◌<◌, ◌≤◌, ◌+◌, true, false, cond, List, [], ◌∷◌, ◌++◌, length, take, drop, Option, Some, None, refl, ap, sym, subst, ◌∙◌, arith}
use Rattle.std.proofs.lemmas.List.{length-append, take-append-drop, append-nil}
use Rattle.rules_waiting.specs.Waiting.{Sleeper, sleeper_before, sleeper_added, sorted_sleepers, is_sleeping}
use Rattle.exn_flight.specs.Asleep.{with_sleeper, sleepers_at}
use Rattle.exn_flight.specs.Numbered.{AreDistinct}
use Rattle.exn_flight.specs.Tournaments.{node}
use Rattle.exn_flight.proofs.Numbers.{distinct_front, distinct_last}
use Rattle.exn_flight.proofs.Sorting.{sorted_append}
use Rattle.exn_flight.proofs.Order.{has_sorted}
use Rattle.exn_flight.proofs.Placing.{sleepers_append, sleepers_more}

length_added : (s : Sleeper) (qs : List Sleeper) → length (sleeper_added s qs) ≡ suc (length qs)
length_added s [] = refl
length_added s (r ∷ rs) =
    elim (sleeper_before r s) as (λ b. length (cond b (r ∷ sleeper_added s rs) (s ∷ r ∷ rs)) ≡ suc (suc (length rs))) [ true ↦ ap suc (length_added s rs) | false ↦ refl ]

pub length_sorted : (ss : List Sleeper) → length (sorted_sleepers ss) ≡ length ss
length_sorted [] = refl
length_sorted (s ∷ ss) = length_added s (sorted_sleepers ss) ∙ ap suc (length_sorted ss)

with_sleeper_length : (o : Option Sleeper) (ss : List Sleeper) → length (with_sleeper o ss) ≤ suc (length ss)
with_sleeper_length None ss = omega arith
with_sleeper_length (Some s) ss = omega arith

pub sleepers_length : (os : List (Option Sleeper)) → length (sleepers_at os) ≤ length os
sleepers_length [] = omega arith
sleepers_length (o ∷ os) = omega (arith, with_sleeper_length o (sleepers_at os), sleepers_length os)

pub one_length : (o : Option Sleeper) → length (with_sleeper o []) ≤ 1
one_length o = omega (arith, with_sleeper_length o [])

pub moved_length : (os : List (Option Sleeper)) (i : ℕ) → i < length os → length (sleepers_at (take (i + 1) os)) ≡ length (sleepers_at (take i os)) + length (with_sleeper (node os i) [])
moved_length os i lt = ap length (sleepers_more os i lt) ∙ length-append (sleepers_at (take i os)) (with_sleeper (node os i) [])

all_of : (os : List (Option Sleeper)) (i : ℕ) → sleepers_at os ≡ sleepers_at (take i os) ++ sleepers_at (drop i os)
all_of os i = ap sleepers_at (sym (take-append-drop i os)) ∙ sleepers_append (take i os) (drop i os)

more_of : (os : List (Option Sleeper)) (i : ℕ) (s : Sleeper) → i < length os → node os i ≡ Some s → sleepers_at (take (i + 1) os) ≡ sleepers_at (take i os) ++ s ∷ []
more_of os i s lt e = sleepers_more os i lt ∙ ap (λ o. sleepers_at (take i os) ++ with_sleeper o []) e

pub moved_awake : (os : List (Option Sleeper)) (i : ℕ) (s : Sleeper) → i < length os → node os i ≡ Some s → AreDistinct (λ (x : Sleeper). x.thread) (sleepers_at os) → is_sleeping s.thread (sorted_sleepers (sleepers_at (take i os))) ≡ false
moved_awake os i s lt e d =
    let number : Sleeper → ℕ = λ (x : Sleeper). x.thread in
    let front : AreDistinct number (sleepers_at (take i os) ++ s ∷ []) = subst (AreDistinct number) (more_of os i s lt e) (distinct_front number (sleepers_at (take (i + 1) os)) (sleepers_at (drop (i + 1) os)) (subst (AreDistinct number) (all_of os (i + 1)) d)) in
    has_sorted s.thread (sleepers_at (take i os)) (distinct_last number (sleepers_at (take i os)) s front)

pub moved_fits : (os : List (Option Sleeper)) (i : ℕ) (s : Sleeper) → i < length os → node os i ≡ Some s → length (sleepers_at (take i os)) + 1 ≤ length (sleepers_at os)
moved_fits os i s lt e =
    omega (arith, ap length (all_of os (i + 1)) ∙ length-append (sleepers_at (take (i + 1) os)) (sleepers_at (drop (i + 1) os)), ap length (more_of os i s lt e) ∙ length-append (sleepers_at (take i os)) (s ∷ []))

pub moved_some : (os : List (Option Sleeper)) (i : ℕ) (s : Sleeper) → i < length os → node os i ≡ Some s → sorted_sleepers (sleepers_at (take (i + 1) os)) ≡ sleeper_added s (sorted_sleepers (sleepers_at (take i os)))
moved_some os i s lt e = ap sorted_sleepers (more_of os i s lt e) ∙ sorted_append (sleepers_at (take i os)) s

pub moved_none : (os : List (Option Sleeper)) (i : ℕ) → i < length os → node os i ≡ None → sleepers_at (take (i + 1) os) ≡ sleepers_at (take i os)
moved_none os i lt e = sleepers_more os i lt ∙ ap (λ o. sleepers_at (take i os) ++ with_sleeper o []) e ∙ append-nil (sleepers_at (take i os))

-- Sleepers without time: all due at 0, so in order of number, in whatever order they stood before.
use Rattle.std.proofs.Common.{◌≡◌, ℕ, ◌==◌, Bool, true, false, cond, List, [], ◌∷◌, Option, Some, None, refl, sym, ap, ◌∙◌}
use Rattle.rules_waiting.specs.Waiting.{Sleeper, sleeper_before, sleeper_added, sorted_sleepers, still_asleep}
use Rattle.exn_flight.specs.Asleep.{due_of}
use Rattle.exn_flight.proofs.Sorting.{added_twice}
use Rattle.exn_flight.proofs.SortedLeaving.{sorted_leaves}
use Rattle.hs_laws.proofs.Lists.{cond_cases}
use Rattle.slot_states.proofs.Asleep as asleep
use Rattle.search_laws.specs.time.WithoutTime.{undue}

abbrev undue_one : Sleeper → Sleeper
undue_one s = record { thread = s.thread; due = 0 }

-- sleepers without time
abbrev pub untimed_all : List Sleeper → List Sleeper
untimed_all ss = sorted_sleepers (undue ss)

undue_twice : (ss : List Sleeper) → undue (undue ss) ≡ undue ss
undue_twice [] = refl
undue_twice (s ∷ ss) = ap (λ rs. undue_one s ∷ rs) (undue_twice ss)

-- ---- one more, and one less
added_by : (b : Bool) (s r : Sleeper) (rs : List Sleeper) → untimed_all (sleeper_added s rs) ≡ sleeper_added (undue_one s) (untimed_all rs) →
    untimed_all (cond b (r ∷ sleeper_added s rs) (s ∷ r ∷ rs)) ≡ sleeper_added (undue_one s) (untimed_all (r ∷ rs))
added_by true s r rs h = ap (sleeper_added (undue_one r)) h ∙ added_twice (undue_one r) (undue_one s) (untimed_all rs)
added_by false s r rs h = refl

added_still : (s : Sleeper) (ss : List Sleeper) → untimed_all (sleeper_added s ss) ≡ sleeper_added (undue_one s) (untimed_all ss)
added_still s [] = refl
added_still s (r ∷ rs) = added_by (sleeper_before r s) s r rs (added_still s rs)

pub sorted_still : (ss : List Sleeper) → untimed_all (sorted_sleepers ss) ≡ untimed_all ss
sorted_still [] = refl
sorted_still (s ∷ ss) = added_still s (sorted_sleepers ss) ∙ ap (sleeper_added (undue_one s)) (sorted_still ss)

pub untimed_twice : (ss : List Sleeper) → untimed_all (untimed_all ss) ≡ untimed_all ss
untimed_twice ss = sorted_still (undue ss) ∙ ap sorted_sleepers (undue_twice ss)

leaves_by : (b : Bool) (t : ℕ) (s : Sleeper) (ss : List Sleeper) → undue (still_asleep t ss) ≡ still_asleep t (undue ss) →
    undue (cond b (still_asleep t ss) (s ∷ still_asleep t ss)) ≡ cond b (still_asleep t (undue ss)) (undue_one s ∷ still_asleep t (undue ss))
leaves_by true t s ss h = h
leaves_by false t s ss h = ap (λ rs. undue_one s ∷ rs) h

undue_leaves : (t : ℕ) (ss : List Sleeper) → undue (still_asleep t ss) ≡ still_asleep t (undue ss)
undue_leaves t [] = refl
undue_leaves t (s ∷ ss) = leaves_by (s.thread == t) t s ss (undue_leaves t ss)

leaves_still : (t : ℕ) (ss : List Sleeper) → untimed_all (still_asleep t ss) ≡ still_asleep t (untimed_all ss)
leaves_still t ss = ap sorted_sleepers (undue_leaves t ss) ∙ sorted_leaves t (undue ss)

-- who leaves sleepers without time leaves the sleepers
pub leave_alike : (t : ℕ) (ss : List Sleeper) → untimed_all (still_asleep t (untimed_all ss)) ≡ untimed_all (still_asleep t ss)
leave_alike t ss = leaves_still t (untimed_all ss) ∙ (ap (still_asleep t) (untimed_twice ss) ∙ sym (leaves_still t ss))

-- who is added to them, due at whatever time, is added to the sleepers, due at any
pub added_alike : (t a b : ℕ) (ss : List Sleeper) → untimed_all (sleeper_added (record { thread = t; due = a }) (untimed_all ss)) ≡ untimed_all (sleeper_added (record { thread = t; due = b }) ss)
added_alike t a b ss =
    added_still (record { thread = t; due = a }) (untimed_all ss)
    ∙ (ap (sleeper_added (record { thread = t; due = 0 })) (untimed_twice ss) ∙ sym (added_still (record { thread = t; due = b }) ss))

-- ---- nobody sleeps
no_undue : (ss : List Sleeper) → undue ss ≡ [] → ss ≡ []
no_undue [] e = refl
no_undue (s ∷ ss) e = absurd (cc e)

pub none_sleeps : (ss : List Sleeper) → untimed_all ss ≡ [] → ss ≡ []
none_sleeps ss e = no_undue ss (asleep.none_sleep (undue ss) e)

-- ---- when a thread may wake
abbrev AllDue : List Sleeper → Type 0
AllDue [] = Unit {0}
AllDue (s ∷ ss) = (s.due ≡ 0) × AllDue ss

due_added : (s : Sleeper) (ss : List Sleeper) → s.due ≡ 0 → AllDue ss → AllDue (sleeper_added s ss)
due_added s [] d h = (d, tt)
due_added s (r ∷ rs) d h = cond_cases AllDue (sleeper_before r s) (r ∷ sleeper_added s rs) (s ∷ r ∷ rs) (λ b. (h.0, due_added s rs d h.1)) (λ b. (d, h))

all_due : (ss : List Sleeper) → AllDue (untimed_all ss)
all_due [] = tt
all_due (s ∷ ss) = due_added (undue_one s) (untimed_all ss) refl (all_due ss)

swapped : (a b : Bool) (u v w : Option ℕ) → u ≡ v → cond a u (cond b v w) ≡ cond b v (cond a u w)
swapped true true u v w e = e
swapped true false u v w e = refl
swapped false b u v w e = refl

first_by : (b : Bool) (t : ℕ) (s r : Sleeper) (rs : List Sleeper) → r.due ≡ s.due → due_of t (sleeper_added s rs) ≡ due_of t (s ∷ rs) → due_of t (cond b (r ∷ sleeper_added s rs) (s ∷ r ∷ rs)) ≡ due_of t (s ∷ r ∷ rs)
first_by true t s r rs e h = ap (cond (r.thread == t) (Some r.due)) h ∙ swapped (r.thread == t) (s.thread == t) (Some r.due) (Some s.due) (due_of t rs) (ap Some e)
first_by false t s r rs e h = refl

-- where all are due at one time the order doesn't matter
due_of_added : (t : ℕ) (s : Sleeper) (ss : List Sleeper) → s.due ≡ 0 → AllDue ss → due_of t (sleeper_added s ss) ≡ due_of t (s ∷ ss)
due_of_added t s [] d h = refl
due_of_added t s (r ∷ rs) d h = first_by (sleeper_before r s) t s r rs (h.0 ∙ sym d) (due_of_added t s rs d h.1)

abbrev pub now_due : Option ℕ → Option ℕ
now_due None = None
now_due (Some due) = Some 0

due_by : (b : Bool) (due : ℕ) (o p : Option ℕ) → p ≡ now_due o → cond b (Some 0) p ≡ now_due (cond b (Some due) o)
due_by true due o p e = refl
due_by false due o p e = e

-- who sleeps may wake at 0 without time, and nobody else
pub due_still : (t : ℕ) (ss : List Sleeper) → due_of t (untimed_all ss) ≡ now_due (due_of t ss)
due_still t [] = refl
due_still t (s ∷ ss) =
    due_of_added t (undue_one s) (untimed_all ss) refl (all_due ss) ∙ due_by (s.thread == t) s.due (due_of t ss) (due_of t (untimed_all ss)) (due_still t ss)

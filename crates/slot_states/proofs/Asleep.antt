-- What the sorted sleepers say of who is blocked until a time.
use Rattle.std.proofs.Common.{◌≡◌, ℕ, ◌<◌, ◌≤◌, ◌==◌, nat_le, List, [], ◌∷◌, Bool, true, false, cond, Option, Some, None, refl, sym, ap, ◌∙◌, subst, ⊎_elim, eq-eqb}
use Rattle.std.proofs.lemmas.Bool.Decides.{leb_tells}
use Rattle.std.proofs.lemmas.Option.{same_Some}
use Rattle.std.proofs.lemmas.Bool.{leb-true}
use Rattle.rules_meaning.specs.Values.{V}
use Rattle.rules_waiting.specs.Waiting.{Reason, Sleeping, Waiting, Sleeper, reason_of, with_sleeper, sleepers_of, sleeper_before, sleeper_added, sorted_sleepers, first_awake}
use Rattle.exn_flight.specs.Asleep.{due_of}
use Rattle.hs_laws.specs.Standing.{Once}
use Rattle.hs_laws.proofs.Lists.{cond_cases, cond_true, cond_false, equal_or, once_reason}
use Rattle.hs_laws.proofs.Later.{AllAsleep, sorted_asleep, WaitsAsleep, all_asleep, same_due}

-- ---- each of the sorted sleepers is blocked until it is due

pub each_asleep : (ws : List (Waiting V)) → Once ws → AllAsleep (WaitsAsleep ws) (sorted_sleepers (sleepers_of ws))
each_asleep ws o = sorted_asleep (WaitsAsleep ws) (sleepers_of ws) (all_asleep ws ws (once_reason ws o))

awake_in : (P : Sleeper → Type 0) (now t : ℕ) (ss : List Sleeper) → AllAsleep P ss → first_awake now ss ≡ Some t → (x : Sleeper) × P x × (x.thread ≡ t) × (nat_le x.due now ≡ true)
awake_in P now t [] h e = absurd (cc e)
awake_in P now t (s ∷ ss) h e =
    ⊎_elim
    (λ d. (s, h.0, same_Some s.thread t (sym (cond_true (nat_le s.due now) (Some s.thread) (first_awake now ss) d.0) ∙ e), d.0))
    (λ d. awake_in P now t ss h.1 (sym (cond_false (nat_le s.due now) (Some s.thread) (first_awake now ss) d.0) ∙ e))
    (leb_tells s.due now)

-- who wakes first sleeps until a time that has come
pub first_due : (now t : ℕ) (ws : List (Waiting V)) → Once ws → first_awake now (sorted_sleepers (sleepers_of ws)) ≡ Some t → (due : ℕ) × (reason_of t ws ≡ Some (Sleeping due)) × (due ≤ now)
first_due now t ws o e =
    let k = awake_in (WaitsAsleep ws) now t (sorted_sleepers (sleepers_of ws)) (each_asleep ws o) e in
    (k.0.due, subst (λ u. reason_of u ws ≡ Some (Sleeping k.0.due)) k.2 k.1, leb-true k.0.due now k.3)

-- ---- a list whose order is put right says of each the same
was_added : (P : Sleeper → Type 0) (s : Sleeper) (ss : List Sleeper) → AllAsleep P (sleeper_added s ss) → P s × AllAsleep P ss
was_added P s [] h = h
was_added P s (r ∷ rs) h =
    cond_cases (λ z. AllAsleep P z → P s × AllAsleep P (r ∷ rs)) (sleeper_before r s) (r ∷ sleeper_added s rs) (s ∷ r ∷ rs)
    (λ b k. let m = was_added P s rs k.1 in (m.0, (k.0, m.1))) (λ b k. (k.0, k.1)) h

was_sorted : (P : Sleeper → Type 0) (ss : List Sleeper) → AllAsleep P (sorted_sleepers ss) → AllAsleep P ss
was_sorted P [] h = tt
was_sorted P (s ∷ ss) h = let k = was_added P s (sorted_sleepers ss) h in (k.0, was_sorted P ss k.1)

-- where nobody is due, each sleeps for a time that is to come
none_due : (now : ℕ) (ss : List Sleeper) → first_awake now ss ≡ None → AllAsleep (λ s. now < s.due) ss
none_due now [] e = tt
none_due now (s ∷ ss) e =
    ⊎_elim
    (λ d. let z : ◌≡◌ {A = Option ℕ} (Some s.thread) None = sym (cond_true (nat_le s.due now) (Some s.thread) (first_awake now ss) d.0) ∙ e in absurd (cc z))
    (λ d. (d.1, none_due now ss (sym (cond_false (nat_le s.due now) (Some s.thread) (first_awake now ss) d.0) ∙ e)))
    (leb_tells s.due now)

sleeper_in : (P : Sleeper → Type 0) (t due : ℕ) (ws : List (Waiting V)) → AllAsleep P (sleepers_of ws) → reason_of t ws ≡ Some (Sleeping due) → P (record { thread = t; due = due })
sleeper_in P t due [] h e = absurd (cc e)
sleeper_in P t due (w ∷ ws) h e =
    ⊎_elim
    (λ q. here w.reason q.1 (cond_true (w.thread == t) (Some w.reason) (reason_of t ws) q.0) h)
    (λ q. sleeper_in P t due ws (rest w.reason h) (sym (cond_false (w.thread == t) (Some w.reason) (reason_of t ws) q.0) ∙ e))
    (equal_or w.thread t)
  where
    rest : (r : Reason V) → AllAsleep P (with_sleeper w.thread r (sleepers_of ws)) → AllAsleep P (sleepers_of ws)
    rest (Sleeping d) k = k.1
    rest _ k = k

    here : (r : Reason V) → w.thread ≡ t → reason_of t (w ∷ ws) ≡ Some r → AllAsleep P (with_sleeper w.thread r (sleepers_of ws)) → P (record { thread = t; due = due })
    here (Sleeping d) own q k = let z : ◌≡◌ {A = Option (Reason V)} (Some (Sleeping d)) (Some (Sleeping due)) = sym q ∙ e in let same : d ≡ due = cc z in
        subst (λ y. P (record { thread = y; due = due })) own (subst (λ y. P (record { thread = w.thread; due = y })) same k.0)
    here _ own q k = cc

-- where a sorted list is empty, so was the list
pub none_sleep : (ss : List Sleeper) → sorted_sleepers ss ≡ [] → ss ≡ []
none_sleep [] e = refl
none_sleep (s ∷ ss) e = absurd (some (sorted_sleepers ss) e)
  where
    some : (rs : List Sleeper) → sleeper_added s rs ≡ [] → ⊥
    some [] q = cc q
    some (r ∷ rs) q = cond_cases (λ z. z ≡ [] → ⊥) (sleeper_before r s) (r ∷ sleeper_added s rs) (s ∷ r ∷ rs) (λ b k. cc k) (λ b k. cc k) q

-- so who is blocked until a time is blocked until a later one
pub none_is_due : (now : ℕ) (ws : List (Waiting V)) → first_awake now (sorted_sleepers (sleepers_of ws)) ≡ None → (t due : ℕ) → reason_of t ws ≡ Some (Sleeping due) → now < due
none_is_due now ws e t due q = sleeper_in (λ y. now < y.due) t due ws (was_sorted (λ y. now < y.due) (sleepers_of ws) (none_due now (sorted_sleepers (sleepers_of ws)) e)) q

-- ---- when a thread may wake
due_in : (P : Sleeper → Type 0) (t due : ℕ) (ss : List Sleeper) → AllAsleep P ss → due_of t ss ≡ Some due → P (record { thread = t; due = due })
due_in P t due [] h e = absurd (cc e)
due_in P t due (s ∷ ss) h e =
    ⊎_elim
    (λ q. (let same : s.due ≡ due = same_Some s.due due (sym (cond_true (s.thread == t) (Some s.due) (due_of t ss) q.0) ∙ e) in
    subst (λ y. P (record { thread = y; due = due })) q.1 (subst (λ y. P (record { thread = s.thread; due = y })) same h.0)))
    (λ q. due_in P t due ss h.1 (sym (cond_false (s.thread == t) (Some s.due) (due_of t ss) q.0) ∙ e))
    (equal_or s.thread t)

-- the time of a thread in the sorted list is that until which it is blocked
pub sleeps_until : (t due : ℕ) (ws : List (Waiting V)) → Once ws → due_of t (sorted_sleepers (sleepers_of ws)) ≡ Some due → reason_of t ws ≡ Some (Sleeping due)
sleeps_until t due ws o e = due_in (WaitsAsleep ws) t due (sorted_sleepers (sleepers_of ws)) (each_asleep ws o) e

-- each in a list is found there
some_or : (b : Bool) (a : ℕ) (o : Option ℕ) → (b ≡ false → (d : ℕ) × (o ≡ Some d)) → (d : ℕ) × (cond b (Some a) o ≡ Some d)
some_or true a o f = (a, refl)
some_or false a o f = f refl

all_changed : (P Q : Sleeper → Type 0) → ((s : Sleeper) → P s → Q s) → (ss : List Sleeper) → AllAsleep P ss → AllAsleep Q ss
all_changed P Q f [] h = tt
all_changed P Q f (s ∷ ss) h = (f s h.0, all_changed P Q f ss h.1)

abbrev IsFound : List Sleeper → Sleeper → Type 0
IsFound ss x = (d : ℕ) × (due_of x.thread ss ≡ Some d)

all_found : (ss : List Sleeper) → AllAsleep (IsFound ss) ss
all_found [] = tt
all_found (s ∷ ss) = (
  some_or (s.thread == s.thread) s.due (due_of s.thread ss) (λ q. let z : true ≡ false = sym (eq-eqb s.thread s.thread refl) ∙ q in absurd (cc z)),
  all_changed (IsFound ss) (IsFound (s ∷ ss)) (λ x h. some_or (s.thread == x.thread) s.due (due_of x.thread ss) (λ q. h)) ss (all_found ss),
)

-- and the other way round
pub due_until : (t due : ℕ) (ws : List (Waiting V)) → Once ws → reason_of t ws ≡ Some (Sleeping due) → due_of t (sorted_sleepers (sleepers_of ws)) ≡ Some due
due_until t due ws o e =
    let ss : List Sleeper = sorted_sleepers (sleepers_of ws) in
    let k = sleeper_in (IsFound ss) t due ws (was_sorted (IsFound ss) (sleepers_of ws) (all_found ss)) e in
    k.1 ∙ ap Some (same_due k.0 due (sym (sleeps_until t k.0 ws o k.1) ∙ e))

-- who wakes first is due
pub first_is_due : (now t : ℕ) (ws : List (Waiting V)) → Once ws → first_awake now (sorted_sleepers (sleepers_of ws)) ≡ Some t → (due : ℕ) × (due_of t (sorted_sleepers (sleepers_of ws)) ≡ Some due) × (due ≤ now)
first_is_due now t ws o e = let k = first_due now t ws o e in (k.0, due_until t k.0 ws o k.1, k.2)

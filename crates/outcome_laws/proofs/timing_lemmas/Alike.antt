-- States that are alike but for time, and what keeps them so.
use Rattle.std.proofs.Common.{◌≡◌, ℕ, ◌==◌, Bool, true, false, cond, List, [], ◌∷◌, Option, Some, None, refl, sym, ap, ◌∙◌}
use Rattle.rules_meaning.specs.Values.{V}
use Rattle.rules_waiting.specs.Waiting.{Reason, Taking, Sleeping, Waiting, Flying, Sleeper, blocks, leaves, is_blocked, reason_of, want_at, with_place, line_of, with_flying, flight_of, with_sleeper, sleepers_of}
use Rattle.hs_rules.specs.Terms.{Part, Term}
use Rattle.hs_rules.specs.State.{State, move, resume, resume_all, block, spawn}
use Rattle.outcome_laws.specs.timing.WithoutTime.{timeless_reason, timeless_blocked, timeless}

-- ---- the list of the blocked

abbrev pub timeless_waiting : Waiting V → Waiting V
timeless_waiting w = record { thread = w.thread; reason = timeless_reason w.reason }

pub reason_twice : (r : Reason V) → timeless_reason (timeless_reason r) ≡ timeless_reason r
reason_twice (Taking m) = refl
reason_twice _ = refl

pub blocked_twice : (ws : List (Waiting V)) → timeless_blocked (timeless_blocked ws) ≡ timeless_blocked ws
blocked_twice [] = refl
blocked_twice (w ∷ ws) =
    ap (λ r. record { thread = w.thread; reason = r } ∷ timeless_blocked (timeless_blocked ws)) (reason_twice w.reason)
    ∙ ap (λ us. timeless_waiting w ∷ us) (blocked_twice ws)

pub blocks_still : (t : ℕ) (r : Reason V) (ws : List (Waiting V)) → timeless_blocked (blocks t r ws) ≡ blocks t (timeless_reason r) (timeless_blocked ws)
blocks_still t r [] = refl
blocks_still t r (w ∷ ws) = ap (λ us. timeless_waiting w ∷ us) (blocks_still t r ws)

leaves_by : (t : ℕ) (w : Waiting V) (ws : List (Waiting V)) (b : Bool) → timeless_blocked (leaves t ws) ≡ leaves t (timeless_blocked ws) →
    timeless_blocked (cond b (leaves t ws) (w ∷ leaves t ws)) ≡ cond b (leaves t (timeless_blocked ws)) (timeless_waiting w ∷ leaves t (timeless_blocked ws))
leaves_by t w ws true h = h
leaves_by t w ws false h = ap (λ us. timeless_waiting w ∷ us) h

pub leaves_still : (t : ℕ) (ws : List (Waiting V)) → timeless_blocked (leaves t ws) ≡ leaves t (timeless_blocked ws)
leaves_still t [] = refl
leaves_still t (w ∷ ws) = leaves_by t w ws (w.thread == t) (leaves_still t ws)

pub blocked_still : (t : ℕ) (ws : List (Waiting V)) → is_blocked t (timeless_blocked ws) ≡ is_blocked t ws
blocked_still t [] = refl
blocked_still t (w ∷ ws) = ap (cond (w.thread == t) true) (blocked_still t ws)

want_still : (m : ℕ) (r : Reason V) → want_at m (timeless_reason r) ≡ want_at m r
want_still m (Taking k) = refl
want_still m _ = refl

pub line_still : (m : ℕ) (ws : List (Waiting V)) → line_of m (timeless_blocked ws) ≡ line_of m ws
line_still m [] = refl
line_still m (w ∷ ws) =
    ap (λ o. with_place w.thread o (line_of m (timeless_blocked ws))) (want_still m w.reason) ∙ ap (with_place w.thread (want_at m w.reason)) (line_still m ws)

flying_still : (t : ℕ) (r : Reason V) (fs : List Flying) → with_flying t (timeless_reason r) fs ≡ with_flying t r fs
flying_still t (Taking m) fs = refl
flying_still t _ fs = refl

pub flight_still : (ws : List (Waiting V)) → flight_of (timeless_blocked ws) ≡ flight_of ws
flight_still [] = refl
flight_still (w ∷ ws) =
    flying_still w.thread w.reason (flight_of (timeless_blocked ws)) ∙ ap (with_flying w.thread w.reason) (flight_still ws)

-- what a thread waits for, without time
abbrev pub timeless_option : Option (Reason V) → Option (Reason V)
timeless_option None = None
timeless_option (Some r) = Some (timeless_reason r)

reason_by : (b : Bool) (w : Waiting V) (o p : Option (Reason V)) → p ≡ timeless_option o → cond b (Some (timeless_reason w.reason)) p ≡ timeless_option (cond b (Some w.reason) o)
reason_by true w o p h = refl
reason_by false w o p h = h

pub reason_still : (t : ℕ) (ws : List (Waiting V)) → reason_of t (timeless_blocked ws) ≡ timeless_option (reason_of t ws)
reason_still t [] = refl
reason_still t (w ∷ ws) = reason_by (w.thread == t) w (reason_of t ws) (reason_of t (timeless_blocked ws)) (reason_still t ws)

-- the same sleepers, all due at 0
abbrev pub due_now : List Sleeper → List Sleeper
due_now [] = []
due_now (s ∷ ss) = record { thread = s.thread; due = 0 } ∷ due_now ss

sleeper_still : (t : ℕ) (r : Reason V) (ss : List Sleeper) → with_sleeper t (timeless_reason r) (due_now ss) ≡ due_now (with_sleeper t r ss)
sleeper_still t (Taking m) ss = refl
sleeper_still t _ ss = refl

pub sleepers_still : (ws : List (Waiting V)) → sleepers_of (timeless_blocked ws) ≡ due_now (sleepers_of ws)
sleepers_still [] = refl
sleepers_still (w ∷ ws) =
    ap (with_sleeper w.thread (timeless_reason w.reason)) (sleepers_still ws) ∙ sleeper_still w.thread w.reason (sleepers_of ws)

pub none_due : (ss : List Sleeper) → due_now ss ≡ [] → ss ≡ []
none_due [] h = refl
none_due (s ∷ ss) h = absurd (cc h)

pub asleep_still : (ws : List (Waiting V)) → sleepers_of ws ≡ [] → sleepers_of (timeless_blocked ws) ≡ []
asleep_still ws h = sleepers_still ws ∙ ap due_now h

pub awake_still : (ws : List (Waiting V)) → sleepers_of (timeless_blocked ws) ≡ [] → sleepers_of ws ≡ []
awake_still ws h = none_due (sleepers_of ws) (sym (sleepers_still ws) ∙ h)

-- ---- alike but for time

abbrev pub Alike : State → State → Type 0
Alike s r = timeless s ≡ timeless r

pub timeless_twice : (s : State) → timeless (timeless s) ≡ timeless s
timeless_twice s = ap (λ (ws : List (Waiting V)). record s { blocked = ws; clock = 0 }) (blocked_twice s.blocked)

pub resume_still : (t : ℕ) (p : Part) (s : State) → timeless (resume t p s) ≡ resume t p (timeless s)
resume_still t p s = ap (λ (ws : List (Waiting V)). record (resume t p s) { blocked = ws; clock = 0 }) (leaves_still t s.blocked)

pub block_still : (t : ℕ) (r : Reason V) (s : State) → timeless (block t r s) ≡ block t (timeless_reason r) (timeless s)
block_still t r s = ap (λ (ws : List (Waiting V)). record s { blocked = ws; clock = 0 }) (blocks_still t r s.blocked)

module _ (s r : State) (h : Alike s r) where
  pub same_threads : s.threads ≡ r.threads
  same_threads = ap (λ (q : State). q.threads) h

  pub same_blocked : (t : ℕ) → is_blocked t s.blocked ≡ is_blocked t r.blocked
  same_blocked t = sym (blocked_still t s.blocked) ∙ (ap (λ (q : State). is_blocked t q.blocked) h ∙ blocked_still t r.blocked)

  pub same_line : (m : ℕ) → line_of m s.blocked ≡ line_of m r.blocked
  same_line m = sym (line_still m s.blocked) ∙ (ap (λ (q : State). line_of m q.blocked) h ∙ line_still m r.blocked)

  pub same_flight : flight_of s.blocked ≡ flight_of r.blocked
  same_flight = sym (flight_still s.blocked) ∙ (ap (λ (q : State). flight_of q.blocked) h ∙ flight_still r.blocked)

  pub resume_alike : (t : ℕ) (p : Part) → Alike (resume t p s) (resume t p r)
  resume_alike t p = resume_still t p s ∙ (ap (resume t p) h ∙ sym (resume_still t p r))

  pub block_alike : (t : ℕ) (w : Reason V) → Alike (block t w s) (block t w r)
  block_alike t w = block_still t w s ∙ (ap (block t (timeless_reason w)) h ∙ sym (block_still t w r))

  pub sleep_alike : (t a b : ℕ) → Alike (block t (Sleeping a) s) (block t (Sleeping b) r)
  sleep_alike t a b = block_still t (Sleeping a) s ∙ (ap (block t (Sleeping 0)) h ∙ sym (block_still t (Sleeping b) r))

  pub move_alike : (t : ℕ) (u : Term) → Alike (move t u s) (move t u r)
  move_alike t u = ap (move t u) h

  pub spawn_alike : (u : Term) → Alike (spawn u s) (spawn u r)
  spawn_alike u = ap (spawn u) h

pub all_alike : (ts : List ℕ) (p : Part) (s r : State) → Alike s r → Alike (resume_all ts p s) (resume_all ts p r)
all_alike [] p s r h = h
all_alike (t ∷ ts) p s r h = all_alike ts p (resume t p s) (resume t p r) (resume_alike s r h t p)

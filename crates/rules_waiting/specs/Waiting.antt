-- Blocked threads, in any type of values V: one list, in the order in which they blocked. The waiters of a cell, the
-- exceptions in flight to a thread and the sleepers are what it says of each.
--
-- "Asynchronous Exceptions in Haskell" and the documentation of `Control.Exception`: `throwTo` blocks its caller until
-- the target receives the exception, so an exception in flight is a blocked thrower. `Control.Concurrent`: `threadDelay`
-- suspends its caller for at least so many microseconds.
use Rattle.std.specs.Prelude.{ℕ, ◌==◌, nat_lt, nat_le, Bool, true, false, cond, ◌||◌, ◌&&◌, List, [], ◌∷◌, ◌++◌, Option, Some, None}
use Rattle.hs_base.specs.declared.exn.Exn.{Exn}
use Rattle.rules_waiting.specs.OneCell.{Want, To_take, To_read, To_put, Place}

-- why a thread is blocked: it takes from cell m, reads cell m, puts v to cell m, throws e at thread u, or sleeps until the clock is due
pub data Reason (V : Type 0) : Type 0 where
  Taking : (m : ℕ) → Reason V
  Reading : (m : ℕ) → Reason V
  Putting : (m : ℕ) → V → Reason V
  Throwing : (u : ℕ) → Exn → Reason V
  Sleeping : (due : ℕ) → Reason V

-- a blocked thread
pub record Waiting (V : Type 0) : Type 0 where
  pub thread : ℕ
  pub reason : Reason V

-- an exception in flight: who throws it, at whom
pub record Flying : Type 0 where
  pub thrower : ℕ
  pub target : ℕ
  pub exn : Exn

-- a sleeper, and the time from which it may wake
pub record Sleeper : Type 0 where
  pub thread : ℕ
  pub due : ℕ

module _ {V : Type 0} where
  -- a thread blocks: last in the list
  abbrev pub blocks : ℕ → Reason V → List (Waiting V) → List (Waiting V)
  blocks t r ws = ws ++ record { thread = t; reason = r } ∷ []

  -- a thread is blocked no more
  abbrev pub leaves : ℕ → List (Waiting V) → List (Waiting V)
  leaves t [] = []
  leaves t (w ∷ ws) = cond (w.thread == t) (leaves t ws) (w ∷ leaves t ws)

  abbrev pub is_blocked : ℕ → List (Waiting V) → Bool
  is_blocked t [] = false
  is_blocked t (w ∷ ws) = cond (w.thread == t) true (is_blocked t ws)

  abbrev pub reason_of : ℕ → List (Waiting V) → Option (Reason V)
  reason_of t [] = None
  reason_of t (w ∷ ws) = cond (w.thread == t) (Some w.reason) (reason_of t ws)

  -- ---- the waiters of a cell
  -- what a blocked thread wants of cell m, if it waits there
  abbrev pub want_at : ℕ → Reason V → Option (Want V)
  want_at m (Taking k) = cond (k == m) (Some To_take) None
  want_at m (Reading k) = cond (k == m) (Some To_read) None
  want_at m (Putting k v) = cond (k == m) (Some (To_put v)) None
  want_at m (Throwing u e) = None
  want_at m (Sleeping due) = None

  abbrev pub with_place : ℕ → Option (Want V) → List (Place V) → List (Place V)
  with_place t None ps = ps
  with_place t (Some w) ps = record { thread = t; want = w } ∷ ps

  -- the line of cell m, in order of blocking
  abbrev pub line_of : ℕ → List (Waiting V) → List (Place V)
  line_of m [] = []
  line_of m (w ∷ ws) = with_place w.thread (want_at m w.reason) (line_of m ws)

  -- whether a blocked thread waits at a cell
  abbrev pub at_cell : Reason V → Bool
  at_cell (Taking m) = true
  at_cell (Reading m) = true
  at_cell (Putting m v) = true
  at_cell (Throwing u e) = false
  at_cell (Sleeping due) = false

  -- ---- exceptions in flight
  abbrev pub with_flying : ℕ → Reason V → List Flying → List Flying
  with_flying t (Taking m) fs = fs
  with_flying t (Reading m) fs = fs
  with_flying t (Putting m v) fs = fs
  with_flying t (Throwing u e) fs = record { thrower = t; target = u; exn = e } ∷ fs
  with_flying t (Sleeping due) fs = fs

  -- all exceptions in flight, in order of throwing
  abbrev pub flight_of : List (Waiting V) → List Flying
  flight_of [] = []
  flight_of (w ∷ ws) = with_flying w.thread w.reason (flight_of ws)

  -- ---- sleepers
  abbrev pub with_sleeper : ℕ → Reason V → List Sleeper → List Sleeper
  with_sleeper t (Taking m) ss = ss
  with_sleeper t (Reading m) ss = ss
  with_sleeper t (Putting m v) ss = ss
  with_sleeper t (Throwing u e) ss = ss
  with_sleeper t (Sleeping due) ss = record { thread = t; due = due } ∷ ss

  -- all sleepers, in order of blocking
  abbrev pub sleepers_of : List (Waiting V) → List Sleeper
  sleepers_of [] = []
  sleepers_of (w ∷ ws) = with_sleeper w.thread w.reason (sleepers_of ws)

-- ---- lists of items that each have a thread's number
module _ {A : Type 0} (number : A → ℕ) where
  -- whether an item has this number
  abbrev pub has : ℕ → List A → Bool
  has t [] = false
  has t (a ∷ as') = cond (number a == t) true (has t as')

  -- all items but those with this number
  abbrev pub without : ℕ → List A → List A
  without t [] = []
  without t (a ∷ as') = cond (number a == t) (without t as') (a ∷ without t as')

-- ---- what a list of exceptions in flight says
-- the exceptions in flight to a thread, in order of throwing
abbrev pub flying_to : ℕ → List Flying → List Flying
flying_to u [] = []
flying_to u (f ∷ fs) = cond (f.target == u) (f ∷ flying_to u fs) (flying_to u fs)

-- the exceptions of all other throwers
abbrev pub withdrawn : ℕ → List Flying → List Flying
withdrawn t fs = without (λ (f : Flying). f.thrower) t fs

-- whether a thread throws
abbrev pub is_throwing : ℕ → List Flying → Bool
is_throwing t fs = has (λ (f : Flying). f.thrower) t fs

-- the exception of a thrower
abbrev pub thrown_by : ℕ → List Flying → Option Exn
thrown_by t [] = None
thrown_by t (f ∷ fs) = cond (f.thrower == t) (Some f.exn) (thrown_by t fs)

-- who throws first, and what
abbrev pub first_thrown : List Flying → Option (ℕ × Exn)
first_thrown [] = None
first_thrown (f ∷ fs) = Some (f.thrower, f.exn)

-- ---- what a list of sleepers says
-- a sleeper is before another: by due, and of one due by thread
abbrev pub sleeper_before : Sleeper → Sleeper → Bool
sleeper_before a b = nat_lt a.due b.due || (a.due == b.due) && nat_lt a.thread b.thread

-- a sleeper's place in a sorted list is behind all that are before it
abbrev pub sleeper_added : Sleeper → List Sleeper → List Sleeper
sleeper_added s [] = s ∷ []
sleeper_added s (r ∷ rs) = cond (sleeper_before r s) (r ∷ sleeper_added s rs) (s ∷ r ∷ rs)

-- sleepers by due, and of one due by thread
abbrev pub sorted_sleepers : List Sleeper → List Sleeper
sorted_sleepers [] = []
sorted_sleepers (s ∷ ss) = sleeper_added s (sorted_sleepers ss)

-- the sleepers but this thread
abbrev pub still_asleep : ℕ → List Sleeper → List Sleeper
still_asleep t ss = without (λ (s : Sleeper). s.thread) t ss

-- whether a thread sleeps
abbrev pub is_sleeping : ℕ → List Sleeper → Bool
is_sleeping t ss = has (λ (s : Sleeper). s.thread) t ss

-- the first of a list whose time has come
abbrev pub first_awake : ℕ → List Sleeper → Option ℕ
first_awake now [] = None
first_awake now (s ∷ ss) = cond (nat_le s.due now) (Some s.thread) (first_awake now ss)

-- when the first of a list may wake
abbrev pub earliest : List Sleeper → Option ℕ
earliest [] = None
earliest (s ∷ ss) = Some s.due

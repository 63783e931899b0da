-- The states of a run, and the few ways in which an entry changes one.
--
-- "Asynchronous Exceptions in Haskell" has a soup of threads, cells and exceptions in flight. Here they stand in lists, by
-- number, and one list holds all blocked threads in the order in which they blocked (own).
use Rattle.std.specs.Prelude.{ℕ, Bool, false, List, [], ◌∷◌, ◌++◌, Option, Some, None, slice_get, slice_set}
use Rattle.rules_meaning.specs.Values.{V}
use Rattle.rules_expansion.specs.Core.{Core}
use Rattle.hs_rules.specs.Terms.{Part, Ret, Do, Frame, Term, term}
use Rattle.rules_waiting.specs.Waiting.{Reason, Waiting, blocks, leaves}

-- one use of `bracket`, by its number, and the thread that acquired or released it
pub data Mark : Type 0 where
  AcquiredBy : (i t : ℕ) → Mark
  ReleasedBy : (i t : ℕ) → Mark

pub record Thread : Type 0 where
  pub term : Term
  pub finished : Bool

pub record State : Type 0 where
  -- by number; the main thread has number 0
  pub threads : List Thread
  -- by number: empty or a value
  pub cells : List (Option V)
  -- in order of blocking
  pub blocked : List (Waiting V)
  -- in microseconds
  pub clock : ℕ
  pub next_instance : ℕ
  pub next_timeout : ℕ
  -- the latest first
  pub marks : List Mark
  -- the bytes of standard output and of standard error
  pub output : List ℕ
  pub errors : List ℕ

-- ---- one thread moves

-- thread t, which is this one, has this term
abbrev pub with_term : ℕ → Option Thread → Term → List Thread → List Thread
with_term t None u ths = ths
with_term t (Some th) u ths = slice_set ths t (record { term = u; finished = th.finished })

-- thread t has this term
abbrev pub move : ℕ → Term → State → State
move t u s = record s { threads = with_term t (slice_get s.threads t) u s.threads }

abbrev pub frames_of : Option Thread → List Frame
frames_of None = []
frames_of (Some th) = th.term.frames

-- this part stands in the place of the active part of thread t, which is blocked no more
abbrev pub resume : ℕ → Part → State → State
resume t p s =
    record s {
      threads = with_term t (slice_get s.threads t) (term p (frames_of (slice_get s.threads t))) s.threads;
      blocked = leaves t s.blocked;
    }

-- thread t is answered
abbrev pub answer : ℕ → V → State → State
answer t v s = resume t (Ret v) s

-- the same for each of these threads, in order
abbrev pub resume_all : List ℕ → Part → State → State
resume_all [] p s = s
resume_all (t ∷ ts) p s = resume_all ts p (resume t p s)

-- thread t waits from now on, behind all that wait
abbrev pub block : ℕ → Reason V → State → State
block t r s = record s { blocked = blocks t r s.blocked }

abbrev pub thread_with : Term → Thread
thread_with u = record { term = u; finished = false }

-- a new thread, the last by number
abbrev pub spawn : Term → State → State
spawn u s = record s { threads = s.threads ++ thread_with u ∷ [] }

-- ---- the first state: the main thread is to do this action

abbrev pub first : Core → State
first main = record {
  threads = thread_with (term (Do main []) []) ∷ [];
  cells = [];
  blocked = [];
  clock = 0;
  next_instance = 0;
  next_timeout = 0;
  marks = [];
  output = [];
  errors = [];
}

-- What is true of every state of a run, for whoever keeps one (own): how its blocked and its finished threads stand.
use Rattle.std.specs.Prelude.{◌≡◌, ◌≢◌, ℕ, ◌+◌, ◌<◌, true, false, List, [], ◌∷◌, length, Some, slice_get}
use Rattle.hs_base.specs.declared.exn.Exn.{Exn}
use Rattle.rules_meaning.specs.Values.{V}
use Rattle.hs_rules.specs.Terms.{Part, Ret, Throw, Do, Performs}
use Rattle.rules_waiting.specs.Waiting.{Reason, Throwing, Sleeping, Waiting, is_blocked, reason_of, flight_of, flying_to}
use Rattle.hs_rules.specs.Entries.{is_receptive}
use Rattle.hs_rules.specs.State.{Thread, State}
use Rattle.hs_laws.specs.BracketPhases.{Blocks, OpPart}

-- nobody is blocked twice
abbrev pub Once : List (Waiting V) → Type 0
Once [] = Unit {0}
Once (w ∷ ws) = (is_blocked w.thread ws ≡ false) × Once ws

-- a value or an exception
abbrev pub IsResult : Part → Type 0
IsResult (Ret v) = Unit {0}
IsResult (Throw e) = Unit {0}
IsResult (Do a env) = ⊥
IsResult (Performs op) = ⊥

-- a thread's whole term is a value or an exception
abbrev pub IsBare : Thread → Type 0
IsBare th = IsResult th.term.part × (th.term.frames ≡ [])

-- Thread t, which waits for this, is there, hasn't finished and stands at the operation that blocked it.
pub record StandsBlocked (s : State) (t : ℕ) (r : Reason V) : Type 0 where
  pub thread : Thread
  pub is : slice_get s.threads t ≡ Some thread
  pub unfinished : thread.finished ≡ false
  pub part : OpPart (Blocks r) thread.term.part

-- Nobody is blocked twice; a blocked thread hasn't finished and stands at the operation that blocked it; nobody waits in a
-- throw at itself; and the whole term of a finished thread is a value or an exception.
pub record Standing (s : State) : Type 0 where
  pub once : Once s.blocked
  pub blocked : (t : ℕ) (r : Reason V) → reason_of t s.blocked ≡ Some r → StandsBlocked s t r
  pub apart : (t u : ℕ) (e : Exn) → reason_of t s.blocked ≡ Some (Throwing u e) → t ≢ u
  pub finished : (t : ℕ) (th : Thread) → slice_get s.threads t ≡ Some th → th.finished ≡ true → IsBare th

-- Every thread that hasn't finished is blocked, none of them can receive an exception that is in flight to it, and no sleeper
-- may wake yet.
pub record NoneWorks (s : State) : Type 0 where
  pub blocked : (t : ℕ) (th : Thread) → slice_get s.threads t ≡ Some th → th.finished ≡ false → is_blocked t s.blocked ≡ true
  pub unheard : (t : ℕ) (th : Thread) → slice_get s.threads t ≡ Some th → th.finished ≡ false → is_receptive t th.term s ≡ true → flying_to t (flight_of s.blocked) ≡ []
  pub asleep : (t due : ℕ) → reason_of t s.blocked ≡ Some (Sleeping due) → s.clock < due

-- how many threads, cells, uses of `bracket` and uses of `timeout` there have been
abbrev pub made_so_far : State → ℕ
made_so_far s = length s.threads + length s.cells + s.next_instance + s.next_timeout

-- When a thread goes on, when all wait, and when threads are stranded (own).
use Rattle.std.specs.Prelude.{◌≡◌, ◌≢◌, ℕ, false, List, [], ◌∷◌, Option, Some, None, slice_get}
use Rattle.hs_rules.specs.declared.entry.Entry.{Entry}
use Rattle.hs_rules.specs.declared.entry.Entry.TheVariants as entry
use Rattle.rules_expansion.specs.trees.Trees.{T}
use Rattle.rules_expansion.specs.trees.Programs.{Fn}
use Rattle.hs_rules.specs.Terms.{Part, Ret, Throw, Do, Performs, Frame, Term}
use Rattle.rules_waiting.specs.Waiting.{is_blocked, sleepers_of}
use Rattle.hs_rules.specs.State.{Thread, State}
use Rattle.hs_rules.specs.Entries.{stranded}
use Rattle.hs_laws.specs.Standing.{NoneWorks}
use Rattle.hs_progress.specs.TypedStates.{TermTyped}

-- ---- one thread

-- the main thread hasn't finished
pub record MainRuns (s : State) : Type 0 where
  pub main : Thread
  pub there : slice_get s.threads 0 ≡ Some main
  pub unfinished : main.finished ≡ false

-- thread t is there, hasn't finished and isn't blocked
pub record IsRunning (s : State) (t : ℕ) (th : Thread) : Type 0 where
  pub there : slice_get s.threads t ≡ Some th
  pub unfinished : th.finished ≡ false
  pub awake : is_blocked t s.blocked ≡ false

-- The entry of thread t itself, by its part and its frames: an operation's Op, the Finish of a value or an exception that
-- nothing takes, or else one local rule.
abbrev pub own_entry : ℕ → Part → List Frame → Entry
own_entry t (Performs op) fs = entry.Op t
own_entry t (Do a env) fs = entry.Local t 1
own_entry t (Ret v) [] = entry.Finish t
own_entry t (Ret v) (f ∷ fs) = entry.Local t 1
own_entry t (Throw e) [] = entry.Finish t
own_entry t (Throw e) (f ∷ fs) = entry.Local t 1

-- ---- local rules

-- where no local rule applies: at a value or an exception without frames, and at an operation
abbrev pub Stops : Part → List Frame → Type 0
Stops (Ret v) fs = fs ≡ []
Stops (Throw e) fs = fs ≡ []
Stops (Do a env) fs = ⊥
Stops (Performs op) fs = Unit {0}

-- one local rule leaves a typed term, or none applies and the term is one of those
abbrev pub StepsOrStops : (ℕ → T → Type 0) → List Fn → Part → List Frame → Option Term → Type 0
StepsOrStops cells ds p fs None = Stops p fs
StepsOrStops cells ds p fs (Some t) = TermTyped cells ds t

-- ---- all threads

-- Threads may be stranded: the main thread hasn't finished, there is no work, nobody sleeps, and some thread waits at a cell
-- and can be interrupted.
pub record MayStrand (s : State) : Type 0 where
  pub main : MainRuns s
  pub waits : NoneWorks s
  pub awake : sleepers_of s.blocked ≡ []
  pub some : stranded s ≢ []

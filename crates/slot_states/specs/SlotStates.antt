-- States whose threads are stacks with slots (own): what whoever keeps a run has in hand, and when that stands for a state of
-- the rules.
--
-- A state of the rules says in one list who is blocked and why. Here each thread says whether it is blocked, each cell has
-- its line, and exceptions in flight and sleepers stand in lists of their own.
use Rattle.std.specs.Prelude.{◌≡◌, ℕ, ◌+◌, Bool, true, false, List, [], ◌∷◌, ◌++◌, length, Option, Some, None, slice_get, slice_set}
use Rattle.hs_base.specs.declared.exn.Exn.{Exn}
use Rattle.hs_base.specs.declared.exn.Exn.TheVariants.{BlockedIndefinitely}
use Rattle.hs_base.specs.declared.tree.script.Script.{Script}
use Rattle.hs_rules.specs.declared.entry.Entry.{Entry}
use Rattle.rules_expansion.specs.trees.Programs.{Fn, script_of}
use Rattle.rules_meaning.specs.Values.{V, UnitValue, Exception}
use Rattle.rules_meaning.specs.Values as val
use Rattle.rules_meaning.specs.CoreMeaning.{code_of}
use Rattle.rules_waiting.specs.OneCell.{Cell, Call, Reply, cell_of, call, made, leaves_line}
use Rattle.rules_waiting.specs.Waiting.{Flying, Sleeper, is_blocked, flight_of, flying_to, withdrawn, sleepers_of, sorted_sleepers, still_asleep, sleeper_added}
use Rattle.hs_rules.specs.State.{Thread, State}
use Rattle.hs_rules.specs.Entries.{Leads, throwers}
use Rattle.hs_rules.specs.Runs.{IsRun}
use Rattle.hs_laws.specs.CellLaw.{Shows, told}
use Rattle.slot_laws.specs.SlotRules.{SlotPart, ret, throw, SlotTerm, at}
use Rattle.slot_laws.specs.Stacks.{StacksStand}

pub record SlotThread : Type 0 where
  pub term : SlotTerm
  pub blocked : Bool
  pub finished : Bool

pub record SlotState : Type 0 where
  -- by number
  pub threads : List SlotThread
  -- by number: each its content and its line
  pub cells : List (Cell V)
  -- in order of throwing
  pub flight : List Flying
  -- by due, and of one due by thread
  pub sleepers : List Sleeper
  -- in microseconds
  pub clock : ℕ
  pub next_instance : ℕ
  pub next_timeout : ℕ
  -- the bytes of standard output and of standard error together
  pub printed : ℕ

-- ---- one thread changes

abbrev pub set_thread : ℕ → (SlotThread → SlotThread) → Option SlotThread → List SlotThread → List SlotThread
set_thread t f None ths = ths
set_thread t f (Some th) ths = slice_set ths t (f th)

-- thread t, where there is one, becomes this
abbrev pub changed : ℕ → (SlotThread → SlotThread) → List SlotThread → List SlotThread
changed t f ths = set_thread t f (slice_get ths t) ths

-- this part in its frames, and it is blocked no more
abbrev pub resumed_by : SlotPart → SlotThread → SlotThread
resumed_by p th = record { term = at p th.term.frames; blocked = false; finished = th.finished }

abbrev pub resumed : ℕ → SlotPart → List SlotThread → List SlotThread
resumed t p ths = changed t (resumed_by p) ths

abbrev pub answered : ℕ → V → List SlotThread → List SlotThread
answered t v ths = resumed t (ret v) ths

-- the same for each of these threads, in order
abbrev pub all_resumed : List ℕ → SlotPart → List SlotThread → List SlotThread
all_resumed [] p ths = ths
all_resumed (t ∷ ts) p ths = all_resumed ts p (resumed t p ths)

-- each gets the answer of cell m
abbrev pub replied : ℕ → List (Reply V) → List SlotThread → List SlotThread
replied m [] ths = ths
replied m (r ∷ rs) ths = replied m rs (answered r.thread (told m r.answer) ths)

-- it is blocked
abbrev pub blocking : SlotThread → SlotThread
blocking th = record { term = th.term; blocked = true; finished = th.finished }

abbrev pub blocked_at : ℕ → List SlotThread → List SlotThread
blocked_at t ths = changed t blocking ths

-- it has finished
abbrev pub finishing : SlotThread → SlotThread
finishing th = record { term = th.term; blocked = th.blocked; finished = true }

abbrev pub finished_at : ℕ → List SlotThread → List SlotThread
finished_at t ths = changed t finishing ths

-- it has this term
abbrev pub moving : SlotTerm → SlotThread → SlotThread
moving st th = record { term = st; blocked = th.blocked; finished = th.finished }

abbrev pub moved : ℕ → SlotTerm → List SlotThread → List SlotThread
moved t st ths = changed t (moving st) ths

-- a new thread, the last by number
abbrev pub spawned : SlotTerm → List SlotThread → List SlotThread
spawned st ths = ths ++ record { term = st; blocked = false; finished = false } ∷ []

-- ---- a call on a cell

abbrev pub or_unmade : Option (Cell V) → Cell V
or_unmade None = made None
or_unmade (Some c) = c

abbrev pub cell_at : ℕ → List (Cell V) → Cell V
cell_at m cs = or_unmade (slice_get cs m)

-- thread t called, and these were answered; where nobody was, it is blocked
abbrev pub told_all : ℕ → ℕ → List (Reply V) → List SlotThread → List SlotThread
told_all t m [] ths = blocked_at t ths
told_all t m (r ∷ rs) ths = replied m (r ∷ rs) ths

-- thread t made this call on cell m
abbrev pub called : ℕ → ℕ → Call V → SlotState → SlotState
called t m q x =
    record x {
      threads = told_all t m (call q (cell_at m x.cells)).replies x.threads;
      cells = slice_set x.cells m (call q (cell_at m x.cells)).cell;
    }

-- ---- what an entry makes of a state

-- thread t is answered
abbrev pub answer : ℕ → V → SlotState → SlotState
answer t v x = record x { threads = answered t v x.threads }

-- thread t printed so many bytes
abbrev pub prints : ℕ → ℕ → SlotState → SlotState
prints t n x = record x { threads = answered t UnitValue x.threads; printed = x.printed + n }

-- thread t made a cell with this content
abbrev pub makes : ℕ → Option V → SlotState → SlotState
makes t o x = record x { threads = answered t (val.Cell (length x.cells)) x.threads; cells = x.cells ++ made o ∷ [] }

-- thread t has this term
abbrev pub moves : ℕ → SlotTerm → SlotState → SlotState
moves t st x = record x { threads = moved t st x.threads }

-- thread t forked a thread with this term
abbrev pub forks_to : ℕ → SlotTerm → SlotState → SlotState
forks_to t st x = record x { threads = spawned st (answered t (val.Thread (length x.threads)) x.threads) }

-- thread t throws where it stands
abbrev pub throws : ℕ → Exn → SlotState → SlotState
throws t e x = record x { threads = resumed t (throw e) x.threads }

-- thread t waits until thread u receives e
abbrev pub throws_at : ℕ → ℕ → Exn → SlotState → SlotState
throws_at t u e x = record x { threads = blocked_at t x.threads; flight = x.flight ++ record { thrower = t; target = u; exn = e } ∷ [] }

-- thread t sleeps until then
abbrev pub sleeps : ℕ → ℕ → SlotState → SlotState
sleeps t due x = record x { threads = blocked_at t x.threads; sleepers = sleeper_added (record { thread = t; due = due }) x.sleepers }

-- the sleeper t wakes
abbrev pub wakes : ℕ → SlotState → SlotState
wakes t x = record x { threads = answered t UnitValue x.threads; sleepers = still_asleep t x.sleepers }

-- thread t stands in no line any more
abbrev pub left_lines : ℕ → List (Cell V) → List (Cell V)
left_lines t [] = []
left_lines t (c ∷ cs) = cell_of c.content (leaves_line t c.line) ∷ left_lines t cs

-- thread t received e, which thread w threw: w is answered, and t throws and waits for nothing any more
abbrev pub receives : ℕ → ℕ → Exn → SlotState → SlotState
receives t w e x =
    record x {
      threads = resumed t (throw e) (answered w UnitValue x.threads);
      cells = left_lines t x.cells;
      flight = withdrawn t (withdrawn w x.flight);
      sleepers = still_asleep t x.sleepers;
    }

-- all these throws are over
abbrev pub all_withdrawn : List ℕ → List Flying → List Flying
all_withdrawn [] fs = fs
all_withdrawn (w ∷ ws) fs = all_withdrawn ws (withdrawn w fs)

-- thread t finished, wrote so many bytes to error output, and all that throw at it are answered
abbrev pub finishes : ℕ → ℕ → SlotState → SlotState
finishes t n x =
    record x {
      threads = all_resumed (throwers (flying_to t x.flight)) (ret UnitValue) (finished_at t x.threads);
      flight = all_withdrawn (throwers (flying_to t x.flight)) x.flight;
      printed = x.printed + n;
    }

abbrev pub all_left : List ℕ → List (Cell V) → List (Cell V)
all_left [] cs = cs
all_left (t ∷ ts) cs = all_left ts (left_lines t cs)

-- these threads are stranded
abbrev pub strands : List ℕ → SlotState → SlotState
strands ts x = record x { threads = all_resumed ts (throw BlockedIndefinitely) x.threads; cells = all_left ts x.cells }

-- the clock goes on
abbrev pub ticks : ℕ → SlotState → SlotState
ticks at x = record x { clock = at }

-- ---- what a state with slots stands for

abbrev pub SameThread : Option SlotThread → Option Thread → Bool → Type 0
SameThread None None b = Unit {0}
SameThread None (Some th) b = ⊥
SameThread (Some f) None b = ⊥
SameThread (Some f) (Some th) b = (f.finished ≡ th.finished) × (f.blocked ≡ b)

abbrev pub SameCell : ℕ → State → Option (Cell V) → Type 0
SameCell m s None = slice_get s.cells m ≡ None
SameCell m s (Some c) = Shows m s c

-- all but the terms
pub record Agrees (x : SlotState) (s : State) : Type 0 where
  pub count : length x.threads ≡ length s.threads
  pub threads : (t : ℕ) → SameThread (slice_get x.threads t) (slice_get s.threads t) (is_blocked t s.blocked)
  pub made : length x.cells ≡ length s.cells
  pub cells : (m : ℕ) → SameCell m s (slice_get x.cells m)
  pub flight : x.flight ≡ flight_of s.blocked
  pub sleepers : x.sleepers ≡ sorted_sleepers (sleepers_of s.blocked)
  pub clock : x.clock ≡ s.clock
  pub instances : x.next_instance ≡ s.next_instance
  pub timeouts : x.next_timeout ≡ s.next_timeout
  pub printed : x.printed ≡ length s.output + length s.errors

abbrev pub term_at : Option SlotThread → SlotTerm
term_at None = at (ret UnitValue) []
term_at (Some th) = th.term

abbrev pub terms : List SlotThread → ℕ → SlotTerm
terms ths t = term_at (slice_get ths t)

pub record Represents (ds : List Fn) (x : SlotState) (s : State) : Type 0 where
  pub stacks : StacksStand ds (terms x.threads) s
  pub agrees : Agrees x s

-- The entry is legal in each state of a run that the one stands for, and the other stands for the state that it leaves.
abbrev pub Enters : Script → Entry → SlotState → SlotState → Type 0
Enters script e x y =
    (es : List Entry) (s : State) → IsRun (script_of script) es s → Represents (script_of script) x s →
    (u : State) × Leads (code_of (script_of script)) s e u × Represents (script_of script) y u

-- ---- what is asked of one

-- thread t is there, hasn't finished, isn't blocked, and has this part
pub record StandsAt (x : SlotState) (t : ℕ) (p : SlotPart) : Type 0 where
  pub thread : SlotThread
  pub is : slice_get x.threads t ≡ Some thread
  pub part : thread.term.part ≡ p
  pub unfinished : thread.finished ≡ false
  pub free : thread.blocked ≡ false

-- the main thread hasn't finished
pub record MainGoes (x : SlotState) : Type 0 where
  pub main : SlotThread
  pub is : slice_get x.threads 0 ≡ Some main
  pub unfinished : main.finished ≡ false

-- thread t is there, hasn't finished, and this is all of its term
pub record StandsBare (x : SlotState) (t : ℕ) (p : SlotPart) : Type 0 where
  pub thread : SlotThread
  pub is : slice_get x.threads t ≡ Some thread
  pub term : thread.term ≡ at p []
  pub unfinished : thread.finished ≡ false
  pub free : thread.blocked ≡ false

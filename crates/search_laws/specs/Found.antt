-- What a search has found (own): its states by number, where each came from, and how a run that comes to it has ended.
use Rattle.std.specs.Prelude.{◌≡◌, ◌<◌, ◌≤◌, ◌⊎◌, ℕ, suc, ◌+◌, Bool, true, false, cond, List, [], ◌∷◌, ◌++◌, length, map, Option, Some, None, slice_get}
use Rattle.hs_base.specs.declared.clock_choice.ClockChoice.{ClockChoice}
use Rattle.hs_base.specs.declared.limits.Limits.{Limits}
use Rattle.hs_rules.specs.declared.entry.Entry.{Entry}
use Rattle.hs_rules.specs.declared.entry.Entry.TheVariants as entry
use Rattle.rules_waiting.specs.Waiting.{Sleeper}
use Rattle.hs_rules.specs.State.{State}
use Rattle.hs_rules.specs.Runs.{IsRun}
use Rattle.rules_expansion.specs.trees.Programs.{Fn}
use Rattle.rules_meaning.specs.CoreMeaning.{code_of}
use Rattle.rules_code.specs.CodeTrees.{SlottedFunction}
use Rattle.outcome_laws.specs.Outcomes.{Final, Done, Uncaught, Deadlock, Outcome, ShowsOutcome}
use Rattle.slot_laws.specs.SlotRules.{SlotPart, ret, throw, doing, performs}
use Rattle.slot_states.specs.SlotStates.{SlotThread, SlotState}
use Rattle.slot_states.specs.entering.Entering.{next}
use Rattle.search_laws.specs.Shown.{forget, Shown, StandsAs, FitsIn}
use Rattle.search_laws.specs.Going.{EagerEntries, IsStill, MayTake, steps_by, Takes}

-- ---- where states came from

-- Where a state came from: the state of this number, the entry that was taken there (none for the first state), the eager local
-- rules behind it, and how many steps there are on the path to it.
pub record Source : Type 0 where
  pub parent : ℕ
  pub entry : Option Entry
  pub locals : List Entry
  pub steps : ℕ

-- By this source a search comes to a state: from the first state of a run, or from that of another number.
pub record ComesFirst (clock : ClockChoice) (funs : List SlottedFunction) (limits : Limits) (first : SlotState) (o : Source) (d : Shown) : Type 0 where
  pub within : FitsIn limits first
  pub rests : EagerEntries funs limits.frames o.locals (forget clock first) d.slots
  pub output : d.output ≡ []
  pub errors : d.errors ≡ []
  pub steps : o.steps ≡ length o.locals

pub record ComesBy (clock : ClockChoice) (funs : List SlottedFunction) (limits : Limits) (states : List Shown) (sources : List Source) (e : Entry) (o : Source) (d : Shown) : Type 0 where
  pub parent : Shown
  pub is : slice_get states o.parent ≡ Some parent
  pub source : Source
  pub its : slice_get sources o.parent ≡ Some source
  pub takes : Takes clock funs limits parent e o.locals d
  pub steps : o.steps ≡ source.steps + (steps_by clock e + length o.locals)

abbrev pub ComesOf : ClockChoice → List SlottedFunction → Limits → SlotState → List Shown → List Source → Option Entry → Source → Shown → Type 0
ComesOf clock funs limits first states sources None o d = ComesFirst clock funs limits first o d
ComesOf clock funs limits first states sources (Some e) o d = ComesBy clock funs limits states sources e o d

abbrev pub Comes : ClockChoice → List SlottedFunction → Limits → SlotState → List Shown → List Source → Source → Shown → Type 0
Comes clock funs limits first states sources o d = ComesOf clock funs limits first states sources o.entry o d

-- the first of all has no parent, and the parent of each other has a lower number
abbrev pub IsBefore : Option Entry → ℕ → ℕ → Type 0
IsBefore None parent i = i ≡ 0
IsBefore (Some e) parent i = parent < i

-- the search came to the state of this number by its source
pub record HasSource (clock : ClockChoice) (funs : List SlottedFunction) (limits : Limits) (first : SlotState) (states : List Shown) (sources : List Source) (i : ℕ) (c : Shown) : Type 0 where
  pub source : Source
  pub is : slice_get sources i ≡ Some source
  pub before : IsBefore source.entry source.parent i
  pub comes : Comes clock funs limits first states sources source c

-- so to each
abbrev pub HaveSources : ClockChoice → List SlottedFunction → Limits → SlotState → List Shown → List Source → Type 0
HaveSources clock funs limits first states sources = (i : ℕ) (c : Shown) → slice_get states i ≡ Some c → HasSource clock funs limits first states sources i c

-- ---- where they lead

-- by this entry from the state of the one number, and then so many eager local rules, a search comes to that of the other
pub record Edge : Type 0 where
  pub from : ℕ
  pub entry : Entry
  pub to : ℕ
  pub eager : ℕ

-- the entry and so many eager local rules lead from the one to the other
pub record IsTrueEdge (clock : ClockChoice) (funs : List SlottedFunction) (limits : Limits) (states : List Shown) (g : Edge) : Type 0 where
  pub state : Shown
  pub is : slice_get states g.from ≡ Some state
  pub other : Shown
  pub there : slice_get states g.to ≡ Some other
  pub locals : List Entry
  pub many : length locals ≡ g.eager
  pub takes : Takes clock funs limits state g.entry locals other

-- so does each
abbrev pub AreTrueEdges : ClockChoice → List SlottedFunction → Limits → List Shown → List Edge → Type 0
AreTrueEdges clock funs limits states edges = (k : ℕ) (g : Edge) → slice_get edges k ≡ Some g → IsTrueEdge clock funs limits states g

-- they stand in order of the number from which they lead
abbrev pub AreInOrder : List Edge → Type 0
AreInOrder edges = (k l : ℕ) (g h : Edge) → k ≤ l → slice_get edges k ≡ Some g → slice_get edges l ≡ Some h → g.from ≤ h.from

-- an entry from the state of this number has its edge
pub record IsLed (edges : List Edge) (i : ℕ) (e : Entry) : Type 0 where
  pub place : ℕ
  pub edge : Edge
  pub is : slice_get edges place ≡ Some edge
  pub from : edge.from ≡ i
  pub entry : edge.entry ≡ e

-- an entry from this state has no next state, or it has its edge
abbrev pub IsFollowed : List SlottedFunction → List Edge → ℕ → Shown → Entry → Type 0
IsFollowed funs edges i c e = (z : SlotState) → next funs c.slots e ≡ Some z → IsLed edges i e

-- so each entry that may be taken
abbrev pub IsGone : ClockChoice → List SlottedFunction → List Edge → ℕ → Shown → Type 0
IsGone clock funs edges i c = (e : Entry) → MayTake clock funs c.slots e → IsFollowed funs edges i c e

-- so from each state; and the first one is that to which eager local rules lead from the first state of a run
pub record AreGone (clock : ClockChoice) (funs : List SlottedFunction) (limits : Limits) (first : SlotState) (states : List Shown) (edges : List Edge) : Type 0 where
  pub begin : Shown
  pub is : slice_get states 0 ≡ Some begin
  pub source : Source
  pub comes : ComesFirst clock funs limits first source begin
  pub each : (i : ℕ) (c : Shown) → slice_get states i ≡ Some c → IsGone clock funs edges i c

-- ---- entries to try

-- the entries of a thread of its own that may have a next state, a Local of one step: none where it has finished, and where it is
-- blocked a Receive alone
abbrev pub entries_at : ℕ → SlotThread → List Entry
entries_at t th = cond th.finished [] (cond th.blocked (entry.Receive t ∷ []) (entry.Local t 1 ∷ entry.Op t ∷ entry.Receive t ∷ entry.Finish t ∷ []))

-- those of these threads, which are numbered from t
abbrev pub entries_from : ℕ → List SlotThread → List Entry
entries_from t [] = []
entries_from t (th ∷ ths) = entries_at t th ++ entries_from (suc t) ths

abbrev pub wake_of : Sleeper → Entry
wake_of r = entry.Wake r.thread

-- where the main thread is there and hasn't finished these, else none
abbrev pub where_main_goes : Option SlotThread → List Entry → List Entry
where_main_goes None es = []
where_main_goes (Some main) es = cond main.finished [] es

-- whatever but a Tick may have a next state and be taken is among these
abbrev pub candidates : SlotState → List Entry
candidates x = where_main_goes (slice_get x.threads 0) ((entries_from 0 x.threads ++ map wake_of x.sleepers) ++ entry.Stranded ∷ [])

-- ---- how a run that comes to one has ended

abbrev pub is_value : SlotPart → Bool
is_value (ret v) = true
is_value (throw e) = false
is_value (doing a vs) = false
is_value (performs p) = false

-- by the main thread, where it has finished
abbrev pub finished_by : SlotThread → Option Final
finished_by th = cond th.finished (Some (cond (is_value th.term.part) Done Uncaught)) None

abbrev pub ended_by : Option SlotThread → Option Final
ended_by None = None
ended_by (Some th) = finished_by th

-- no entry has a next state, and nobody sleeps
abbrev pub IsStuck : List SlottedFunction → SlotState → Type 0
IsStuck funs x = IsStill funs x × (x.sleepers ≡ [])

-- how it has ended, if it has: by the main thread, or where that hasn't finished since nothing can go on
abbrev pub EndsAs : List SlottedFunction → SlotState → Option Final → Option Final → Type 0
EndsAs funs x (Some f) end = end ≡ Some f
EndsAs funs x None None = ¬ IsStuck funs x
EndsAs funs x None (Some Done) = ⊥
EndsAs funs x None (Some Uncaught) = ⊥
EndsAs funs x None (Some Deadlock) = IsStuck funs x

-- a state of a search has ended so
abbrev pub HasKind : List SlottedFunction → Shown → Option Final → Type 0
HasKind funs c end = EndsAs funs c.slots (ended_by (slice_get c.slots.threads 0)) end

-- or nobody has looked whether it is stuck
abbrev pub MayHaveKind : List SlottedFunction → Shown → Option Final → Type 0
MayHaveKind funs c end = HasKind funs c end ⊎ (end ≡ ended_by (slice_get c.slots.threads 0))

-- ---- outcomes

-- a run of the script leaves a state that shows this outcome, and a state of the search stands for it
pub record IsSeen (clock : ClockChoice) (ds : List Fn) (states : List Shown) (o : Outcome) : Type 0 where
  pub number : ℕ
  pub state : Shown
  pub is : slice_get states number ≡ Some state
  pub entries : List Entry
  pub reached : State
  pub run : IsRun ds entries reached
  pub stands : StandsAs clock ds state reached
  pub shows : ShowsOutcome (code_of ds) reached o

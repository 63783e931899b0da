-- What holds while a search goes on (own).
use Rattle.std.specs.Prelude.{◌≡◌, ◌≤◌, ◌<◌, ◌+◌, ◌++◌, ℕ, Bool, true, false, List, [], length, Option, Some, None, slice_get}
use Rattle.hs_rules.specs.declared.entry.Entry.{Entry}
use Rattle.rules_code.specs.declared.code.CodeBody.{CodeBody}
use Rattle.outcome_laws.specs.Outcomes as laws
use Rattle.outcome_listing.specs.declared.bounds.Bounds.{Bounds}
use Rattle.outcome_listing.specs.declared.explored.Cause.{Cause}
use Rattle.outcome_listing.specs.declared.explored.Cause.TheVariants as cause
use Rattle.outcome_listing.specs.declared.explored.Final.{Final}
use Rattle.outcome_listing.specs.declared.explored.Final.TheVariants.{Deadlock}
use Rattle.slot_states.specs.SlotStates.{SlotState}
use Rattle.slot_states.specs.entering.Entering.{next}
use Rattle.local_steps.specs.Machine.{funs_of}
use Rattle.number_tables.specs.Tables.{Grows}
use Rattle.number_moves.specs.rests.Rules.{AreRules}
use Rattle.search_laws.specs.Shown.{Shown}
use Rattle.slot_states.specs.Printing.{output_by, errors_by}
use Rattle.search_laws.specs.Going.{IsStill, MayTake, Leaves, steps_by}
use Rattle.search_laws.specs.Found.{Source, Edge, IsTrueEdge, Comes, IsBefore, IsGone, IsFollowed, ended_by, HasKind}
use Rattle.state_search.specs.declared.found.Found.{Found}
use Rattle.number_states.specs.declared.state.NumberState.{NumberState}
use Rattle.state_search.specs.declared.found.Origin.{Origin}
use Rattle.state_search.specs.Meaning.{shown, states_of, sources_of, source_of, edges_of, kinds_of, begun}
use Rattle.state_search.specs.Searching.{Searched}

-- no edge leads from a state with a higher number than this
abbrev pub AreUpTo : ℕ → List Edge → Type 0
AreUpTo n edges = (k : ℕ) (g : Edge) → slice_get edges k ≡ Some g → g.from ≤ n

-- The search has gone on from the states below this number, and knows of these how each has ended, of the others whether main has.
-- What it knows of eager rules is so.
pub record Going (bounds : Bounds) (b : CodeBody) (n : ℕ) (f : Found) : Type 0 where
  pub searched : Searched bounds b f
  pub rules : AreRules b f.numbers f.rules
  pub up_to : AreUpTo n (edges_of f)
  pub gone : f.gap ≡ None → (i : ℕ) (c : Shown) → i < n → slice_get (states_of b f) i ≡ Some c → IsGone bounds.clock (funs_of b) (edges_of f) i c
  pub looked : (i : ℕ) (c : Shown) (k : Option laws.Final) → i < n → slice_get (states_of b f) i ≡ Some c → slice_get (kinds_of f) i ≡ Some k → HasKind (funs_of b) c k
  pub early : (i : ℕ) (c : Shown) (k : Option laws.Final) → n ≤ i → slice_get (states_of b f) i ≡ Some c → slice_get (kinds_of f) i ≡ Some k → k ≡ ended_by (slice_get c.slots.threads 0)

-- there is a first state, or a gap
abbrev pub HasBegun : Found → Type 0
HasBegun f = f.gap ≡ None → 0 < length f.states

-- the other has found more than the one, and has a gap where that has
pub record Extends (b : CodeBody) (old new : Found) : Type 0 where
  pub states : Grows (states_of b old) (states_of b new)
  pub edges : Grows (edges_of old) (edges_of new)
  pub gap : new.gap ≡ None → old.gap ≡ None

-- an entry was tried in the state of this number
abbrev pub IsTried : Bounds → CodeBody → Found → ℕ → Entry → Bool → Type 0
IsTried bounds b f i e true = (c : Shown) → slice_get (states_of b f) i ≡ Some c → ((z : SlotState) × (next (funs_of b) c.slots e ≡ Some z)) × (f.gap ≡ None → IsFollowed (funs_of b) (edges_of f) i c e)
IsTried bounds b f i e false = (c : Shown) → slice_get (states_of b f) i ≡ Some c → next (funs_of b) c.slots e ≡ None

-- By this source the search comes to what this state in numbers shows, from a state that there is; so what is found may have it too.
pub record ComesTo (bounds : Bounds) (b : CodeBody) (f : Found) (o : Origin) (n : NumberState) : Type 0 where
  pub comes : Comes bounds.clock (funs_of b) bounds.limits (begun b) (states_of b f) (sources_of f) (source_of o) (shown f.numbers b n)
  pub before : IsBefore o.entry o.parent (length f.states)

-- a state on a path of so many steps may be added
abbrev pub MayAdd : Bounds → Found → ℕ → Type 0
MayAdd bounds f steps = (steps ≤ bounds.fuel) × (length f.states < bounds.states)

-- for this cause it may not
abbrev pub Bars : Bounds → Found → ℕ → Cause → Type 0
Bars bounds f steps cause.Fuel = bounds.fuel < steps
Bars bounds f steps cause.States = bounds.states ≤ length f.states
Bars bounds f steps cause.Clock = ⊥
Bars bounds f steps (cause.Limit kind) = ⊥

-- the state of this number shows what that one does
abbrev pub IsKeptAt : CodeBody → Found → ℕ → Shown → Type 0
IsKeptAt b f i d = slice_get (states_of b f) i ≡ Some d

-- the entry may be taken there
abbrev pub MayBeTaken : Bounds → CodeBody → Found → ℕ → Entry → Type 0
MayBeTaken bounds b f i e = (c : Shown) → slice_get (states_of b f) i ≡ Some c → MayTake bounds.clock (funs_of b) c.slots e

-- ---- what an entry left

-- a run begins with this, before there is any state
pub record IsFirstLeft (b : CodeBody) (f : Found) (x : Shown) (n : ℕ) : Type 0 where
  pub slots : x.slots ≡ begun b
  pub output : x.output ≡ []
  pub errors : x.errors ≡ []
  pub steps : n ≡ 0
  pub none : length f.states ≡ 0

-- the entry leaves this of the state of a number, with what it prints, on a path of so many steps
pub record IsLeftOf (bounds : Bounds) (b : CodeBody) (f : Found) (e : Entry) (parent : ℕ) (x : Shown) (n : ℕ) : Type 0 where
  pub state : Shown
  pub is : slice_get (states_of b f) parent ≡ Some state
  pub source : Source
  pub its : slice_get (sources_of f) parent ≡ Some source
  pub leaves : Leaves bounds.clock (funs_of b) state.slots e x.slots
  pub output : x.output ≡ state.output ++ output_by state.slots e
  pub errors : x.errors ≡ state.errors ++ errors_by state.slots e
  pub steps : n ≡ source.steps + steps_by bounds.clock e

abbrev pub IsLeftBy : Bounds → CodeBody → Found → Option Entry → ℕ → Shown → ℕ → Type 0
IsLeftBy bounds b f None parent x n = IsFirstLeft b f x n
IsLeftBy bounds b f (Some e) parent x n = IsLeftOf bounds b f e parent x n

-- the entry and so many eager local rules lead from the state of the one number to that of the other; without one there is a state
-- of that number
abbrev pub ArrivesAt : Bounds → CodeBody → Found → Option Entry → ℕ → ℕ → ℕ → Type 0
ArrivesAt bounds b f None parent to eager = to < length f.states
ArrivesAt bounds b f (Some e) parent to eager = IsTrueEdge bounds.clock (funs_of b) bounds.limits (states_of b f) (record { from = parent; entry = e; to = to; eager = eager })

-- ---- where nothing goes on

-- no entry but a Tick has a next state in the state of this number
abbrev pub IsStillAt : CodeBody → Found → ℕ → Type 0
IsStillAt b f i = (c : Shown) → slice_get (states_of b f) i ≡ Some c → IsStill (funs_of b) c.slots

-- how a state has ended where nothing can go on and nobody sleeps, by how it has ended by main
abbrev pub settled : Option Final → Option Final
settled None = Some Deadlock
settled (Some f) = Some f

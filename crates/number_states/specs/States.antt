-- States in numbers (own): what they stand for, which is a state with slots.
use Rattle.std.specs.Prelude.{◌≡◌, ℕ, ◌<◌, false, Option, Some, None, List, [], ◌∷◌, map, length}
use Rattle.std.specs.List.{AllByRecursion}
use Rattle.rules_code.specs.declared.code.CodeBody.{CodeBody}
use Rattle.rules_waiting.specs.OneCell.{Want, To_take, To_read, To_put, Place, Cell}
use Rattle.rules_waiting.specs.Waiting.{sorted_sleepers}
use Rattle.slot_states.specs.mapping.Mapped.{map_cell}
use Rattle.rules_code.specs.CodeTrees.{Sa}
use Rattle.slot_laws.specs.SlotRules.{SlotPart, at, doing}
use Rattle.slot_states.specs.SlotStates.{SlotThread, SlotState, resumed}
use Rattle.number_states.specs.declared.waits.flight.Thrown.{Thrown}
use Rattle.number_states.specs.declared.waits.sleepers.Asleep.{Asleep}
use Rattle.number_states.specs.waits.Throwing.{map_flight}
use Rattle.number_states.specs.waits.Sleeping.{sleepers, undue}
use Rattle.number_states.specs.declared.state.NumberThread.{NumberThread}
use Rattle.number_states.specs.declared.state.NumberState.{NumberState}
use Rattle.number_states.specs.Stocks.{Stock, value_at, exception_at, term_at, IsTerm}

-- what a state in numbers holds, with lists for its vectors
pub record Contents : Type 0 where
  pub threads : List NumberThread
  pub cells : List (Cell ℕ)
  pub flight : List Thrown
  pub sleepers : List Asleep
  pub clock : ℕ
  pub instances : ℕ
  pub timeouts : ℕ
  pub printed : ℕ
  pub output : ℕ
  pub errors : ℕ

abbrev pub contents : NumberState → Contents
contents x = record {
  threads = x.threads.items;
  cells = x.cells.items;
  flight = x.flight.items;
  sleepers = x.sleepers.items;
  clock = x.clock;
  instances = x.instances;
  timeouts = x.timeouts;
  printed = x.printed;
  output = x.output;
  errors = x.errors;
}

-- ---- what it stands for

abbrev pub thread_of : Stock → CodeBody → NumberThread → SlotThread
thread_of g b th = record { term = term_at g b th.term; blocked = th.blocked; finished = th.finished }

abbrev pub slots_of : Stock → CodeBody → Contents → SlotState
slots_of g b x = record {
  threads = map (thread_of g b) x.threads;
  cells = map (map_cell (value_at g)) x.cells;
  flight = map_flight (exception_at g) x.flight;
  sleepers = sleepers x.sleepers;
  clock = x.clock;
  next_instance = x.instances;
  next_timeout = x.timeouts;
  printed = x.printed;
}

-- the state with slots that a state in numbers stands for, where the tables have this stock and the actions are of this code
abbrev pub slots : Stock → CodeBody → NumberState → SlotState
slots g b x = slots_of g b (contents x)

-- ---- all its numbers are those of something

abbrev pub IsValueWithin : ℕ → Option ℕ → Type 0
IsValueWithin count None = Unit {0}
IsValueWithin count (Some n) = n < count

abbrev pub WantIsWithin : ℕ → Want ℕ → Type 0
WantIsWithin count To_take = Unit {0}
WantIsWithin count To_read = Unit {0}
WantIsWithin count (To_put n) = n < count

abbrev pub LineIsWithin : ℕ → List (Place ℕ) → Type 0
LineIsWithin count [] = Unit {0}
LineIsWithin count (p ∷ ps) = WantIsWithin count p.want × LineIsWithin count ps

-- the values of a cell have numbers below this one
pub record CellIsWithin (count : ℕ) (c : Cell ℕ) : Type 0 where
  pub content : IsValueWithin count c.content
  pub line : LineIsWithin count c.line

pub record AllIn (g : Stock) (x : Contents) : Type 0 where
  pub threads : AllByRecursion (λ (th : NumberThread). IsTerm g th.term) x.threads
  pub cells : AllByRecursion (CellIsWithin (length g.values)) x.cells
  pub flight : AllByRecursion (λ (f : Thrown). f.exn < length g.exceptions) x.flight
  pub output : x.output < length g.texts
  pub errors : x.errors < length g.texts

abbrev pub AreIn : Stock → NumberState → Type 0
AreIn g x = AllIn g (contents x)

-- ---- changes

-- The state y in a stock h stands for what f, by the code, makes of what x in g stands for. Its numbers are those of something,
-- and the texts that were printed have the same numbers.
pub record Becomes (f : CodeBody → SlotState → SlotState) (g : Stock) (x : NumberState) (h : Stock) (y : NumberState) : Type 0 where
  pub is : (b : CodeBody) → slots h b y ≡ f b (slots g b x)
  pub there : AreIn h y
  pub output : y.output ≡ x.output
  pub errors : y.errors ≡ x.errors

-- thread t goes on with this part
abbrev pub resumes : ℕ → SlotPart → SlotState → SlotState
resumes t p x = record x { threads = resumed t p x.threads }

-- ---- the first state

-- the main thread alone is to do this action
abbrev pub first_slots : Sa → SlotState
first_slots tree = record {
  threads = record { term = at (doing tree []) []; blocked = false; finished = false } ∷ [];
  cells = [];
  flight = [];
  sleepers = [];
  clock = 0;
  next_instance = 0;
  next_timeout = 0;
  printed = 0;
}

-- ---- without time

-- every sleeper is due at 0, and so is the clock
abbrev pub untimed : SlotState → SlotState
untimed x = record x { sleepers = sorted_sleepers (undue x.sleepers); clock = 0 }

-- What resting makes of a state (own).
use Rattle.std.specs.Prelude.{◌≡◌, ◌≤◌, ℕ, Bool, true, false, List, ◌++◌, length, Some, slice_get}
use Rattle.hs_rules.specs.declared.entry.Entry.{Entry}
use Rattle.hs_rules.specs.declared.entry.LimitKind.TheVariants as limit
use Rattle.rules_code.specs.CodeTrees.{SlottedFunction}
use Rattle.slot_states.specs.SlotStates.{SlotState}
use Rattle.slot_states.specs.Resting.{used}
use Rattle.search_laws.specs.rests.Rests.{EagerMove}
use Rattle.number_states.specs.declared.state.NumberThread.{NumberThread}
use Rattle.number_states.specs.declared.state.NumberState.{NumberState}
use Rattle.search_laws.specs.Going.{EagerEntries}

-- the main thread hasn't finished, and thread t is there, hasn't finished and isn't blocked
pub record IsFree (n : NumberState) (t : ℕ) : Type 0 where
  pub main : NumberThread
  pub main_is : slice_get n.threads.items 0 ≡ Some main
  pub main_goes : main.finished ≡ false
  pub thread : NumberThread
  pub is : slice_get n.threads.items t ≡ Some thread
  pub unfinished : thread.finished ≡ false
  pub free : thread.blocked ≡ false

-- one eager local rule of thread t leads from a state to another, which has at most so many frames; or it is the same
abbrev pub MovesOn : List SlottedFunction → ℕ → ℕ → SlotState → SlotState → Bool → Type 0
MovesOn funs most t x y true = (move : EagerMove funs x y) × (move.number ≡ t) × (used limit.Frames y ≤ most)
MovesOn funs most t x y false = y ≡ x

-- so many eager local rules lead from a state to another, none to more frames than may be, and their entries stand behind others
pub record Rests (funs : List SlottedFunction) (most count : ℕ) (old new : List Entry) (x y : SlotState) : Type 0 where
  pub locals : List Entry
  pub behind : new ≡ old ++ locals
  pub many : length locals ≡ count
  pub rests : EagerEntries funs most locals x y

-- how many rules are taken at once at most
abbrev pub most_rules : ℕ
most_rules = 1024

-- How a search goes on from a state (own): by one entry, and then by eager local rules, which it needn't put off.
use Rattle.std.specs.Prelude.{◌≡◌, ◌≤◌, ℕ, List, [], ◌∷◌, ◌++◌, Some, None}
use Rattle.hs_base.specs.declared.clock_choice.ClockChoice.{ClockChoice}
use Rattle.hs_base.specs.declared.clock_choice.ClockChoice.TheVariants.{Real, Virtual}
use Rattle.hs_base.specs.declared.limits.Limits.{Limits}
use Rattle.hs_rules.specs.declared.entry.Entry.{Entry}
use Rattle.hs_rules.specs.declared.entry.Entry.TheVariants as entry
use Rattle.hs_rules.specs.declared.entry.LimitKind.TheVariants as limit
use Rattle.hs_rules.specs.Endings.{IsTick}
use Rattle.rules_code.specs.CodeTrees.{SlottedFunction}
use Rattle.rules_waiting.specs.Waiting.{earliest}
use Rattle.slot_states.specs.SlotStates.{SlotState}
use Rattle.slot_states.specs.Resting.{used}
use Rattle.slot_states.specs.Printing.{output_by, errors_by}
use Rattle.slot_states.specs.entering.Entering.{next}
use Rattle.search_laws.specs.time.WithoutTime.{ReadsClock}
use Rattle.search_laws.specs.rests.Rests.{EagerMove}
use Rattle.search_laws.specs.Shown.{forget, Shown, FitsIn}

-- ---- eager local rules with their entries

-- A chain of eager local rules leads from a state to another, and these are its entries, each a Local of one step; no state that
-- one of them leaves has more than so many frames.
abbrev pub EagerEntries : List SlottedFunction → ℕ → List Entry → SlotState → SlotState → Type 0
EagerEntries funs most [] x y = x ≡ y
EagerEntries funs most (e ∷ es) x y =
    (m : SlotState) × (move : EagerMove funs x m) × (e ≡ entry.Local move.number 1) × (used limit.Frames m ≤ most) × EagerEntries funs most es m y

-- ---- which entries a search takes

-- no entry but a Tick has a next state
abbrev pub IsStill : List SlottedFunction → SlotState → Type 0
IsStill funs x = (e : Entry) → ¬ IsTick e → next funs x e ≡ None

-- in real timing an entry reads the clock
abbrev pub ReadsTime : ClockChoice → SlotState → Entry → Type 0
ReadsTime Real x e = ReadsClock x e
ReadsTime Virtual x e = ⊥

-- A Local of one step may be taken; a Tick in virtual timing alone, where nothing else has a next state and to the first due; any
-- other entry may.
abbrev pub MayTake : ClockChoice → List SlottedFunction → SlotState → Entry → Type 0
MayTake clock funs x (entry.Tick at) = (clock ≡ Virtual) × IsStill funs x × (earliest x.sleepers ≡ Some at)
MayTake clock funs x (entry.Local t k) = k ≡ 1
MayTake clock funs x (entry.Op t) = Unit {0}
MayTake clock funs x (entry.Receive t) = Unit {0}
MayTake clock funs x (entry.Wake t) = Unit {0}
MayTake clock funs x (entry.Finish t) = Unit {0}
MayTake clock funs x entry.Stranded = Unit {0}

-- how many steps an entry that is taken has: one, and in real timing a Wake two, with the Tick that it may wait for.
abbrev pub steps_by : ClockChoice → Entry → ℕ
steps_by Real (entry.Wake t) = 2
steps_by clock e = 1

-- an entry that may be taken, and reads no time, leads from a state to another
pub record Leaves (clock : ClockChoice) (funs : List SlottedFunction) (x : SlotState) (e : Entry) (z : SlotState) : Type 0 where
  pub may : MayTake clock funs x e
  pub timeless : ¬ ReadsTime clock x e
  pub leaves : next funs x e ≡ Some z

-- Such an entry and then these eager local rules lead from a state to another, within these limits; what the entry prints stands
-- behind what was printed.
pub record Takes (clock : ClockChoice) (funs : List SlottedFunction) (limits : Limits) (c : Shown) (e : Entry) (locals : List Entry) (d : Shown) : Type 0 where
  pub left : SlotState
  pub enters : Leaves clock funs c.slots e left
  pub within : FitsIn limits left
  pub rests : EagerEntries funs limits.frames locals (forget clock left) d.slots
  pub output : d.output ≡ c.output ++ output_by c.slots e
  pub errors : d.errors ≡ c.errors ++ errors_by c.slots e

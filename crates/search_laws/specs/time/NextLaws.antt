-- That what has a next state without time can be given time (own).
use Rattle.std.specs.Prelude.{◌≡◌, ◌⊎◌, ℕ, List, Some}
use Rattle.hs_rules.specs.declared.entry.Entry.{Entry}
use Rattle.hs_rules.specs.declared.entry.Entry.TheVariants.{Tick, Wake}
use Rattle.rules_code.specs.CodeTrees.{SlottedFunction}
use Rattle.hs_rules.specs.Endings.{IsTick}
use Rattle.exn_flight.specs.Asleep.{due_of}
use Rattle.slot_states.specs.SlotStates.{SlotState}
use Rattle.slot_states.specs.entering.Entering.{next}
use Rattle.search_laws.specs.time.WithoutTime.{untimed, ReadsClock, due_first}

-- Where an entry other than a Tick and a reading of the clock has a next state without time, it has one, the same but for time,
-- once the sleeper that it wakes is due.
abbrev pub NextIsGivenTime : Type 0
NextIsGivenTime =
    (funs : List SlottedFunction) (x z : SlotState) (e : Entry) → next funs (untimed x) e ≡ Some z → ¬ IsTick e →
    ¬ ReadsClock x e →
    (y : SlotState) × (next funs (due_first x e) e ≡ Some y) × (untimed y ≡ untimed z)

-- Where an entry has a next state without time, what it needs to be due is so, or one Tick to the time of the sleeper that it
-- wakes, which has a next state, makes it so.
abbrev pub OneTickMakesDue : Type 0
OneTickMakesDue =
    (funs : List SlottedFunction) (x z : SlotState) (e : Entry) → next funs (untimed x) e ≡ Some z →
    (due_first x e ≡ x) ⊎
    ((t : ℕ) × (due : ℕ) × (e ≡ Wake t) × (due_of t x.sleepers ≡ Some due) × (next funs x (Tick due) ≡ Some (due_first x e)))

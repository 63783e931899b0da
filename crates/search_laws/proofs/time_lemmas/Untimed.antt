-- States with slots without time, and those that may not be there.
use Rattle.std.proofs.Common.{◌≡◌, Bool, true, false, cond, List, Option, Some, None, refl, ap}
use Rattle.rules_waiting.specs.Waiting.{Sleeper}
use Rattle.slot_states.specs.SlotStates.{SlotThread, SlotState}
use Rattle.slot_states.specs.entering.Entering.{on_thread}
use Rattle.search_laws.specs.time.WithoutTime.{untimed}
use Rattle.search_laws.proofs.time_lemmas.Sleepers.{untimed_twice}

pub twice : (x : SlotState) → untimed (untimed x) ≡ untimed x
twice x = ap (λ (ss : List Sleeper). record x { sleepers = ss; clock = 0 }) (untimed_twice x.sleepers)

abbrev pub without_time : Option SlotState → Option SlotState
without_time None = None
without_time (Some x) = Some (untimed x)

-- both are there and the same but for time, or neither is there
abbrev pub Alikes : Option SlotState → Option SlotState → Type 0
Alikes o p = without_time o ≡ without_time p

-- what changes nothing that time touches does alike
pub again : (x : SlotState) → Alikes (Some (untimed x)) (Some x)
again x = ap Some (twice x)

pub either_alike : (b : Bool) (o p q r : Option SlotState) → Alikes o q → Alikes p r → Alikes (cond b o p) (cond b q r)
either_alike true o p q r h k = h
either_alike false o p q r h k = k

pub on_alike : (o : Option SlotThread) (k l : SlotThread → Option SlotState) → ((th : SlotThread) → o ≡ Some th → Alikes (k th) (l th)) → Alikes (on_thread o k) (on_thread o l)
on_alike None k l h = refl
on_alike (Some th) k l h = either_alike th.finished None (k th) None (l th) refl (h th refl)

-- what is alike to a state that is there
pub alike_there : (o : Option SlotState) (y : SlotState) → Alikes o (Some y) → (z : SlotState) × (o ≡ Some z) × (untimed z ≡ untimed y)
alike_there None y h = absurd (cc h)
alike_there (Some z) y h = (z, refl, cc h)

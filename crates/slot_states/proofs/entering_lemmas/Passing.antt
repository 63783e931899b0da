-- What an entry that leaves a state with slots has passed.
use Rattle.std.proofs.Common.{◌≡◌, Bool, true, false, cond, Option, Some, None, refl, ap, ◌∙◌}
use Rattle.slot_states.specs.SlotStates.{SlotThread, SlotState}
use Rattle.slot_states.specs.entering.Entering.{on_thread}

pub passed_not : (b : Bool) (o : Option SlotState) (y : SlotState) → cond b None o ≡ Some y → (b ≡ false) × (o ≡ Some y)
passed_not true o y e = absurd (cc e)
passed_not false o y e = (refl, e)

pub passed : (b : Bool) (o : Option SlotState) (y : SlotState) → cond b o None ≡ Some y → (b ≡ true) × (o ≡ Some y)
passed true o y e = (refl, e)
passed false o y e = absurd (cc e)

-- the thread of an entry is there and hasn't finished
pub thread_there : (o : Option SlotThread) (k : SlotThread → Option SlotState) (y : SlotState) → on_thread o k ≡ Some y → (th : SlotThread) × (o ≡ Some th) × (th.finished ≡ false) × (k th ≡ Some y)
thread_there None k y e = absurd (cc e)
thread_there (Some th) k y e = let p = passed_not th.finished (k th) y e in (th, refl, p.0, p.1)

-- and where it is there and hasn't finished the entry leaves what is said of it
pub thread_leaves : (o : Option SlotThread) (k : SlotThread → Option SlotState) (th : SlotThread) (r : Option SlotState) → o ≡ Some th → th.finished ≡ false → k th ≡ r → on_thread o k ≡ r
thread_leaves o k th r is f e = ap (λ z. on_thread z k) is ∙ (ap (λ b. cond b None (k th)) f ∙ e)

-- an entry that leaves none
pub none_or : (o : Option SlotState) → ((y : SlotState) → ¬ (o ≡ Some y)) → o ≡ None
none_or None n = refl
none_or (Some y) n = absurd (n y refl)

-- Who waits, and for what (own): each law is of a state with slots that stands for one of the rules.
use Rattle.std.specs.Prelude.{◌≡◌, [], ◌∷◌, ℕ, ℤ, Some, slice_get, true, false}
use Rattle.hs_base.specs.declared.exn.Exn.{Exn}
use Rattle.rules_meaning.specs.Values as val
use Rattle.rules_meaning.specs.Values.{Int, Exception}
use Rattle.rules_expansion.specs.declared.primitive.Primitive.TheVariants.{ThreadDelay, ThrowTo}
use Rattle.rules_waiting.specs.Waiting.{flying_to, first_thrown, first_awake, is_throwing, is_sleeping}
use Rattle.slot_laws.specs.SlotRules.{performs, calls, SlotOp}
use Rattle.slot_states.specs.SlotStates.{SlotThread, SlotState, left_lines, StandsAt}
use Rattle.slot_states.specs.Resting.{NotThrowing, NotAsleep}

-- A blocked thread hasn't finished and stands at an operation.
abbrev pub BlockedStandAtOperations : SlotState → Type 0
BlockedStandAtOperations x =
    (t : ℕ) (th : SlotThread) → slice_get x.threads t ≡ Some th → th.blocked ≡ true →
    (th.finished ≡ false) × ((op : SlotOp) × (th.term.part ≡ performs op))

-- Whose exception is the first in flight to a thread is there and is blocked.
abbrev pub ThrowersAreBlocked : SlotState → Type 0
ThrowersAreBlocked x =
    (t w : ℕ) (e : Exn) → first_thrown (flying_to t x.flight) ≡ Some (w, e) →
    (th : SlotThread) × (slice_get x.threads w ≡ Some th) × (th.blocked ≡ true)

-- Who is the first sleeper that is due is there and is blocked.
abbrev pub SleepersAreBlocked : SlotState → Type 0
SleepersAreBlocked x =
    (t : ℕ) → first_awake x.clock x.sleepers ≡ Some t →
    (th : SlotThread) × (slice_get x.threads t ≡ Some th) × (th.blocked ≡ true)

-- A thread that is blocked at a throw stands in no line and doesn't sleep.
abbrev pub ThrowersOnlyThrow : SlotState → Type 0
ThrowersOnlyThrow x =
    (t u : ℕ) (e : Exn) (th : SlotThread) → slice_get x.threads t ≡ Some th → th.blocked ≡ true →
    th.term.part ≡ performs (calls ThrowTo (val.Thread u ∷ Exception e ∷ [])) →
    (left_lines t x.cells ≡ x.cells) × NotAsleep t x.sleepers

-- A thread that is blocked at a delay stands in no line and has nothing in flight.
abbrev pub SleepersOnlySleep : SlotState → Type 0
SleepersOnlySleep x =
    (t : ℕ) (n : ℤ) (th : SlotThread) → slice_get x.threads t ≡ Some th → th.blocked ≡ true →
    th.term.part ≡ performs (calls ThreadDelay (Int n ∷ [])) →
    (left_lines t x.cells ≡ x.cells) × NotThrowing t x.flight

-- A thread that isn't blocked stands in no line, has nothing in flight and doesn't sleep.
abbrev pub FreeThreadsWaitForNothing : SlotState → Type 0
FreeThreadsWaitForNothing x =
    (t : ℕ) (th : SlotThread) → slice_get x.threads t ≡ Some th → th.blocked ≡ false →
    (left_lines t x.cells ≡ x.cells) × NotThrowing t x.flight × NotAsleep t x.sleepers × (is_throwing t x.flight ≡ false) ×
    (is_sleeping t x.sleepers ≡ false)

-- A thread that throws at another names one that is there.
abbrev pub TargetsAreThere : SlotState → Type 0
TargetsAreThere x =
    (t u : ℕ) (e : Exn) → StandsAt x t (performs (calls ThrowTo (val.Thread u ∷ Exception e ∷ []))) →
    (th : SlotThread) × (slice_get x.threads u ≡ Some th)

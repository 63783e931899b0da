-- Who stands in the line of a cell (own).
use Rattle.std.specs.Prelude.{◌≡◌, ℕ, Some, slice_get, true, false}
use Rattle.rules_waiting.specs.OneCell.{stands_in}
use Rattle.slot_states.specs.SlotStates.{SlotThread, SlotState, cell_at}
use Rattle.slot_states.specs.Resting.{WaitsAt, InLine}

-- Whoever stands in the line of a cell is there, is blocked, hasn't finished and stands at an operation that waits at that
-- cell.
abbrev pub WaitersAreBlocked : SlotState → Type 0
WaitersAreBlocked x =
    (u m : ℕ) → stands_in u (cell_at m x.cells).line ≡ true →
    (th : SlotThread) × (slice_get x.threads u ≡ Some th) × (th.blocked ≡ true) × (th.finished ≡ false) × WaitsAt m th.term.part

-- A thread that is blocked at an operation that waits at a cell stands in the line of that cell, and waits for nothing else.
abbrev pub BlockedAreInLine : SlotState → Type 0
BlockedAreInLine x =
    (t m : ℕ) (th : SlotThread) → slice_get x.threads t ≡ Some th → th.blocked ≡ true → WaitsAt m th.term.part → InLine t m x

-- Lines that a thread leaves, and values that begin with a cell (own).
use Rattle.std.specs.Prelude.{ℕ, Bool, true, false, List, [], ◌∷◌}
use Rattle.rules_meaning.specs.Values as val
use Rattle.rules_meaning.specs.Values.{V}
use Rattle.rules_waiting.specs.OneCell.{Cell, cell_of, leaves_line}

-- the thread leaves the line of each of these cells
abbrev pub lines_left : {A : Type 0} → ℕ → List (Cell A) → List (Cell A)
lines_left t [] = []
lines_left t (c ∷ cs) = cell_of c.content (leaves_line t c.line) ∷ lines_left t cs

-- whether the first of these values is a cell
abbrev pub is_cell_first : List V → Bool
is_cell_first (val.Cell m ∷ vs) = true
is_cell_first _ = false

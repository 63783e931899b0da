-- What `Cells` means: each cell, by number, and how many more cells and waiters fit.
use Rattle.std.specs.Prelude.{◌≡◌, ◌-◌, ◌^◌, ℕ, ◌<◌, Bool, true, false, is_some, min, List, [], ◌∷◌, length, None, slice_index_or}
use Rattle.hs_base.specs.declared.value.Value.{Value}
use Rattle.rules_waiting.specs.OneCell.{Cell, Want, To_take, To_read, To_put, Place, cell_of, readers, stands_in}
use Rattle.mvar_cell.specs.Lined.{Lined}
use Rattle.mvar_cell.specs.declared.cells.Stored.{Stored}

pub record Mvars : Type 0 where
  pub cells : List (Cell Value)
  pub spare : ℕ

-- ---- how the code holds them
abbrev pub puts_it : Want Value → Bool
puts_it To_take = false
puts_it To_read = false
puts_it (To_put v) = true

-- At a full cell all wait to put, and at an empty one nobody does.
abbrev pub AllWait : Bool → List (Place Value) → Type 0
AllWait full [] = Unit {0}
AllWait full (p ∷ ps) = (puts_it p.want ≡ full) × AllWait full ps

-- No thread stands twice in a line.
abbrev pub IsDistinct : List (Place Value) → Type 0
IsDistinct [] = Unit {0}
IsDistinct (p ∷ ps) = (stands_in p.thread ps ≡ false) × IsDistinct ps

pub record IsCell (stored : Stored) (line : List (Place Value)) : Type 0 where
  pub waits : AllWait (is_some stored.content) line
  pub distinct : IsDistinct line
  pub counted : stored.readers ≡ length (readers line)

-- nothing is stored
abbrev pub no_content : Stored
no_content = record { content = None; readers = 0 }

pub record AreCells (stored : List Stored) (lines : List (List (Place Value))) : Type 0 where
  pub sizes : length stored ≡ length lines
  pub each : (k : ℕ) → k < length lines → IsCell (slice_index_or stored k no_content) (slice_index_or lines k [])

-- contents with their lines
abbrev pub cells_of : List Stored → List (List (Place Value)) → List (Cell Value)
cells_of [] ls = []
cells_of (s ∷ ss) [] = []
cells_of (s ∷ ss) (l ∷ ls) = cell_of s.content l ∷ cells_of ss ls

-- these contents with these lines, where so many contents fit; cell numbers are below 2 ^ 32
abbrev pub mvars : List Stored → Lined → ℕ → Mvars
mvars stored ls capacity =
    record { cells = cells_of stored ls.lines; spare = min (min (capacity - length stored) ls.spare) (2 ^ 32 - length stored) }

-- Readers of one cell, taken out of its line one by one.
use Rattle.std.specs.Prelude.{◌≡◌, ℕ, ◌<◌, List, [], ◌∷◌, ◌++◌, length, Option, Some, None}
use Rattle.hs_base.specs.declared.value.Value.{Value}
use Rattle.rules_waiting.specs.OneCell.{Call, Leave, Reply, readers, first_take, shown}
use Rattle.mvar_cell.specs.Mvars.{Mvars}
use Rattle.mvar_cell.specs.Calls.{cell_at, IsCall, NobodyReads}

-- This thread was the first to read, and leaves the line. The other readers, and who is the first to take, are as they were.
pub record FirstReads (t m : ℕ) (old new : Mvars) : Type 0 where
  pub readers : readers (cell_at m old).line ≡ t ∷ readers (cell_at m new).line
  pub takers : first_take (cell_at m new).line ≡ first_take (cell_at m old).line
  pub leaves : IsCall (Leave t) m old new []

-- the next reader of cell m, or nobody, and then nothing changed
abbrev pub IsNextReader : Option ℕ → ℕ → Mvars → Mvars → Type 0
IsNextReader None m old new = NobodyReads m old × (new.cells ≡ old.cells)
IsNextReader (Some t) m old new = FirstReads t m old new

-- these are the next readers, one after another, and then there is nobody
abbrev pub AreAllReaders : List ℕ → ℕ → Mvars → Mvars → Type 0
AreAllReaders [] m old new = IsNextReader None m old new
AreAllReaders (t ∷ ts) m old new = (mid : Mvars) × IsNextReader (Some t) m old mid × AreAllReaders ts m mid new

-- A call of thread t that brings a value to an empty cell, behind its readers: all of these together are that one call of the
-- machine, in which each reader is answered the value first.
abbrev pub IsOneCallWithReaders : (ℕ → Value → Call Value) → Type 0
IsOneCallWithReaders q =
    (ts : List ℕ) (m t : ℕ) (v : Value) (old mid new : Mvars) (rs : List (Reply Value)) → m < length old.cells → (cell_at m old).content ≡ None
    → AreAllReaders ts m old mid → IsCall (q t v) m mid new rs → IsCall (q t v) m old new (shown v ts ++ rs)

-- How a line remembers a place up to which no reader stands.
use Rattle.std.specs.Prelude.{◌≡◌, ℕ, suc, ◌<◌, ◌≤◌, ◌==◌, cond, false, List, length, Option, Some, None, slice_index_or}
use Rattle.slab.specs.Slab.{Slab, get}
use Rattle.mvar_cell.specs.declared.lines.Sought.{Sought}
use Rattle.mvar_cell.specs.declared.lines.Sought.TheVariants.{Thread, Reader}
use Rattle.mvar_cell.specs.declared.lines.LineNode.{LineNode}
use Rattle.mvar_cell.specs.declared.lines.Ends.{Ends}
use Rattle.mvar_cell.specs.Nodes.{next_of, places, any_sought, walk}

-- of n places from node i on, node key has one, and neither there nor in front of it stands a reader
pub record IsPassed (s : Slab LineNode) (n i key : ℕ) : Type 0 where
  pub steps : ℕ
  pub within : steps < n
  pub is : key ≡ walk s steps i
  pub clear : any_sought Reader (places s (suc steps) i) ≡ false

-- the cursor, if there is one, stands where no reader stands up to it
abbrev pub HasPassed : Slab LineNode → ℕ → ℕ → Option ℕ → Type 0
HasPassed s n i None = Unit {0}
HasPassed s n i (Some key) = IsPassed s n i key

-- no reader stands up to the cursor of this line
abbrev pub IsMarked : Slab LineNode → Ends → Type 0
IsMarked s e = HasPassed s e.len e.first e.cursor

-- so it is in each line
abbrev pub AreMarked : List Ends → Slab LineNode → Type 0
AreMarked es s = (k : ℕ) (d : Ends) → k < length es → IsMarked s (slice_index_or es k d)

-- A search for the first reader has come to this node, which is no fewer than step - 1 steps behind the first. No reader
-- stands up to it.
pub record Searches (s : Slab LineNode) (e : Ends) (step at : ℕ) : Type 0 where
  pub passed : IsPassed s e.len e.first at
  pub far : step ≤ suc passed.steps

-- the cursor once this node has left: where it stood there, it is this one instead
abbrev pub moved_cursor : Option ℕ → ℕ → Option ℕ → Option ℕ
moved_cursor None gone before = None
moved_cursor (Some at) gone before = cond (at == gone) before (Some at)

-- the cursor once the node behind node p, the first that is sought, has left
abbrev pub cursor_after_leaving : Slab LineNode → Sought → ℕ → Option ℕ → Option ℕ
cursor_after_leaving s (Thread t) p cursor = moved_cursor cursor (next_of (get s p)) (Some p)
cursor_after_leaving s Reader p cursor = Some p

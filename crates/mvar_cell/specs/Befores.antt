-- How the table says, for each thread that is not the first of its line, which node stands before its own.
use Rattle.std.specs.Prelude.{◌≡◌, ◌≢◌, ℕ, zero, suc, ◌-◌, ◌<◌, ◌==◌, cond, List, length, Option, Some, None, slice_index_or}
use Rattle.slab.specs.Slab.{Slab, get}
use Rattle.mvar_cell.specs.declared.lines.LineNode.{LineNode}
use Rattle.mvar_cell.specs.declared.lines.Ends.{Ends}
use Rattle.mvar_cell.specs.Nodes.{place_of, next_of, IsOn, IsSound}
use Rattle.mvar_cell.specs.Cursors.{AreMarked}

-- the second table is the first with this at the thread
abbrev pub IsPut : (ℕ → Option ℕ) → (ℕ → Option ℕ) → ℕ → Option ℕ → Type 0
IsPut f g t o = (q : ℕ) → g q ≡ cond (t == q) o (f q)

-- the thread of a node
abbrev pub thread_of : Option LineNode → ℕ
thread_of o = (place_of o).thread

-- each thread of the n nodes behind node i has the key of the node before its own
abbrev pub HasBefores : (ℕ → Option ℕ) → Slab LineNode → ℕ → ℕ → Type 0
HasBefores f s zero i = Unit {0}
HasBefores f s (suc n) i = (f (thread_of (get s (next_of (get s i)))) ≡ Some i) × HasBefores f s n (next_of (get s i))

-- each thread of the line but the first has the key of the node before its own
abbrev pub IsBacked : (ℕ → Option ℕ) → Slab LineNode → Ends → Type 0
IsBacked f s e = HasBefores f s (e.len - 1) e.first

-- so it is in each line
abbrev pub AreBacked : (ℕ → Option ℕ) → List Ends → Slab LineNode → Type 0
AreBacked f es s = (k : ℕ) (d : Ends) → k < length es → IsBacked f s (slice_index_or es k d)

-- each line is a chain of nodes, the table knows who stands before whom, and no reader stands up to the cursor of a line
pub record AreLines (f : ℕ → Option ℕ) (es : List Ends) (s : Slab LineNode) : Type 0 where
  pub sound : IsSound es s
  pub backed : AreBacked f es s
  pub marked : AreMarked es s

-- of n threads, the first of them at node i, the first has nobody before it now, and the others have what they had
abbrev pub IsFirstNow : (ℕ → Option ℕ) → (ℕ → Option ℕ) → Slab LineNode → ℕ → ℕ → Type 0
IsFirstNow f g s zero i = (q : ℕ) → g q ≡ f q
IsFirstNow f g s (suc n) i = IsPut f g (thread_of (get s i)) None

-- behind this node, which left, stands that of another thread, for which the table has a key
pub record StoodBehind (f : ℕ → Option ℕ) (s : Slab LineNode) (gone : LineNode) : Type 0 where
  pub line : ℕ
  pub key : ℕ
  pub on : IsOn line (get s gone.next)
  pub had : f (thread_of (get s gone.next)) ≡ Some key
  pub apart : thread_of (get s gone.next) ≢ gone.thread

-- A node left from behind node p, and the last of its line is now this. Its thread has no key, and who stood behind it,
-- if anybody, now has p.
pub record IsClosed (f g : ℕ → Option ℕ) (s : Slab LineNode) (gone : LineNode) (last p : ℕ) : Type 0 where
  pub cleared : g gone.thread ≡ None
  pub kept : (q : ℕ) → q ≢ gone.thread → (last ≢ p → q ≢ thread_of (get s gone.next)) → g q ≡ f q
  pub moved : last ≢ p → g (thread_of (get s gone.next)) ≡ Some p

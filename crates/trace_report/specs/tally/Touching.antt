-- What an operation has to do with a cell, and what comes of it there (own).
use Rattle.std.specs.Prelude.{ℕ, ◌==◌, Bool, false, not, ◌&&◌, List, ◌∷◌, Option, Some, None, slice_get}
use Rattle.rules_meaning.specs.Values as val
use Rattle.rules_meaning.specs.Values.{V}
use Rattle.rules_expansion.specs.declared.primitive.Primitive.{Primitive}
use Rattle.rules_expansion.specs.declared.primitive.Primitive.TheVariants.{TakeMVar, ReadMVar, PutMVar, TryTakeMVar, TryPutMVar}
use Rattle.hs_rules.specs.Terms.{Operation, Calls, Part, Performs}
use Rattle.hs_rules.specs.State.{Thread, State}
use Rattle.trace_report.specs.declared.tally.touch.Touch.{Touch}
use Rattle.trace_report.specs.declared.tally.touch.Touch.TheVariants.{Nothing, Takes, Reads, Puts, TriesToTake, TriesToPut}
use Rattle.trace_report.specs.tally.Reporting.{is_full}

-- ---- of an operation with its values

-- the cell is the first of the values
abbrev pub on_first : (ℕ → Touch) → List V → Touch
on_first f (val.Cell m ∷ vs) = f m
on_first f _ = Nothing

abbrev pub primitive_touch : Primitive → List V → Touch
primitive_touch TakeMVar vs = on_first (λ m. Takes m) vs
primitive_touch ReadMVar vs = on_first (λ m. Reads m) vs
primitive_touch PutMVar vs = on_first (λ m. Puts m) vs
primitive_touch TryTakeMVar vs = on_first (λ m. TriesToTake m) vs
primitive_touch TryPutMVar vs = on_first (λ m. TriesToPut m) vs
primitive_touch _ vs = Nothing

abbrev pub touch_of : Operation → Touch
touch_of (Calls p vs) = primitive_touch p vs
touch_of _ = Nothing

abbrev pub part_touch : Part → Touch
part_touch (Performs op) = touch_of op
part_touch _ = Nothing

abbrev pub thread_touch : Option Thread → Touch
thread_touch None = Nothing
thread_touch (Some th) = part_touch th.term.part

-- ---- which cell, and what comes of it

-- the cell that is touched
abbrev pub cell_of : Touch → Option ℕ
cell_of Nothing = None
cell_of (Takes k) = Some k
cell_of (Reads k) = Some k
cell_of (Puts k) = Some k
cell_of (TriesToTake k) = Some k
cell_of (TriesToPut k) = Some k

abbrev pub is_at : ℕ → Option ℕ → Bool
is_at m None = false
is_at m (Some k) = k == m

-- whether it is this one
abbrev pub is_on : ℕ → Touch → Bool
is_on m h = is_at m (cell_of h)

-- By whether the cell was full: the thread begins to wait.
abbrev pub waits_there : Touch → Bool → Bool
waits_there Nothing full = false
waits_there (Takes k) full = not full
waits_there (Reads k) full = not full
waits_there (Puts k) full = full
waits_there (TriesToTake k) full = false
waits_there (TriesToPut k) full = false

-- By whether the cell was full, and is full now: a value came out of it. That is so of a take at a full cell, and of a put at an
-- empty one that is empty afterwards, since who waits to take gets the value.
abbrev pub serves : Touch → Bool → Bool → Bool
serves Nothing full now = false
serves (Takes k) full now = full
serves (Reads k) full now = false
serves (Puts k) full now = not full && not now
serves (TriesToTake k) full now = full
serves (TriesToPut k) full now = not full && not now

-- cell m is there and full
abbrev pub full_in : ℕ → State → Bool
full_in m s = is_full (slice_get s.cells m)

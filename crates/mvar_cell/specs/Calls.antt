-- What the answers of `Cells` say, in the words of one cell alone.
use Rattle.std.specs.Prelude.{◌≡◌, ℕ, Bool, true, false, cond, List, [], ◌∷◌, Option, Some, None, slice_index_or, slice_set}
use Rattle.hs_base.specs.declared.value.Value.{Value}
use Rattle.rules_waiting.specs.OneCell.{Place, Cell, Call, Leave, After, Reply, Gave, Tried_take, Tried_put, made, call, reply_of, stands_in, first_put, first_take, readers}
use Rattle.rules_waiting.specs.OneCell as one
use Rattle.mvar_cell.specs.Mvars.{Mvars}
use Rattle.mvar_cell.specs.declared.cells.Took.{Took}
use Rattle.mvar_cell.specs.declared.cells.Took.TheVariants as took
use Rattle.mvar_cell.specs.declared.cells.Saw.{Saw}
use Rattle.mvar_cell.specs.declared.cells.Saw.TheVariants as saw
use Rattle.mvar_cell.specs.declared.cells.Gave.TheVariants as gave
use Rattle.mvar_cell.specs.declared.cells.Tried.{Tried}
use Rattle.mvar_cell.specs.declared.cells.Tried.TheVariants as tried
use Rattle.mvar_cell.specs.declared.cells.Gave as declared_gave

-- the cell of a number
abbrev pub cell_at : ℕ → Mvars → Cell Value
cell_at m cs = slice_index_or cs.cells m (made None)

-- One call on cell m, with these replies. All other cells are as they were.
pub record IsCall (q : Call Value) (m : ℕ) (old new : Mvars) (replies : List (Reply Value)) : Type 0 where
  pub answers : (call q (cell_at m old)).replies ≡ replies
  pub cells : new.cells ≡ slice_set old.cells m (call q (cell_at m old)).cell

-- whether the thread stands in any line
abbrev pub stands_among : ℕ → List (Cell Value) → Bool
stands_among t [] = false
stands_among t (c ∷ cs) = cond (stands_in t c.line) true (stands_among t cs)

-- the thread stands in no line
abbrev pub StandsNowhere : ℕ → Mvars → Type 0
StandsNowhere t cs = stands_among t cs.cells ≡ false

-- nobody waits to read cell m
abbrev pub NobodyReads : ℕ → Mvars → Type 0
NobodyReads m cs = readers (cell_at m cs).line ≡ []

-- ---- whom a call answered
abbrev pub took_replies : ℕ → Took → List (Reply Value)
took_replies t took.Blocks = []
took_replies t (took.Done v) = reply_of t (one.Took v) ∷ []
took_replies t (took.Served v u) = reply_of t (one.Took v) ∷ reply_of u Gave ∷ []

abbrev pub saw_replies : ℕ → Saw → List (Reply Value)
saw_replies t saw.Blocks = []
saw_replies t (saw.Done v) = reply_of t (one.Saw v) ∷ []

abbrev pub gave_replies : ℕ → declared_gave.Gave → List (Reply Value)
gave_replies t gave.Blocks = []
gave_replies t gave.Done = reply_of t Gave ∷ []
gave_replies t (gave.Served u v) = reply_of u (one.Took v) ∷ reply_of t Gave ∷ []

abbrev pub served_put : Option ℕ → List (Reply Value)
served_put None = []
served_put (Some u) = reply_of u Gave ∷ []

-- of a take that never waits
abbrev pub tried_take_replies : ℕ → Option (Value × Option ℕ) → List (Reply Value)
tried_take_replies t None = reply_of t (Tried_take None) ∷ []
tried_take_replies t (Some w) = reply_of t (Tried_take (Some w.0)) ∷ served_put w.1

-- of a put that never waits
abbrev pub tried_put_replies : ℕ → Tried → List (Reply Value)
tried_put_replies t (tried.Full v) = reply_of t (Tried_put false) ∷ []
tried_put_replies t tried.Done = reply_of t (Tried_put true) ∷ []
tried_put_replies t (tried.Served u v) = reply_of u (one.Took v) ∷ reply_of t (Tried_put true) ∷ []

-- a full cell hands the value back
abbrev pub HandsBack : Value → Tried → Type 0
HandsBack v (tried.Full w) = w ≡ v
HandsBack v _ = Unit {0}

-- ---- what an answer says of the cell as it was
-- the value of a full cell, and the first thread of its line that waits to put
pub record IsFull (v : Value) (served : Option (ℕ × Value)) (c : Cell Value) : Type 0 where
  pub content : c.content ≡ Some v
  pub putter : first_put c.line ≡ served

-- an empty cell, and the first thread of its line that waits to take
pub record IsEmpty (served : Option ℕ) (c : Cell Value) : Type 0 where
  pub content : c.content ≡ None
  pub taker : first_take c.line ≡ served

-- A take blocks exactly where the cell is empty; else it answers the content, and whose put is served, if anybody's.
abbrev pub TakesFrom : Took → Cell Value → Type 0
TakesFrom took.Blocks c = c.content ≡ None
TakesFrom (took.Done v) c = IsFull v None c
TakesFrom (took.Served v u) c = (next : Value) × IsFull v (Some (u, next)) c

-- A read blocks exactly where the cell is empty.
abbrev pub ReadsFrom : Saw → Cell Value → Type 0
ReadsFrom saw.Blocks c = c.content ≡ None
ReadsFrom (saw.Done v) c = c.content ≡ Some v

-- A put blocks exactly where the cell is full; else it is done, or the first taker gets its value.
abbrev pub PutsTo : Value → declared_gave.Gave → Cell Value → Type 0
PutsTo v gave.Blocks c = (w : Value) × (c.content ≡ Some w)
PutsTo v gave.Done c = IsEmpty None c
PutsTo v (gave.Served u w) c = (w ≡ v) × IsEmpty (Some u) c

abbrev pub MayServe : Value → Option ℕ → Cell Value → Type 0
MayServe v None c = IsFull v None c
MayServe v (Some u) c = (next : Value) × IsFull v (Some (u, next)) c

-- A take that never waits answers nothing exactly where the cell is empty.
abbrev pub TriesToTake : Option (Value × Option ℕ) → Cell Value → Type 0
TriesToTake None c = c.content ≡ None
TriesToTake (Some w) c = MayServe w.0 w.1 c

-- A put that never waits hands the value back exactly where the cell is full.
abbrev pub TriesToPut : Value → Tried → Cell Value → Type 0
TriesToPut v (tried.Full w) c = (held : Value) × (c.content ≡ Some held)
TriesToPut v tried.Done c = IsEmpty None c
TriesToPut v (tried.Served u w) c = (w ≡ v) × IsEmpty (Some u) c

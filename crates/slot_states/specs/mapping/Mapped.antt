-- A cell, a call and its answers, with each value replaced by what it stands for (own).
use Rattle.std.specs.Prelude.{List, [], ◌∷◌, Option, Some, None}
use Rattle.rules_waiting.specs.OneCell.{Want, To_take, To_read, To_put, Place, Cell, Call, Make, Take, Read, Put, Try_take, Try_put, Leave, Answer, Made, Took, Saw, Gave, Tried_take, Tried_put, Reply, After}

module _ {V W : Type 0} (f : V → W) where
  abbrev pub map_some : Option V → Option W
  map_some None = None
  map_some (Some v) = Some (f v)

  abbrev pub map_want : Want V → Want W
  map_want To_take = To_take
  map_want To_read = To_read
  map_want (To_put v) = To_put (f v)

  abbrev pub map_line : List (Place V) → List (Place W)
  map_line [] = []
  map_line (p ∷ ps) = record { thread = p.thread; want = map_want p.want } ∷ map_line ps

  abbrev pub map_cell : Cell V → Cell W
  map_cell c = record { content = map_some c.content; line = map_line c.line }

  abbrev pub map_call : Call V → Call W
  map_call (Make t o) = Make t (map_some o)
  map_call (Take t) = Take t
  map_call (Read t) = Read t
  map_call (Put t v) = Put t (f v)
  map_call (Try_take t) = Try_take t
  map_call (Try_put t v) = Try_put t (f v)
  map_call (Leave t) = Leave t

  abbrev pub map_answer : Answer V → Answer W
  map_answer Made = Made
  map_answer (Took v) = Took (f v)
  map_answer (Saw v) = Saw (f v)
  map_answer Gave = Gave
  map_answer (Tried_take o) = Tried_take (map_some o)
  map_answer (Tried_put b) = Tried_put b

  abbrev pub map_replies : List (Reply V) → List (Reply W)
  map_replies [] = []
  map_replies (r ∷ rs) = record { thread = r.thread; answer = map_answer r.answer } ∷ map_replies rs

  abbrev pub map_after : After V → After W
  map_after a = record { cell = map_cell a.cell; replies = map_replies a.replies }

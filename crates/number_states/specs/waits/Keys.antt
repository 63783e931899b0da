-- The keys of what waits (own): lists of numbers, none of which begins another. A 0 ends a list, and what stands in one begins
-- with another number.
use Rattle.std.specs.Prelude.{ℕ, List, [], ◌∷◌, ◌++◌, Option, Some, None}
use Rattle.rules_waiting.specs.OneCell.{Want, To_take, To_read, To_put, Place, Cell}
use Rattle.number_tables.specs.value_keys.Keys.{wide_key}
use Rattle.number_states.specs.declared.waits.flight.Thrown.{Thrown}
use Rattle.number_states.specs.declared.waits.sleepers.Asleep.{Asleep}

abbrev pub content_key : Option ℕ → List ℕ
content_key None = 0 ∷ []
content_key (Some v) = 1 ∷ v ∷ []

abbrev pub want_key : Want ℕ → List ℕ
want_key To_take = 1 ∷ []
want_key To_read = 2 ∷ []
want_key (To_put v) = 3 ∷ v ∷ []

abbrev pub line_key : List (Place ℕ) → List ℕ
line_key [] = 0 ∷ []
line_key (p ∷ ps) = want_key p.want ++ p.thread ∷ line_key ps

abbrev pub cell_key : Cell ℕ → List ℕ
cell_key c = content_key c.content ++ line_key c.line

abbrev pub cells_key : List (Cell ℕ) → List ℕ
cells_key [] = 0 ∷ []
cells_key (c ∷ cs) = 1 ∷ (cell_key c ++ cells_key cs)

abbrev pub flight_key : List Thrown → List ℕ
flight_key [] = 0 ∷ []
flight_key (f ∷ fs) = 1 ∷ f.thrower ∷ f.target ∷ f.exn ∷ flight_key fs

abbrev pub sleepers_key : List Asleep → List ℕ
sleepers_key [] = 0 ∷ []
sleepers_key (a ∷ more) = 1 ∷ a.thread ∷ (wide_key a.due ++ sleepers_key more)

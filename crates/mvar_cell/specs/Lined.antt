-- Lines of waiting threads by number, and how many more threads and lines fit.
use Rattle.std.specs.Prelude.{ℕ, List, [], slice_index_or}
use Rattle.hs_base.specs.declared.value.Value.{Value}
use Rattle.rules_waiting.specs.OneCell.{Place}

pub record Lined : Type 0 where
  pub lines : List (List (Place Value))
  pub spare : ℕ

abbrev pub line_of : Lined → ℕ → List (Place Value)
line_of ls k = slice_index_or ls.lines k []

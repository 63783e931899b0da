-- What makes environments fit (own).
use Rattle.std.specs.Prelude.{◌≡◌, ◌++◌, ◌∷◌, [], List, Some, false}
use Rattle.rules_expansion.specs.Names.{Name}
use Rattle.rules_meaning.specs.Values.{V, Env, with_name}
use Rattle.rules_sorts.specs.Sorts.{SortedName, Sort}
use Rattle.rules_code.specs.CodeTrees.{is_unread}
use Rattle.rules_sorts.specs.TypedMeaning.{any_cell}
use Rattle.hs_soundness.specs.CoreSorts.{FitsAt, SlotsFit}

-- Where values of slots fit a scope, one value more, of the sort of a name that something may read, fits the scope with that
-- name before the others: it takes the next slot.
abbrev pub OneMoreFits : Type 0
OneMoreFits =
    (g : List SortedName) (env : Env) (vs : List V) (y : Name) (k : Sort) (v : V) → is_unread y ≡ false →
    FitsAt any_cell y (Some k) (Some v) → SlotsFit any_cell g env vs →
    SlotsFit any_cell (record { name = y; sort = k } ∷ g) (with_name y v env) (vs ++ v ∷ [])

-- The one view of a seat.
use Rattle.std.specs.Prelude.{◌≡◌, false, List, [], ◌∷◌}
use Rattle.conc_turn.specs.declared.view.View.{View}
use Rattle.conc_turn.specs.TurnRule.{spent_view}

abbrev pub view_in : List View → View
view_in [] = spent_view
view_in (v ∷ vs) = v

-- it doesn't have the turn, and is in no join
abbrev pub IsAtRest : View → Type 0
IsAtRest v = (v.holds ≡ false) × (v.joined ≡ []) × (v.found ≡ [])

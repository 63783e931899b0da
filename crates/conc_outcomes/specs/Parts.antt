-- What the parts of a listing promise each other (own).
use Rattle.std.specs.Prelude.{◌≡◌, List, Option, Some, None}
use Rattle.rules_expansion.specs.trees.Programs.{Fn}
use Rattle.hs_base.specs.declared.clock_choice.ClockChoice.{ClockChoice}
use Rattle.rules_code.specs.declared.code.CodeBody.{CodeBody}
use Rattle.outcome_listing.specs.declared.bounds.Bounds.{Bounds}
use Rattle.outcome_listing.specs.declared.explored.Extent.{Extent}
use Rattle.outcome_listing.specs.declared.explored.Extent.TheVariants.{All, NotAll}
use Rattle.outcome_listing.specs.declared.explored.Endless.{Endless}
use Rattle.outcome_listing.specs.declared.explored.Endless.TheVariants as endless
use Rattle.number_states.specs.declared.state.NumberState.{NumberState}
use Rattle.number_states.specs.Stocks.{Stock}
use Rattle.state_search.specs.declared.found.Gap.{Gap}
use Rattle.conc_outcomes.specs.declared.finiteness.marks.Ends.{Ends}
use Rattle.conc_outcomes.specs.declared.finiteness.marks.Ends.TheVariants as ends
use Rattle.conc_outcomes.specs.walks.Walking.{ComesBack}
use Rattle.conc_outcomes.specs.Exploring.{HasGap}

-- Where a search left no gap all is listed, and nowhere else: there a run shows why.
abbrev pub IsExtentOf : Bounds → List Fn → CodeBody → Stock → List NumberState → Option Gap → Extent → Type 0
IsExtentOf bounds ds b g states None x = x ≡ All
IsExtentOf bounds ds b g states (Some gap) All = ⊥
IsExtentOf bounds ds b g states (Some gap) (NotAll why run) = HasGap bounds ds b g states why run.list

-- Where the moves go round nowhere every schedule ends if there is no gap, else it isn't known; where they go round a run does.
abbrev pub IsEndOf : ClockChoice → List Fn → Option Gap → Ends → Endless → Type 0
IsEndOf clock ds gap ends.Never endless.Never = gap ≡ None
IsEndOf clock ds gap ends.Never (endless.Round to round) = ⊥
IsEndOf clock ds gap ends.Never endless.Unknown = gap ≡ None → ⊥
IsEndOf clock ds gap (ends.Round at moves) endless.Never = ⊥
IsEndOf clock ds gap (ends.Round at moves) (endless.Round to round) = ComesBack clock ds to.list round.list
IsEndOf clock ds gap (ends.Round at moves) endless.Unknown = ⊥

-- What it means that every schedule ends, or that some goes on for ever (own).
use Rattle.hs_base.specs.declared.tree.script.Script.{Script}
use Rattle.rules_expansion.specs.trees.Programs.{script_of}
use Rattle.rules_code.specs.declared.code.CodeBody.{CodeBody}
use Rattle.outcome_laws.specs.Timings.{IsEndless}
use Rattle.outcome_listing.specs.declared.bounds.Bounds.{Bounds}
use Rattle.search_laws.specs.ends.Rounds.{HaveBound, IsRound}
use Rattle.state_search.specs.declared.found.Found.{Found}
use Rattle.state_search.specs.Meaning.{edges_of}
use Rattle.state_search.specs.Searching.{Searched, IsClosed, IsCodeOf, AreReached}
use Rattle.conc_outcomes.specs.declared.finiteness.marks.Ends.{Ends}
use Rattle.conc_outcomes.specs.declared.finiteness.marks.Ends.TheVariants.{Never, Round}

-- where a search of the script left nothing out, some number bounds all runs of the timing, so none goes on for ever
abbrev pub NeverEndless : Found → Type 0
NeverEndless f = (bounds : Bounds) (b : CodeBody) (script : Script) → Searched bounds b f → IsClosed bounds b f → IsCodeOf b script → HaveBound bounds.clock (script_of script) × ¬ IsEndless bounds.clock (script_of script)

-- where a search of the script came to these states, it is endless
abbrev pub AlwaysEndless : Found → Type 0
AlwaysEndless f = (bounds : Bounds) (b : CodeBody) (script : Script) → Searched bounds b f → AreReached bounds script b f → IsCodeOf b script → IsEndless bounds.clock (script_of script)

-- The answer is right of what a search found.
abbrev pub IsRightOf : Found → Ends → Type 0
IsRightOf f Never = NeverEndless f
IsRightOf f (Round at moves) = IsRound (edges_of f) at moves.items × AlwaysEndless f

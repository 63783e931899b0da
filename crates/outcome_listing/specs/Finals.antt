-- The outcomes that definitions speak of.
use Rattle.std.specs.Prelude.{List, map}
use Rattle.outcome_laws.specs.Outcomes as laws
use Rattle.outcome_listing.specs.declared.explored.Final.{Final}
use Rattle.outcome_listing.specs.declared.explored.Final.TheVariants as final
use Rattle.outcome_listing.specs.declared.explored.Outcome.{Outcome}

-- the end that the definitions of outcomes speak of
abbrev pub final_of : Final → laws.Final
final_of final.Done = laws.Done
final_of final.Uncaught = laws.Uncaught
final_of final.Deadlock = laws.Deadlock

-- an outcome without its witness
abbrev pub outcome_of : Outcome → laws.Outcome
outcome_of o = record { end = final_of o.end; output = o.out; errors = o.err }

abbrev pub outcomes_of : List Outcome → List laws.Outcome
outcomes_of os = map outcome_of os

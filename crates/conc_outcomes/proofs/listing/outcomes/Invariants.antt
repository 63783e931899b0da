use Rattle.std.proofs.Common.{◌≡◌, map, take}
use Rattle.std.specs.List.{AllByRecursion}
use Rattle.hs_base.specs.declared.tree.script.Script.{Script}
use Rattle.rules_expansion.specs.trees.Programs.{script_of}
use Rattle.outcome_listing.specs.Finals.{outcomes_of}
use Rattle.conc_outcomes.specs.order.Rising.{outcome_by}
use Rattle.state_search.specs.Searching.{IsCodeOf}
use Rattle.conc_outcomes.specs.Exploring.{IsListed}
use Rattle.conc_outcomes.proofs.listing.outcomes.Given as goal

abbrev pub invariant-loop-place : goal.invariant-loop-place
invariant-loop-place l = record {
  listed : (script : Script) → IsCodeOf l.body script → AllByRecursion (IsListed l.bounds (script_of script)) l.outcomes;
  are : outcomes_of l.outcomes ≡ map outcome_by (take l.place l.endings);
}

-- What a search lists are outcomes of the script, and all of them where it says so.
use Rattle.std.proofs.Common.{◌≡◌, List, [], ◌∷◌, subst}
use Rattle.std.specs.List.{AllByRecursion, Contains}
use Rattle.hs_base.specs.declared.clock_choice.ClockChoice.{ClockChoice}
use Rattle.hs_base.specs.declared.limits.Limits.{Limits}
use Rattle.hs_base.specs.declared.tree.script.Script.{Script}
use Rattle.hs_rules.specs.declared.entry.Entry.{Entry}
use Rattle.hs_rules.specs.State.{State}
use Rattle.hs_rules.specs.Histories.{Recorded}
use Rattle.hs_rules.specs.Runs.{IsRun}
use Rattle.rules_expansion.specs.trees.Programs.{Fn, script_of}
use Rattle.rules_meaning.specs.CoreMeaning.{code_of}
use Rattle.rules_code.specs.declared.code.CodeBody.{CodeBody}
use Rattle.hs_laws.proofs.RunParts.{is_after, same_after}
use Rattle.outcome_laws.specs.Outcomes as laws
use Rattle.outcome_laws.specs.Outcomes.{HasOutcome, IsOutcomeOf}
use Rattle.outcome_laws.specs.Timings.{IsEndless, MayTick, TimedRun}
use Rattle.outcome_laws.proofs.Timed.{run_of_timed}
use Rattle.outcome_listing.specs.declared.bounds.Bounds.{Bounds}
use Rattle.outcome_listing.specs.declared.explored.Endless.TheVariants.{Never, Round}
use Rattle.outcome_listing.specs.declared.explored.Explored.{Explored}
use Rattle.outcome_listing.specs.declared.explored.Extent.TheVariants.{All}
use Rattle.outcome_listing.specs.declared.explored.Outcome.{Outcome}
use Rattle.outcome_listing.specs.Finals.{outcome_of, outcomes_of}
use Rattle.conc_outcomes.specs.walks.Walking.{IsTimedRun, IsWitness}
use Rattle.conc_outcomes.specs.Exploring.{Explores, HasEnds, IsListed, Lists}

module _ (clock : ClockChoice) (ds : List Fn) where
  -- a run of the timing is one of the script
  is_run : (es : List Entry) (s : State) → IsTimedRun clock ds es s → IsRun ds es s
  is_run es s timed = (timed.begin, timed.begins, run_of_timed (code_of ds) (MayTick clock (code_of ds)) es timed.begin s timed.run)

  -- what the history of a witness has come to is an outcome of the script
  witnessed : (limits : Limits) (es : List Entry) (o : laws.Outcome) → IsWitness clock limits ds es → HasOutcome ds es o → IsOutcomeOf clock ds o
  witnessed limits es o w (u, run, shows) =
      let same : w.state ≡ u = same_after ds es w.state u (is_run es w.state w.run) (is_after ds es u run) in
      (w.run.begin, w.run.begins, (es, u, subst (λ s. TimedRun clock (code_of ds) w.run.begin es s) same w.run.run, shows))

listed_are : (bounds : Bounds) (ds : List Fn) (os : List Outcome) → AllByRecursion (IsListed bounds ds) os → AllByRecursion (IsOutcomeOf bounds.clock ds) (outcomes_of os)
listed_are bounds ds [] listed = tt
listed_are bounds ds (o ∷ os) listed =
    (witnessed bounds.clock ds bounds.limits o.witness.list (outcome_of o) listed.0.witness listed.0.comes, listed_are bounds ds os listed.1)

module _ (bounds : Bounds) (script : Script) (b : CodeBody) (x : Explored) (promised : Explores bounds script b x) where
  abbrev ds : List Fn
  ds = script_of script

  pub are_outcomes : AllByRecursion (IsOutcomeOf bounds.clock ds) (outcomes_of x.outcomes)
  are_outcomes = listed_are bounds ds x.outcomes promised.sound

  pub are_all : x.extent ≡ All → (o : laws.Outcome) → IsOutcomeOf bounds.clock ds o → Contains (outcomes_of x.outcomes) o
  are_all all = subst (Lists bounds ds b promised.counted.found.numbers promised.counted.found.states x.outcomes) all promised.lists

  pub never_ends : x.endless ≡ Never → ¬ IsEndless bounds.clock ds
  never_ends never = (subst (HasEnds bounds ds x.extent) never promised.ends).2

  pub goes_round : (to round : Recorded) → x.endless ≡ Round to round → IsEndless bounds.clock ds
  goes_round to round is = (subst (HasEnds bounds ds x.extent) is promised.ends).1

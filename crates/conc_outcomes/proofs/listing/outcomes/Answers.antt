use Rattle.std.proofs.Common.{sym, ◌∙◌, subst, arith}
use Rattle.std.specs.List.{AllByRecursion}
use Rattle.rules_expansion.specs.trees.Programs.{script_of}
use Rattle.number_states.proofs.Changes.{all_more}
use Rattle.conc_outcomes.specs.Exploring.{IsListed}
use Rattle.conc_outcomes.proofs.Lists.{nothing_there}
use Rattle.conc_outcomes.proofs.Listed.{outcomes_next}
use Rattle.conc_outcomes.proofs.listing.outcomes.Goals as goal
use Rattle.conc_outcomes.proofs.listing.outcomes.Goals.{in-Some+in_ok-outcome+in_ok-add, in_default}

pub loop-place-preserved : goal.loop-place-preserved
loop-place-preserved c =
    let es = c.args.endings.now in
    let n = c.loop-place.place in
    elim c.match-get.branch [
      | in-Some+in_ok-outcome+in_ok-add w ↦
          let at = sym w.in-Some.ensures in
          let new = w.outcomes-is ∙ w.in_ok-add.ensures.ok in
          record {
            listed = λ script code. subst (AllByRecursion (IsListed c.args.bounds.now (script_of script))) (sym new) (all_more (IsListed c.args.bounds.now (script_of script)) c.loop-place.outcomes w.in_ok-outcome.field-0 (c.loop-place.invariant.listed script code) (w.in_ok-outcome.ensures.listed script code));
            are = outcomes_next c.loop-place.outcomes c.match-get.outcomes w.in_ok-outcome.field-0 es n w.in-Some.ended.now at new w.in_ok-outcome.ensures.is c.loop-place.invariant.are;
          }
      | in_default w ↦
          let never : ⊥ = nothing_there es n (omega (arith, c.len-place-end.ensures)) (sym w.in_default.ensures) in
          record {
            listed = λ script code. absurd never;
            are = absurd never;
          }
    ]

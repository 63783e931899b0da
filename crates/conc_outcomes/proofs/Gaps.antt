-- What the walk to a gap shows.
use Rattle.std.proofs.Common.{List, sym, ap}
use Rattle.hs_base.specs.declared.tree.script.Script.{Script}
use Rattle.rules_expansion.specs.trees.Programs.{script_of}
use Rattle.rules_code.specs.declared.code.CodeBody.{CodeBody}
use Rattle.outcome_listing.specs.declared.bounds.Bounds.{Bounds}
use Rattle.number_states.specs.declared.state.NumberState.{NumberState}
use Rattle.number_states.specs.Stocks.{Stock, HasGrown, text_at}
use Rattle.state_search.specs.Meaning.{shown}
use Rattle.state_search.specs.Searching.{IsCodeOf}
use Rattle.conc_outcomes.specs.declared.walks.walk.Walk.{Walk}
use Rattle.conc_outcomes.specs.walks.Entering.{IsAt, IsAnother}
use Rattle.conc_outcomes.specs.Exploring.{IsRunOf, LeavesAnother}
use Rattle.conc_outcomes.proofs.Rounds.{stands_kept}

module _ (bounds : Bounds) (b : CodeBody) (h : Stock) (w : Walk) (at : IsAt bounds b h w) (script : Script) (code : IsCodeOf b script) where
  pub run_at : IsRunOf bounds (script_of script) w.history.list
  run_at = let l = at.leads script code in record { state = l.state; run = l.run; before = l.before; kept = l.kept }

  -- where it came to a state that is none of these
  pub another_at : (g : Stock) (states : List NumberState) → HasGrown g h → IsAnother bounds.clock h states w.state → LeavesAnother bounds (script_of script) b g states w.history.list
  unfolding run_at
  another_at g states grown a =
      let l = at.leads script code in
      record {
        leaves = run_at;
        numbers = h;
        grown = grown;
        another = a.0;
        there = a.1.there;
        stands = stands_kept bounds.clock (script_of script) (shown h b w.state) (shown h b a.0) l.state l.stands (sym (a.1.is b)) (ap (text_at h) (sym a.1.output)) (ap (text_at h) (sym a.1.errors));
        other = a.2;
      }

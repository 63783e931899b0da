-- The parts of a listing put together.
use Rattle.std.proofs.Common.{◌≡◌, ℕ, List, length, map, Option, Some, None, refl, sym, subst}
use Rattle.std.specs.List.{AllByRecursion, Contains}
use Rattle.hs_base.specs.declared.tree.script.Script.{Script}
use Rattle.rules_expansion.specs.trees.Programs.{Fn, script_of}
use Rattle.rules_code.specs.declared.code.CodeBody.{CodeBody}
use Rattle.outcome_laws.specs.Outcomes as laws
use Rattle.outcome_listing.specs.declared.bounds.Bounds.{Bounds}
use Rattle.outcome_listing.specs.declared.explored.Extent.{Extent}
use Rattle.outcome_listing.specs.declared.explored.Extent.TheVariants.{All, NotAll}
use Rattle.outcome_listing.specs.declared.explored.Endless.{Endless}
use Rattle.outcome_listing.specs.declared.explored.Endless.TheVariants as endless
use Rattle.outcome_listing.specs.declared.explored.Outcome.{Outcome}
use Rattle.outcome_listing.specs.declared.explored.Explored.{Explored}
use Rattle.outcome_listing.specs.Finals.{outcomes_of}
use Rattle.conc_outcomes.specs.declared.order.ended.Ended.{Ended}
use Rattle.conc_outcomes.specs.order.Rising.{outcome_by, IsRising, Has}
use Rattle.number_states.specs.declared.state.NumberState.{NumberState}
use Rattle.number_states.specs.Stocks.{Stock}
use Rattle.state_search.specs.declared.found.Found.{Found}
use Rattle.state_search.specs.declared.found.Gap.{Gap}
use Rattle.state_search.specs.Searching.{Searched, IsClosed, IsCodeOf, AreReached, Shows, ShowsAll}
use Rattle.conc_outcomes.specs.declared.finiteness.marks.Ends.{Ends}
use Rattle.conc_outcomes.specs.declared.finiteness.marks.Ends.TheVariants as ends
use Rattle.conc_outcomes.specs.finiteness.Ending.{IsRightOf}
use Rattle.conc_outcomes.specs.Exploring.{IsListed, AreRising, Lists, HasEnds, Explores}
use Rattle.conc_outcomes.specs.Parts.{IsExtentOf, IsEndOf}
use Rattle.conc_outcomes.proofs.Listed.{outcomes_rise, has_among}

-- what the parts have promised
pub record HasParts (bounds : Bounds) (b : CodeBody) (f : Found) (es : List Ended) (e : Ends) (x : Explored) : Type 0 where
  pub searched : Searched bounds b f
  pub closed : f.gap ≡ None → IsClosed bounds b f
  pub reached : (script : Script) → IsCodeOf b script → AreReached bounds script b f
  pub complete : (script : Script) → IsCodeOf b script → f.gap ≡ None → ShowsAll bounds script b f
  pub endings : (c : CodeBody) (o : laws.Outcome) → Shows c f o → Has es o
  pub rising : IsRising es
  pub right : IsRightOf f e
  pub listed : (script : Script) → IsCodeOf b script → AllByRecursion (IsListed bounds (script_of script)) x.outcomes
  pub are : outcomes_of x.outcomes ≡ map outcome_by es
  pub extent : (script : Script) → IsCodeOf b script → IsExtentOf bounds (script_of script) b f.numbers f.states f.gap x.extent
  pub endless : (script : Script) → IsCodeOf b script → IsEndOf bounds.clock (script_of script) f.gap e x.endless
  pub states : x.states ≡ length f.states

module _ (bounds : Bounds) (ds : List Fn) (b : CodeBody) (g : Stock) (ns : List NumberState) where
  lists_by : (os : List Outcome) (gap : Option Gap) (x : Extent) → IsExtentOf bounds ds b g ns gap x → (gap ≡ None → Lists bounds ds b g ns os All) → Lists bounds ds b g ns os x
  lists_by os None x is all = subst (Lists bounds ds b g ns os) (sym is) (all refl)
  lists_by os (Some why) All is all = absurd is
  lists_by os (Some why) (NotAll cause run) is all = is

  -- all is listed just where there is no gap
  all_if : (gap : Option Gap) (x : Extent) → IsExtentOf bounds ds b g ns gap x → gap ≡ None → x ≡ All
  all_if None x is none = is
  all_if (Some why) x is none = absurd (cc none)

  none_if : (gap : Option Gap) (x : Extent) → IsExtentOf bounds ds b g ns gap x → x ≡ All → gap ≡ None
  none_if None x is all = refl
  none_if (Some why) All is all = absurd is
  none_if (Some why) (NotAll cause run) is all = absurd (cc all)

module _ (bounds : Bounds) (b : CodeBody) (f : Found) (es : List Ended) (script : Script) (code : IsCodeOf b script) where
  abbrev ds : List Fn
  ds = script_of script

  ends_by : (e : Ends) (x : Explored) (p : HasParts bounds b f es e x) (d : Endless) → IsRightOf f e → IsEndOf bounds.clock ds f.gap e d → HasEnds bounds ds x.extent d
  ends_by ends.Never x p endless.Never right none =
      let h = right bounds b script p.searched (p.closed none) code in
      (all_if bounds ds b f.numbers f.states f.gap x.extent (p.extent script code) none, h.0, h.1)
  ends_by ends.Never x p (endless.Round to round) right is = absurd is
  ends_by ends.Never x p endless.Unknown right some = λ all. some (none_if bounds ds b f.numbers f.states f.gap x.extent (p.extent script code) all)
  ends_by (ends.Round at moves) x p endless.Never right is = absurd is
  ends_by (ends.Round at moves) x p (endless.Round to round) right is = (is, right.1 bounds b script p.searched (p.reached script code) code)
  ends_by (ends.Round at moves) x p endless.Unknown right is = absurd is

  contained : (e : Ends) (x : Explored) (p : HasParts bounds b f es e x) → f.gap ≡ None → (o : laws.Outcome) → laws.IsOutcomeOf bounds.clock ds o → Contains (outcomes_of x.outcomes) o
  contained e x p none o h = subst (λ os. Contains os o) (sym p.are) (has_among es o (p.endings b o (p.complete script code none o h)))

  pub explored : (e : Ends) (x : Explored) → HasParts bounds b f es e x → Explores bounds script b x
  explored e x p = record {
    sound = p.listed script code;
    rising = subst AreRising (sym p.are) (outcomes_rise es p.rising);
    counted = record { found = f; searched = p.searched; reached = p.reached script code; many = sym p.states };
    seen = λ o s. subst (λ os. Contains os o) (sym p.are) (has_among es o (p.endings b o s));
    lists = lists_by bounds ds b f.numbers f.states x.outcomes f.gap x.extent (p.extent script code) (contained e x p);
    ends = ends_by e x p x.endless p.right (p.endless script code);
  }

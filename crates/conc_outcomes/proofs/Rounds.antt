-- A walk that comes back to a state.
use Rattle.std.proofs.Common.{◌≡◌, ◌<◌, List, ◌++◌, length, drop, refl, sym, ap, ◌∙◌, subst}
use Rattle.std.proofs.Math.Seq.{drop-append_seam}
use Rattle.hs_base.specs.declared.clock_choice.ClockChoice.{ClockChoice}
use Rattle.hs_base.specs.declared.clock_choice.ClockChoice.TheVariants.{Virtual}
use Rattle.hs_base.specs.declared.tree.script.Script.{Script}
use Rattle.hs_rules.specs.declared.entry.Entry.{Entry}
use Rattle.hs_rules.specs.State.{State}
use Rattle.rules_expansion.specs.trees.Programs.{Fn, script_of}
use Rattle.rules_code.specs.declared.code.CodeBody.{CodeBody}
use Rattle.outcome_laws.specs.timing.WithoutTime.{without_ticks}
use Rattle.outcome_listing.specs.declared.bounds.Bounds.{Bounds}
use Rattle.number_tables.specs.Tables.{Grows}
use Rattle.number_states.specs.declared.state.NumberState.{NumberState}
use Rattle.number_states.specs.Stocks.{Stock, HasGrown, text_at}
use Rattle.number_states.specs.States.{Contents, contents, slots_of, AllIn, AreIn}
use Rattle.number_states.proofs.Changes.{becomes_same}
use Rattle.search_laws.specs.Shown.{Shown, StandsAs, forget}
use Rattle.state_search.specs.Meaning.{shown}
use Rattle.state_search.specs.Searching.{IsCodeOf}
use Rattle.state_search.proofs.Keeping.{shown_on}
use Rattle.conc_outcomes.specs.declared.walks.walk.Walk.{Walk}
use Rattle.conc_outcomes.specs.walks.Walking.{IsTimedRun, ComesBack}
use Rattle.conc_outcomes.specs.walks.Entering.{IsAt, AreAlike}

-- what is kept of a state in a timing stands for what the state stands for
pub stands_kept : (clock : ClockChoice) (ds : List Fn) (c d : Shown) (s : State) → StandsAs Virtual ds c s → forget clock c.slots ≡ d.slots → c.output ≡ d.output → c.errors ≡ d.errors → StandsAs clock ds d s
stands_kept clock ds c d s h slots output errors = record {
  exact = h.exact;
  represents = h.represents;
  forgotten = ap (forget clock) h.forgotten ∙ slots;
  output = h.output ∙ output;
  errors = h.errors ∙ errors;
}

shown_same : (g : Stock) (b : CodeBody) (x y : NumberState) → contents x ≡ contents y → shown g b x ≡ shown g b y
shown_same g b x y e = let show : Contents → Shown = λ k. record { slots = slots_of g b k; output = text_at g k.output; errors = text_at g k.errors } in ap show e

-- a copy is there as long as what was copied is
pub copy_there : (g h : Stock) (x y : NumberState) → AreIn g x → contents y ≡ contents x → HasGrown g h → AreIn h y
copy_there g h x y there same grown = subst (AllIn h) (sym same) (becomes_same g h x there grown).there

-- what stands behind the entries of a run
behind : (old new to round : List Entry) → Grows old new → to ≡ old → round ≡ drop (length to) new → new ≡ to ++ round
behind old new to round g same rest =
    let e : round ≡ g.0 = rest ∙ ap (λ es. drop (length es) new) same ∙ ap (drop (length old)) g.1 ∙ drop-append_seam old g.0 in
    g.1 ∙ ap (λ es. es ++ g.0) (sym same) ∙ ap (λ es. to ++ es) (sym e)

pub comes_back : (bounds : Bounds) (b : CodeBody) (g h : Stock) (w v : Walk) (begin : NumberState) (to round : List Entry) → IsAt bounds b g w → IsAt bounds b h v → contents begin ≡ contents w.state → HasGrown g h → Grows w.history.list v.history.list → to ≡ w.history.list
    → round ≡ drop (length to) v.history.list → 0 < length (without_ticks round) → ((c : CodeBody) → AreAlike bounds.clock c h begin v.state) → (script : Script) → IsCodeOf b script → ComesBack bounds.clock (script_of script) to round
comes_back bounds b g h w v begin to round at then copied grown grows same rest works alike script code =
    let ds = script_of script in
    let before = at.leads script code in
    let after = then.leads script code in
    let a = alike b in
    let was : shown h b begin ≡ shown g b w.state = shown_same h b begin w.state copied ∙ shown_on g h b w.state grown at.there in
    let seen : Shown = record { slots = forget bounds.clock (shown h b v.state).slots; output = text_at h v.state.output; errors = text_at h v.state.errors } in
    record {
      one = before.state;
      begin = subst (λ es. IsTimedRun bounds.clock ds es before.state) (sym same) before.run;
      other = after.state;
      again = subst (λ es. IsTimedRun bounds.clock ds es after.state) (behind w.history.list v.history.list to round grows same rest) after.run;
      seen = seen;
      stands = stands_kept bounds.clock ds (shown h b begin) seen before.state (subst (λ c. StandsAs Virtual ds c before.state) (sym was) before.stands) a.0 a.1 a.2;
      same = stands_kept bounds.clock ds (shown h b v.state) seen after.state after.stands refl refl refl;
      works = works;
    }

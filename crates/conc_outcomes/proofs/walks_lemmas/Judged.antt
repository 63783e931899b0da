-- What a walk shows where it is.
use Rattle.std.proofs.Common.{◌≡◌, true, List, [], ◌∷◌, ◌++◌, Some, None, slice_get, refl, ap, ◌∙◌, subst, inl, inr, append-nil}
use Rattle.hs_base.specs.declared.clock_choice.ClockChoice.TheVariants.{Real, Virtual}
use Rattle.hs_base.specs.declared.limits.Limits.{Limits}
use Rattle.hs_base.specs.declared.tree.script.Script.{Script}
use Rattle.hs_rules.specs.declared.entry.Entry.{Entry}
use Rattle.hs_rules.specs.declared.entry.LimitKind.{LimitKind}
use Rattle.hs_rules.specs.State.{State}
use Rattle.hs_rules.specs.Endings as endings
use Rattle.hs_rules.specs.Runs.{after, IsRun}
use Rattle.rules_expansion.specs.trees.Programs.{Fn, script_of}
use Rattle.rules_code.specs.declared.code.CodeBody.{CodeBody}
use Rattle.rules_code.specs.CodeTrees.{SlottedFunction, code_trees}
use Rattle.hs_laws.specs.HistoryEndings.{StaysWithin}
use Rattle.hs_laws.proofs.RunParts.{is_after, same_after}
use Rattle.outcome_laws.specs.Outcomes as laws
use Rattle.outcome_listing.specs.declared.bounds.Bounds.{Bounds}
use Rattle.outcome_listing.specs.declared.explored.Final.{Final}
use Rattle.outcome_listing.specs.declared.explored.Final.TheVariants as final
use Rattle.outcome_listing.specs.Finals.{final_of}
use Rattle.slot_states.proofs.AtRest.{same_used}
use Rattle.local_steps.specs.Machine.{funs_of}
use Rattle.number_states.specs.waits.Sleeping.{sleepers}
use Rattle.number_states.specs.Stocks.{Stock}
use Rattle.search_laws.specs.Shown.{Shown, FitsIn}
use Rattle.search_laws.specs.Going.{IsStill, ReadsTime}
use Rattle.search_laws.specs.Found.{ended_by, EndsAs, MayHaveKind}
use Rattle.search_laws.proofs.Cited.{reads_named}
use Rattle.search_laws.proofs.Walking.{within_by}
use Rattle.search_laws.proofs.HowTheyEnd.{main_right}
use Rattle.state_search.specs.Meaning.{shown}
use Rattle.state_search.specs.Searching.{ExceedsFirst, IsCodeOf}
use Rattle.state_search.proofs.Promised.{exceeds_so}
use Rattle.conc_outcomes.specs.declared.walks.walk.Walk.{Walk}
use Rattle.conc_outcomes.specs.walks.Walking.{StaysBefore, ReadsLast}
use Rattle.conc_outcomes.specs.walks.Entering.{IsAt, EndsIn, IsWithin, Exceeds}
use Rattle.conc_outcomes.proofs.walks_lemmas.OneMore.{exactly, run_of}

-- ---- limits

-- the last state is within the limits too
all_within : (limits : Limits) (ds : List Fn) (es : List Entry) (s : State) → IsRun ds es s → endings.IsWithin limits s → StaysBefore limits ds es → StaysWithin limits ds es
all_within limits ds es s run within before front [] u split a = subst (endings.IsWithin limits) (same_after ds es s u run (ap (after ds) (split ∙ append-nil front) ∙ a)) within
all_within limits ds es s run within before front (e ∷ back) u split a = before front back e u split a

module _ (bounds : Bounds) (b : CodeBody) (g : Stock) (w : Walk) (at : IsAt bounds b g w) where
  abbrev here : Shown
  here = shown g b w.state

  pub within_at : FitsIn bounds.limits here.slots → IsWithin bounds b w
  within_at fits script code =
      let l = at.leads script code in
      let ds : List Fn = script_of script in
      record {
        state = l.state;
        run = l.run;
        within = all_within bounds.limits ds w.history.list l.state (run_of bounds.clock ds w.history.list l.state l.run) (within_by script bounds.limits here.slots l.state (exactly ds here l.state l.stands) fits) l.before;
        kept = l.kept;
      }

  pub exceeds_at : (kind : LimitKind) → ExceedsFirst kind bounds.limits here.slots → Exceeds bounds b w kind
  exceeds_at kind h script code =
      let l = at.leads script code in
      let ds : List Fn = script_of script in
      record { state = l.state; run = l.run; exceeds = exceeds_so kind bounds.limits here.slots l.state (same_used ds here.slots l.state (exactly ds here l.state l.stands)) h; before = l.before; kept = l.kept }

  -- ---- ends

  ends_at : (end : Final) → ((funs : List SlottedFunction) → funs_of b ≡ funs → MayHaveKind funs here (Some (final_of end))) → EndsIn b g w end
  ends_at end kind script code =
      let l = at.leads script code in
      let ds : List Fn = script_of script in
      let run = run_of bounds.clock ds w.history.list l.state l.run in
      (l.state, run, (l.stands.output, l.stands.errors, main_right Virtual script code.0 w.history.list l.state run l.stands.exact l.stands.represents here l.stands.forgotten (Some (final_of end)) (kind (code_trees ds) code.1.functions) (final_of end) refl))

  pub ends_by_main : (end : Final) → Some (final_of end) ≡ ended_by (slice_get here.slots.threads 0) → EndsIn b g w end
  ends_by_main end h = ends_at end (λ funs same. inr h)

  pub ends_stuck : None ≡ ended_by (slice_get here.slots.threads 0) → w.state.sleepers.items ≡ [] → IsStill (funs_of b) here.slots → EndsIn b g w final.Deadlock
  ends_stuck main none still =
      ends_at final.Deadlock (λ funs same. inl (subst (λ o. EndsAs funs here.slots o (Some laws.Deadlock)) main (subst (λ fs. IsStill fs here.slots) same still, ap sleepers none)))

  -- ---- a reading of the clock

  pub reads_at : w.unread ≡ true → (h : Stock) (v : Walk) (e : Entry) → IsAt bounds b h v → v.history.list ≡ w.history.list ++ e ∷ [] → ReadsTime Real here.slots e → (script : Script) → IsCodeOf b script → ReadsLast bounds.clock bounds.limits (script_of script) v.history.list
  reads_at fresh h v e now list reads script code =
      let l = at.leads script code in
      let k = now.leads script code in
      let ds : List Fn = script_of script in
      record {
        state = k.state;
        run = k.run;
        within = k.before;
        kept = k.kept;
        front = w.history.list;
        last = e;
        split = list;
        before = l.state;
        there = is_after ds w.history.list l.state (run_of bounds.clock ds w.history.list l.state l.run);
        reads = (reads_named script here.slots l.state (exactly ds here l.state l.stands) e).0 reads;
        first = at.unread fresh script code;
      }

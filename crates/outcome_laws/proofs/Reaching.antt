-- What runs come to, with time and without it.
use Rattle.std.proofs.Common.{◌≡◌, ℕ, List, Some, refl, sym, ap, ◌∙◌, subst}
use Rattle.hs_base.specs.declared.clock_choice.ClockChoice.{ClockChoice}
use Rattle.hs_base.specs.declared.clock_choice.ClockChoice.TheVariants.{Real}
use Rattle.hs_rules.specs.declared.entry.Entry.{Entry}
use Rattle.rules_expansion.specs.trees.Programs.{Fn}
use Rattle.rules_meaning.specs.CoreMeaning.{Code, code_of}
use Rattle.hs_rules.specs.State.{State}
use Rattle.hs_rules.specs.Endings.{Ends}
use Rattle.hs_rules.specs.Histories.{steps_of}
use Rattle.hs_rules.specs.Runs.{first_of}
use Rattle.hs_laws.specs.HistoryEndings.{HasEnding}
use Rattle.hs_laws.proofs.RunParts.{is_after, same_after}
use Rattle.hs_laws.proofs.HowItEnds.{one_ending}
use Rattle.outcome_laws.specs.timing.WithoutTime.{timeless, NeverReadsClock, without_ticks}
use Rattle.outcome_laws.proofs.timing_lemmas.Passing.{same_item}
use Rattle.outcome_laws.proofs.timing_lemmas.Timing.{deadlock_either, run_forth, run_back}
use Rattle.outcome_laws.specs.Timings.{MayTick}
use Rattle.outcome_laws.specs.Outcomes.{Final, Done, Uncaught, Deadlock, Outcome, ending_of, EndsBy, ShowsOutcome, Reaches, ReachesTimeless, HasOutcome, IsOutcomeOf}
use Rattle.outcome_laws.proofs.Timed.{real_run, run_of_timed}

-- ---- one outcome

same_final : (f g : Final) → ending_of f ≡ ending_of g → f ≡ g
same_final Done Done h = refl
same_final Uncaught Uncaught h = refl
same_final Deadlock Deadlock h = refl
same_final _ _ h = absurd (cc h)

one_shown : (code : Code) (s : State) (o p : Outcome) → ShowsOutcome code s o → ShowsOutcome code s p → o ≡ p
one_shown code s o p h k =
    ap (λ f. record { end = f; output = o.output; errors = o.errors }) (same_final o.end p.end (one_ending (ending_of o.end) (ending_of p.end) code s 0 0 h.2 k.2))
    ∙ (ap (λ x. record { end = p.end; output = x; errors = o.errors }) (sym h.0 ∙ k.0) ∙ ap (λ x. record { end = p.end; output = p.output; errors = x }) (sym h.1 ∙ k.1))

pub one_outcome : (ds : List Fn) (es : List Entry) (o p : Outcome) → HasOutcome ds es o → HasOutcome ds es p → o ≡ p
one_outcome ds es o p h k =
    one_shown (code_of ds) h.0 o p h.2 (subst (λ s. ShowsOutcome (code_of ds) s p) (sym (same_after ds es h.0 k.0 h.1 (is_after ds es k.0 k.1))) k.2)

ends_whatever : (f : Final) (code : Code) (s : State) (steps fuel : ℕ) → EndsBy f code s → Ends (ending_of f) code s steps fuel
ends_whatever Done code s steps fuel h = h
ends_whatever Uncaught code s steps fuel h = h
ends_whatever Deadlock code s steps fuel h = h

pub outcome_ends : (ds : List Fn) (es : List Entry) (o : Outcome) (fuel : ℕ) → HasOutcome ds es o → HasEnding (ending_of o.end) ds es fuel
outcome_ends ds es o fuel h = record { state = h.0; run = h.1; ends = ends_whatever o.end (code_of ds) h.0 (steps_of es) fuel h.2.2 }

-- ---- with time and without

module _ (code : Code) where
  ends_forth : (f : Final) (s : State) → EndsBy f code s → EndsBy f code (timeless s)
  ends_forth Done s h = h
  ends_forth Uncaught s h = h
  ends_forth Deadlock s h = (h.0, h.1, (deadlock_either code s).0 h.2)

  ends_back : (f : Final) (s : State) → EndsBy f code (timeless s) → EndsBy f code s
  ends_back Done s h = h
  ends_back Uncaught s h = h
  ends_back Deadlock s h = (h.0, h.1, (deadlock_either code s).1 h.2)

  outcome_back : (s w : State) (o : Outcome) → timeless s ≡ w → ShowsOutcome code w o → ShowsOutcome code s o
  outcome_back s w o e h =
      let k = subst (λ q. ShowsOutcome code q o) (sym e) h in
      (k.0, k.1, ends_back o.end s k.2)

  -- what timeless runs come to, runs come to
  pub reaches_back : (s : State) (o : Outcome) → ReachesTimeless code (timeless s) o → Reaches Real code s o
  reaches_back s o h = let r = run_back code s h.1 h.0 h.2 in (r.0, r.1, real_run code r.0 s r.1 r.2, outcome_back r.1 h.1 o r.3 h.3)

  -- and nothing else, where the clock is never read
  pub reaches_forth : (s : State) (o : Outcome) → NeverReadsClock code (timeless s) → Reaches Real code s o → ReachesTimeless code (timeless s) o
  reaches_forth s o n h =
      (without_ticks h.0, timeless h.1, run_forth code s h.1 h.0 n (run_of_timed code (MayTick Real code) h.0 s h.1 h.2), (h.3.0, h.3.1, ends_forth o.end h.1 h.3.2))

-- ---- of a script

pub history_of : (clock : ClockChoice) (ds : List Fn) (o : Outcome) → IsOutcomeOf clock ds o → (es : List Entry) × HasOutcome ds es o
history_of clock ds o h = (h.2.0, (h.2.1, (h.0, h.1, run_of_timed (code_of ds) (MayTick clock (code_of ds)) h.2.0 h.0 h.2.1 h.2.2), h.2.3))

pub script_back : (ds : List Fn) (s : State) (o : Outcome) → first_of ds ≡ Some s → ReachesTimeless (code_of ds) (timeless s) o → IsOutcomeOf Real ds o
script_back ds s o f h = (s, f, reaches_back (code_of ds) s o h)

pub script_forth : (ds : List Fn) (s : State) (o : Outcome) → first_of ds ≡ Some s → NeverReadsClock (code_of ds) (timeless s) → IsOutcomeOf Real ds o → ReachesTimeless (code_of ds) (timeless s) o
script_forth ds s o f n h = reaches_forth (code_of ds) s o n (subst (λ q. Reaches Real (code_of ds) q o) (same_item (sym h.1 ∙ f)) h.2)

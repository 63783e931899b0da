-- What a throw makes.
use Rattle.std.proofs.Common.{ℕ, ◌≡◌, ◌≢◌, ◌<◌, ◌==◌, true, false, List, [], ◌∷◌, ◌++◌, Some, length, slice_get, ap, ap₂, ◌∙◌, ne_eqb}
use Rattle.std.proofs.lemmas.Option.{slice_get_within}
use Rattle.hs_base.specs.declared.exn.Exn.{Exn}
use Rattle.hs_laws.proofs.Lists.{cond_true, cond_false}
use Rattle.rules_meaning.specs.Values.{UnitValue}
use Rattle.rules_code.specs.declared.code.CodeBody.{CodeBody}
use Rattle.rules_waiting.specs.Waiting.{Flying}
use Rattle.slot_states.specs.SlotStates.{SlotState, answer, blocked_at, throws, throws_at}
use Rattle.slot_states.specs.entering.Operating.{thrown_at, thrown}
use Rattle.number_states.specs.declared.waits.flight.Thrown.{Thrown}
use Rattle.number_states.specs.waits.Throwing.{map_flight}
use Rattle.number_states.proofs.waits_lemmas.Without.{flight_append}
use Rattle.number_states.specs.declared.state.NumberThread.{NumberThread}
use Rattle.number_states.specs.declared.state.NumberState.{NumberState}
use Rattle.number_states.specs.Stocks.{Stock, HasGrown, or_killed, exception_at}
use Rattle.number_states.specs.States.{Contents, contents, slots_of, slots, thread_of, AllIn, AreIn, Becomes}
use Rattle.number_states.proofs.Growth.{slots_of_on, all_in_on}
use Rattle.number_states.proofs.Changes.{got_mapped, all_more}

abbrev pub with_flight : List Thrown → Contents → Contents
with_flight fs c = record c { flight = fs }

-- ---- an exception in flight

module _ (g h : Stock) (grown : HasGrown g h) (x : NumberState) (all : AreIn g x) (t u n : ℕ) (e : Exn) (is : slice_get h.exceptions n ≡ Some e) where
  abbrev pub in_flight : List Thrown
  in_flight = x.flight.items ++ record { thrower = t; target = u; exn = n } ∷ []

  pub thrown_in : AllIn h (with_flight in_flight (contents x))
  thrown_in =
      let c = all_in_on g h grown (contents x) all in
      record {
        threads = c.threads;
        cells = c.cells;
        flight = all_more (λ (f : Thrown). f.exn < length h.exceptions) x.flight.items (record { thrower = t; target = u; exn = n }) c.flight (slice_get_within h.exceptions n e is);
        output = c.output;
        errors = c.errors;
      }

  pub throw_becomes : (v y : NumberState) → contents v ≡ with_flight in_flight (contents x) → Becomes (λ b s. record s { threads = blocked_at t s.threads }) h v h y → Becomes (λ b. throws_at t u e) g x h y
  throw_becomes v y same p =
      let f = exception_at h in
      record {
        is = λ b.
            let later = slots_of_on g h grown b (contents x) all in
            p.is b ∙ ap (λ d. let s : SlotState = slots_of h b d in record s { threads = blocked_at t s.threads }) same
            ∙ ap (λ (s : SlotState). record s { threads = blocked_at t s.threads; flight = map_flight f in_flight }) later
            ∙ ap (λ (fs : List Flying). let s : SlotState = slots g b x in record s { threads = blocked_at t s.threads; flight = fs })
            (flight_append f x.flight.items (record { thrower = t; target = u; exn = n } ∷ []) ∙ ap₂ (λ (fs : List Flying) d. fs ++ record { thrower = t; target = u; exn = d } ∷ []) (ap (λ (s : SlotState). s.flight) later) (ap or_killed is));
        there = p.there;
        output = p.output ∙ ap (λ (d : Contents). d.output) same;
        errors = p.errors ∙ ap (λ (d : Contents). d.errors) same;
      }

-- ---- which throw it is

module _ (t u : ℕ) (e : Exn) (other : u ≢ t) (g : Stock) (b : CodeBody) (x : NumberState) (th : NumberThread) (there : slice_get x.threads.items u ≡ Some th) where
  at_other : thrown t u e (slots g b x) ≡ thrown_at t u e (Some (thread_of g b th)) (slots g b x)
  at_other =
      let s = slots g b x in
      cond_false (u == t) (Some (throws t e s)) (thrown_at t u e (slice_get s.threads u) s) (ne_eqb u t other) ∙ ap (λ o. thrown_at t u e o s) (got_mapped (thread_of g b) x.threads.items u th there)

  pub at_finished : th.finished ≡ true → thrown t u e (slots g b x) ≡ Some (answer t UnitValue (slots g b x))
  at_finished f = let s = slots g b x in at_other ∙ cond_true th.finished (Some (answer t UnitValue s)) (Some (throws_at t u e s)) f

  pub at_unfinished : th.finished ≡ false → thrown t u e (slots g b x) ≡ Some (throws_at t u e (slots g b x))
  at_unfinished f = let s = slots g b x in at_other ∙ cond_false th.finished (Some (answer t UnitValue s)) (Some (throws_at t u e s)) f

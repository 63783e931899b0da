-- The first exception in flight reaches a receptive thread.
use Rattle.std.proofs.Common.{◌≡◌, ℕ, List, [], ◌∷◌, true, false, Some, None, refl, sym, ap, ◌∙◌, subst, slice_get}
use Rattle.std.proofs.lemmas.Option.{same_Some}
use Rattle.hs_base.specs.declared.exn.Exn.{Exn}
use Rattle.hs_base.specs.declared.tree.script.Script.{Script}
use Rattle.hs_rules.specs.declared.entry.Entry.TheVariants.{Receive}
use Rattle.rules_expansion.specs.trees.Programs.{Fn, script_of}
use Rattle.rules_meaning.specs.Values.{UnitValue}
use Rattle.rules_meaning.specs.CoreMeaning.{code_of}
use Rattle.rules_typing.specs.TypingScripts.{Accepted}
use Rattle.rules_waiting.specs.OneCell.{leaves_line}
use Rattle.rules_waiting.specs.Waiting.{Flying, leaves, flight_of, flying_to, first_thrown, withdrawn, sorted_sleepers, still_asleep}
use Rattle.hs_rules.specs.Terms.{Ret, Throw}
use Rattle.hs_rules.specs.State.{State, resume, answer}
use Rattle.hs_rules.specs.Entries.{received, receive_entry}
use Rattle.hs_rules.specs.Entries as entries
use Rattle.hs_laws.proofs.Lists.{cond_true}
use Rattle.hs_laws.proofs.CellSteps.{Away, away_leaves, line_leaves}
use Rattle.hs_laws.proofs.Expanded.{standing_of}
use Rattle.hs_progress.specs.TypedStates.{has}
use Rattle.exn_flight.proofs.OneList.{flight_leaves}
use Rattle.exn_flight.proofs.SortedLeaving.{leaves_in_order}
use Rattle.slot_laws.specs.SlotRules.{ret, throw}
use Rattle.slot_states.specs.SlotStates.{SlotThread, SlotState, resumed, receives, SameCell, Enters, MainGoes}
use Rattle.slot_states.specs.Resting.{is_receptive}
use Rattle.slot_states.proofs.Following.{follow_start, follow_resume, entered}
use Rattle.slot_states.proofs.Reading.{same_masks, same_throw, named_of, on_thread_is, entry_leaves}
use Rattle.slot_states.proofs.AtRest.{same_receptive}
use Rattle.slot_states.proofs.Leaving.{Awake, sleepers_stay, left_cell, left_count}
use Rattle.slot_states.proofs.Places.{all_shown}
use Rattle.slot_states.proofs.Waits.{first_throws}

-- ---- the entry, by who throws first
received_is : (t w : ℕ) (e : Exn) (fs : List Flying) (s : State) → first_thrown fs ≡ Some (w, e) → received t fs s ≡ Some (resume t (Throw e) (answer w UnitValue s))
received_is t w e [] s h = absurd (cc h)
received_is t w e (f ∷ fs) s h =
    let p : ◌≡◌ {A = ℕ × Exn} (f.thrower, f.exn) (w, e) = same_Some (f.thrower, f.exn) (w, e) h in
    ap (λ (z : ℕ × Exn). Some (resume t (Throw z.1) (answer z.0 UnitValue s))) p

-- ---- the entry
pub receive_entered : (script : Script) → Accepted script → (x : SlotState) (t w : ℕ) (e : Exn) (th : SlotThread) → slice_get x.threads t ≡ Some th → th.finished ≡ false → is_receptive th ≡ true → first_thrown (flying_to t x.flight) ≡ Some (w, e) → MainGoes x
    → Enters script (Receive t) x (receives t w e x)
receive_entered script accepted x t w e th is going receptive first main es s run r =
    let ds : List Fn = script_of script in
    let a = r.agrees in
    let ws = s.blocked in
    let once = (standing_of ds es s run).once in
    let n = named_of ds x s r t th is in
    let thrown : first_thrown (flying_to t (flight_of ws)) ≡ Some (w, e) = ap (λ fs. first_thrown (flying_to t fs)) (sym a.flight) ∙ first in
    let reason = first_throws t w e ws once thrown in
    let u : State = resume t (Throw e) (answer w UnitValue s) in
    let hears : entries.is_receptive t n.thread.term s ≡ true =
    sym (same_receptive s t th n.thread n.blocked (same_throw (has r.stacks.store) ds n.stands.0) (same_masks (has r.stacks.store) ds n.stands.1)) ∙ receptive in
    let gets : receive_entry t n.thread s ≡ Some u = cond_true (entries.is_receptive t n.thread.term s) (received t (flying_to t (flight_of ws)) s) None hears ∙ received_is t w e (flying_to t (flight_of ws)) s thrown in
    entered script accepted es s u (Receive t) x (receives t w e x) run r
    (entry_leaves ds x s u (code_of ds) (Receive t) r main (on_thread_is (slice_get s.threads t) (λ b. receive_entry t b s) n.thread (Some u) n.is (sym n.finished ∙ going) gets), tt)
    (λ v. tt)
    (follow_resume x.threads s.threads (resumed w (ret UnitValue) x.threads) (answer w UnitValue s).threads (leaves w ws)
    (follow_resume x.threads s.threads x.threads s.threads ws (follow_start ds x s r) w (ret UnitValue) (Ret UnitValue) refl) t (throw e) (Throw e) refl)
    (record {
      made = left_count t x.cells ∙ a.made;
      cells = λ m. subst (SameCell m u) (sym (left_cell t m x.cells))
          (all_shown m (t ∷ []) s u (slice_get x.cells m) refl (line_leaves m t (leaves w ws) ∙ ap (leaves_line t) (away_leaves m w ws once (subst (Away m) (sym reason) refl))) (a.cells m));
      flight = ap (λ fs. withdrawn t (withdrawn w fs)) a.flight ∙ sym (flight_leaves t (leaves w ws) ∙ ap (withdrawn t) (flight_leaves w ws));
      sleepers = ap (still_asleep t) (a.sleepers ∙ ap sorted_sleepers (sym (sleepers_stay w ws once (subst Awake (sym reason) tt)))) ∙ sym (leaves_in_order t (leaves w ws));
      clock = a.clock;
      instances = a.instances;
      timeouts = a.timeouts;
      printed = a.printed;
    })

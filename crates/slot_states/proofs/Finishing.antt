-- A thread ends, by a value or by an exception, and all that throw at it are answered.
use Rattle.std.proofs.Common.{◌≡◌, ℕ, ◌+◌, List, [], ◌++◌, length, true, false, Some, None, refl, sym, ap, ◌∙◌, subst, arith, slice_get, slice_set, length-append}
use Rattle.hs_base.specs.declared.exn.Exn.{Exn}
use Rattle.hs_base.specs.declared.tree.script.Script.{Script}
use Rattle.hs_rules.specs.declared.entry.Entry.TheVariants.{Finish}
use Rattle.rules_expansion.specs.trees.Programs.{Fn, script_of}
use Rattle.rules_meaning.specs.Values.{V, UnitValue}
use Rattle.rules_meaning.specs.CoreMeaning.{code_of}
use Rattle.rules_typing.specs.TypingScripts.{Accepted}
use Rattle.rules_waiting.specs.Waiting.{Reason, Throwing, Sleeping, Waiting, reason_of, want_at, flight_of, flying_to, sorted_sleepers}
use Rattle.hs_rules.specs.Terms.{Ret}
use Rattle.hs_rules.specs.State.{Thread, State, resume_all}
use Rattle.hs_rules.specs.Entries.{throwers, closed, finish_entry, uncaught_line}
use Rattle.hs_laws.specs.Standing.{Once}
use Rattle.hs_laws.proofs.Lists.{Distinct, Ones, throws_at, throwers_are, distinct_those, ones_those_if, once_reason}
use Rattle.hs_laws.proofs.CellSteps.{Still, those_still}
use Rattle.hs_laws.proofs.Expanded.{standing_of}
use Rattle.hs_progress.specs.TypedStates.{has}
use Rattle.slot_laws.specs.SlotRules.{ret, throw, at}
use Rattle.slot_laws.specs.Standing.{StandsIn}
use Rattle.slot_states.specs.SlotStates.{SlotThread, SlotState, all_resumed, finished_at, all_withdrawn, finishes, Represents, Enters, StandsBare, MainGoes}
use Rattle.slot_states.proofs.Following.{Follow, follow_start, follow_finish, Parts, entered}
use Rattle.slot_states.proofs.Reading.{ret_is, throw_is, no_frames, Named, named_of, on_thread_is, entry_leaves, same_cell}
use Rattle.slot_states.proofs.Leaving.{Awake, sleepers_stay_all, rest_all, flight_all, follow_resume_all}

-- ---- who throws at a thread waits at no cell and doesn't sleep
at_no_cell : (t m : ℕ) (r : Reason V) → throws_at t r ≡ true → want_at m r ≡ None
at_no_cell t m (Throwing u x) e = refl
at_no_cell t m (Sleeping due) e = refl
at_no_cell t m _ e = absurd (cc e)

throws_awake : (t : ℕ) (r : Reason V) → throws_at t r ≡ true → Awake (Some r)
throws_awake t (Sleeping due) e = cc e
throws_awake t _ e = tt

module _ (ws : List (Waiting V)) (once : Once ws) (t : ℕ) where
  abbrev those_at : List ℕ
  those_at = throwers (flying_to t (flight_of ws))

  each_once : Distinct those_at
  each_once = subst Distinct (sym (throwers_are t ws)) (distinct_those (λ u. throws_at t) ws once)

  each_awake : Ones (λ v. Awake (reason_of v ws)) those_at
  each_awake =
      subst (Ones (λ v. Awake (reason_of v ws))) (sym (throwers_are t ws))
      (ones_those_if (λ v r. reason_of v ws ≡ Some r) (λ v. Awake (reason_of v ws)) (λ u. throws_at t) ws (λ v r b e. subst Awake (sym e) (throws_awake t r b)) (once_reason ws once))

-- ---- the entry
module _ (x : SlotState) (s : State) (ds : List Fn) (r : Represents ds x s) (once : Once s.blocked) (t : ℕ) (b : Thread) (is : slice_get s.threads t ≡ Some b) (line : List ℕ) where
  abbrev ended : State
  ended = record s { threads = slice_set s.threads t (record { term = b.term; finished = true }); errors = s.errors ++ line }

  abbrev left : State
  left = closed t b line s

  ended_cells : (m : ℕ) → Still m s left
  ended_cells m =
      subst (λ us. Still m s (resume_all us (Ret UnitValue) ended)) (sym (throwers_are t s.blocked))
      (those_still m s ended (λ u. throws_at t) (Ret UnitValue) (refl, refl, once) (λ v q e. at_no_cell t m q e))

  ended_follow : Follow x.threads s.threads (finishes t (length line) x).threads left.threads left.blocked
  ended_follow =
      subst (λ fs. Follow x.threads s.threads (all_resumed (throwers (flying_to t fs)) (ret UnitValue) (finished_at t x.threads)) left.threads left.blocked) (sym r.agrees.flight)
      (follow_resume_all x.threads s.threads (throwers (flying_to t (flight_of s.blocked))) (ret UnitValue) (Ret UnitValue) refl (finished_at t x.threads) ended
      (follow_finish x.threads s.threads x.threads s.threads s.blocked (follow_start ds x s r) t b is))

  ended_printed : (o e : List ℕ) → o ≡ s.output → e ≡ s.errors ++ line → x.printed + length line ≡ length o + length e
  ended_printed o e p q =
      let a = ap length p in
      let c = ap length q ∙ length-append s.errors line in
      let d = r.agrees.printed in
      omega (arith, a, c, d)

  ended_parts : Parts (finishes t (length line) x) left
  ended_parts =
      let a = r.agrees in
      let ts = throwers (flying_to t (flight_of s.blocked)) in
      let rest = rest_all ts (Ret UnitValue) ended in
      record {
        made = a.made ∙ ap length (sym rest.cells);
        cells = λ m. let k = ended_cells m in same_cell m s left (slice_get x.cells m) k.0 k.1 (a.cells m);
        flight = ap (λ fs. all_withdrawn (throwers (flying_to t fs)) fs) a.flight ∙ sym (flight_all ts (Ret UnitValue) ended);
        sleepers = a.sleepers ∙ ap sorted_sleepers (sym (sleepers_stay_all ts (Ret UnitValue) ended once (each_once s.blocked once t) (each_awake s.blocked once t)));
        clock = a.clock ∙ sym rest.clock;
        instances = a.instances ∙ sym rest.instances;
        timeouts = a.timeouts ∙ sym rest.timeouts;
        printed = ended_printed left.output left.errors rest.output rest.errors;
      }

-- a thread whose entry is its end by this line
finish_by : (script : Script) → Accepted script → (x : SlotState) (t : ℕ) (th : SlotThread) → slice_get x.threads t ≡ Some th → th.finished ≡ false → MainGoes x → (line : List ℕ)
    → ((s : State) (r : Represents (script_of script) x s) (n : Named (script_of script) x s r t th) → finish_entry t n.thread n.thread.term.frames n.thread.term.part s ≡ Some (closed t n.thread line s))
    → Enters script (Finish t) x (finishes t (length line) x)
finish_by script accepted x t th is going main line ends es s run r =
    let ds : List Fn = script_of script in
    let once = (standing_of ds es s run).once in
    let n = named_of ds x s r t th is in
    let u : State = closed t n.thread line s in
    entered script accepted es s u (Finish t) x (finishes t (length line) x) run r
    (entry_leaves ds x s u (code_of ds) (Finish t) r main (on_thread_is (slice_get s.threads t) (λ b. finish_entry t b b.term.frames b.term.part s) n.thread (Some u) n.is (sym n.finished ∙ going) (ends s r n)), tt)
    (λ v. tt) (ended_follow x s ds r once t n.thread n.is line) (ended_parts x s ds r once t n.thread n.is line)

pub value_ended : (script : Script) → Accepted script → (x : SlotState) (t : ℕ) (v : V) → StandsBare x t (ret v) → MainGoes x → Enters script (Finish t) x (finishes t 0 x)
value_ended script accepted x t v b main =
    finish_by script accepted x t b.thread b.is b.unfinished main []
    (λ s r n.
    let w : StandsIn (script_of script) r.stacks.store t (at (ret v) []) n.thread.term = subst (λ z. StandsIn (script_of script) r.stacks.store t z n.thread.term) b.term n.stands in
    ap (λ z. finish_entry t n.thread z n.thread.term.part s) (no_frames (has r.stacks.store) (script_of script) w.1) ∙ ap (λ z. finish_entry t n.thread [] z s) (ret_is (has r.stacks.store) (script_of script) w.0))

pub exception_ended : (script : Script) → Accepted script → (x : SlotState) (t : ℕ) (e : Exn) → StandsBare x t (throw e) → MainGoes x → Enters script (Finish t) x (finishes t (length (uncaught_line t e)) x)
exception_ended script accepted x t e b main =
    finish_by script accepted x t b.thread b.is b.unfinished main (uncaught_line t e)
    (λ s r n.
    let w : StandsIn (script_of script) r.stacks.store t (at (throw e) []) n.thread.term = subst (λ z. StandsIn (script_of script) r.stacks.store t z n.thread.term) b.term n.stands in
    ap (λ z. finish_entry t n.thread z n.thread.term.part s) (no_frames (has r.stacks.store) (script_of script) w.1) ∙ ap (λ z. finish_entry t n.thread [] z s) (throw_is (has r.stacks.store) (script_of script) w.0))

-- A sleeper that is due wakes, the first or not.
use Rattle.std.proofs.Common.{◌≡◌, ◌≤◌, ℕ, List, Some, refl, sym, ap, ◌∙◌, subst, slice_get}
use Rattle.hs_base.specs.declared.tree.script.Script.{Script}
use Rattle.hs_rules.specs.declared.entry.Entry.{Entry}
use Rattle.hs_rules.specs.declared.entry.Entry.TheVariants.{Wake}
use Rattle.rules_expansion.specs.trees.Programs.{Fn, script_of}
use Rattle.rules_meaning.specs.Values.{UnitValue}
use Rattle.rules_meaning.specs.CoreMeaning.{code_of}
use Rattle.rules_typing.specs.TypingScripts.{Accepted}
use Rattle.rules_waiting.specs.Waiting.{Sleeping, reason_of, still_asleep, first_awake}
use Rattle.hs_rules.specs.Terms.{Ret}
use Rattle.hs_rules.specs.State.{State, answer}
use Rattle.hs_rules.specs.Entries.{Leads}
use Rattle.hs_laws.specs.cases.Cases as row
use Rattle.hs_laws.proofs.cases_lemmas.Entering.{entered_is}
use Rattle.hs_rules.specs.Runs.{IsRun}
use Rattle.hs_laws.proofs.CellSteps.{Away, away_leaves}
use Rattle.hs_laws.proofs.Expanded.{standing_of}
use Rattle.exn_flight.specs.Asleep.{due_of}
use Rattle.exn_flight.proofs.SortedLeaving.{leaves_in_order}
use Rattle.slot_laws.specs.SlotRules.{ret}
use Rattle.slot_states.specs.SlotStates.{SlotState, wakes, Represents, Enters, MainGoes}
use Rattle.slot_states.proofs.Following.{follow_start, follow_resume, entered}
use Rattle.slot_states.proofs.Reading.{main_going, same_cell}
use Rattle.slot_states.proofs.Asleep.{first_due, sleeps_until}
use Rattle.slot_states.proofs.Leaving.{Silent, flight_stays}

-- ---- the entry of a thread that is blocked until a time that has come
pub wake_until : (script : Script) → Accepted script → (x : SlotState) (t due : ℕ) → MainGoes x → (es : List Entry) (s : State) → IsRun (script_of script) es s → Represents (script_of script) x s → reason_of t s.blocked ≡ Some (Sleeping due) → due ≤ s.clock →
    (u : State) × Leads (code_of (script_of script)) s (Wake t) u × Represents (script_of script) (wakes t x) u
wake_until script accepted x t due m es s run r asleep come =
    let ds : List Fn = script_of script in
    let a = r.agrees in
    let once = (standing_of ds es s run).once in
    let u : State = answer t UnitValue s in
    entered script accepted es s u (Wake t) x (wakes t x) run r (entered_is {code = code_of ds} (row.wakes (main_going ds x s r m) asleep come), tt) (λ v. tt)
    (follow_resume x.threads s.threads x.threads s.threads s.blocked (follow_start ds x s r) t (ret UnitValue) (Ret UnitValue) refl)
    (record {
      made = a.made;
      cells = λ c. same_cell c s u (slice_get x.cells c) refl (away_leaves c t s.blocked once (subst (Away c) (sym asleep) refl)) (a.cells c);
      flight = a.flight ∙ sym (flight_stays t s.blocked once (subst Silent (sym asleep) tt));
      sleepers = ap (still_asleep t) a.sleepers ∙ sym (leaves_in_order t s.blocked);
      clock = a.clock;
      instances = a.instances;
      timeouts = a.timeouts;
      printed = a.printed;
    })

-- the first that is due
pub wake_entered : (script : Script) → Accepted script → (x : SlotState) (t : ℕ) → first_awake x.clock x.sleepers ≡ Some t → MainGoes x → Enters script (Wake t) x (wakes t x)
wake_entered script accepted x t e m es s run r =
    let a = r.agrees in
    let once = (standing_of (script_of script) es s run).once in
    let k = first_due s.clock t s.blocked once (ap (first_awake s.clock) (sym a.sleepers) ∙ (ap (λ n. first_awake n x.sleepers) (sym a.clock) ∙ e)) in
    wake_until script accepted x t k.0 m es s run r k.1 k.2

-- any that is due
pub due_wake_entered : (script : Script) → Accepted script → (x : SlotState) (t due : ℕ) → due_of t x.sleepers ≡ Some due → due ≤ x.clock → MainGoes x → Enters script (Wake t) x (wakes t x)
due_wake_entered script accepted x t due e come m es s run r =
    let a = r.agrees in
    let once = (standing_of (script_of script) es s run).once in
    wake_until script accepted x t due m es s run r (sleeps_until t due s.blocked once (ap (due_of t) (sym a.sleepers) ∙ e)) (subst (λ n. due ≤ n) a.clock come)

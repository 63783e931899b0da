-- Ticks that a record may enter: beside work, and where all rest.
use Rattle.std.proofs.Common.{◌≡◌, ◌≢◌, ◌<◌, ◌≤◌, ℕ, [], ◌∷◌, ◌++◌, Bool, Option, Some, None, ◌⊎◌, inl, inr, sym, ap, ◌∙◌, subst, arith, slice_get}
use Rattle.std.proofs.Math.Logic.{∥∥₁_elim, ∥∥₁_prop, ∥∥₁_map}
use Rattle.std.specs.Prelude.{Result, Ok, Err, OnOk, OnErr}
use Rattle.hs_base.specs.declared.no_memory.NoMemory.{NoMemory}
use Rattle.hs_rules.specs.declared.entry.Entry.{Entry}
use Rattle.hs_rules.specs.declared.entry.Entry.TheVariants as entry
use Rattle.rules_meaning.specs.CoreMeaning.{Code, code_of}
use Rattle.rules_waiting.specs.Waiting.{sleepers_of, earliest}
use Rattle.hs_rules.specs.State.{State}
use Rattle.hs_rules.specs.Endings.{IsTick, IsQuiet}
use Rattle.hs_laws.specs.BracketPhases.{At}
use Rattle.hs_laws.specs.ClockLaw.{AsksClock, ClockAsked, IsFrom, EndsInTick, TickStands, IsPunctual}
use Rattle.hs_laws.proofs.RunParts.{is_after}
use Rattle.hs_io.specs.Causes.{Rose}
use Rattle.hs_io.specs.Outside.{Waits}
use Rattle.slot_states.specs.SlotStates.{SlotState}
use Rattle.slot_states.proofs.Settled.{none_asleep, same_due, rest_quiet}
use Rattle.world_entries.specs.Worlds.{state_of, Live, Goes}
use Rattle.world_entries.proofs.Making.{main_goes}
use Rattle.run_course.specs.declared.history.acts.NextEntry.{NextEntry}
use Rattle.run_course.specs.declared.history.acts.NextEntry.TheVariants as act
use Rattle.run_course.specs.declared.history.acts.Next.TheVariants as next
use Rattle.run_course.specs.declared.history.record.Record.{Record}
use Rattle.run_course.specs.history.Acts.{entry_of}
use Rattle.run_course.specs.history.Records.{script, IsNext, Same, Appended}
use Rattle.run_course.proofs.history_lemmas.GoingOn.{one_state}
use Rattle.run_course.proofs.history_lemmas.HowItEnds.{act_no_tick}
use Rattle.run_course.proofs.history_lemmas.Legal.{Legal, acts_are_legal, goers_are_legal}
use Rattle.run_course.specs.clocked.Clocks.{work, Asks, IsWanted, TicksKept}
use Rattle.run_course.proofs.clocked_lemmas.Going.{Kept, kept_as, same_time, same_kept}
use Rattle.run_course.proofs.clocked_lemmas.Keeping.{ticks_ticked, ticks_early}

-- ---- main goes where work is
pub work_goes : (o : Option NextEntry) (r : Record) → IsNext (work o) r → Goes r.world
work_goes None r h = h.0
work_goes (Some a) r h = h.0

module _ (r : Record) (live : Live r.of.value r.history.list r.world) where
  abbrev code : Code
  code = code_of (script r)

  abbrev x : SlotState
  x = state_of r.of.value r.world

  somebody_sleeps : r.world.sleepers.list ≢ [] → sleepers_of live.state.blocked ≢ []
  somebody_sleeps some e = some (none_asleep (script r) x live.state live.represents e)

  -- ---- beside work

  -- something else is legal
  work_legal : (o : Option NextEntry) → IsNext (work o) r → (e : Entry) × (¬ IsTick e) × Legal r.of.value r.history.list r.world live e
  work_legal None h = (entry.Local h.2.0 1, λ z. z, goers_are_legal r.of.value r.history.list r.world live h.0 h.2.0 (h.2.1 r.of.value))
  work_legal (Some a) h = (entry_of a, act_no_tick a, acts_are_legal r.of.value r.history.list r.world live h.0 a h.1)

  clock_asked : (t : ℕ) → IsNext (work (Some (act.Op t))) r → Asks (act.Op t) r → ∥ ClockAsked code live.state ∥₁
  clock_asked t h a =
      ∥∥₁_map a (λ k. record {
        thread = t;
        stands = subst (λ (s : State). At AsksClock (slice_get s.threads t)) (one_state (script r) r.history.list k.0 live.state k.1 live.run) k.2;
        legal = acts_are_legal r.of.value r.history.list r.world live h.0 (act.Op t) h.1;
      })

  act_asked : (a : NextEntry) → IsNext (work (Some a)) r → Asks a r → ∥ ClockAsked code live.state ∥₁
  act_asked (act.Op t) h a = clock_asked t h a
  act_asked (act.Finish t) h a = absurd a
  act_asked (act.Local t) h a = absurd a
  act_asked (act.Receive t) h a = absurd a
  act_asked (act.Wake t) h a = absurd a
  act_asked act.Strand h a = absurd a

  wanted_so : (o : Option NextEntry) (read : Bool) → IsNext (work o) r → IsWanted o read r → ∥ ((sleepers_of live.state.blocked ≢ []) ⊎ ClockAsked code live.state) ∥₁
  wanted_so o read h (inr k) = ∣ inl (somebody_sleeps k.1) ∣₁
  wanted_so None read h (inl k) = absurd k
  wanted_so (Some a) read h (inl k) = ∥∥₁_map (act_asked a h k) (λ z. inr z)

  module _ (o : Option NextEntry) (h : IsNext (work o) r) (at : ℕ) where
    work_stands : (sleepers_of live.state.blocked ≢ []) ⊎ ClockAsked code live.state → r.world.clock < at → ¬ EndsInTick r.history.list → TickStands code r.history.list live.state at
    work_stands wanted later apart = record { wanted = wanted; beside = λ e other legal. (omega (arith, later, live.represents.agrees.clock), apart) }

    work_punctual : IsPunctual code live.state at
    work_punctual quiet = let k = work_legal o h in absurd (quiet k.0 k.1 k.2)

    pub work_kept : (read : Bool) (lent before now : ℕ) → before ≤ now → IsWanted o read r → r.world.clock < at → ¬ EndsInTick r.history.list → Kept r lent before → ∥ TicksKept (script r) (r.history.list ++ entry.Tick at ∷ []) lent now ∥₁
    work_kept read lent before now le wanted later apart k =
        ∥∥₁_elim k ∥∥₁_prop (λ z. ∥∥₁_map (wanted_so o read h wanted) (λ w.
        ticks_ticked (script r) r.history.list lent before now le z at live.state (is_after (script r) r.history.list live.state live.run) (work_stands w later apart) work_punctual))

  -- ---- where all rest
  module _ (due : ℕ) (h : IsNext (next.Sleeps due) r) (at : ℕ) where
    some : r.world.sleepers.list ≢ []
    some n = let z : ◌≡◌ {A = Option ℕ} None (Some due) = ap earliest (sym n) ∙ h.2 in cc z

    is_quiet : IsQuiet code live.state
    is_quiet = rest_quiet r.of.value.of.value live.accepted r.history.list live.state live.run x live.represents (main_goes r.world h.0 r.of.value) (h.1 r.of.value) (inl some)

    rest_stands : TickStands code r.history.list live.state at
    rest_stands = record { wanted = inl (somebody_sleeps some); beside = λ e other legal. absurd (is_quiet e other legal) }

    rest_punctual : due ≤ at → IsPunctual code live.state at
    rest_punctual le quiet = subst (IsFrom at) (sym (same_due (script r) x live.state live.represents ∙ h.2)) le

    -- a Tick to a reading after the wait
    pub rest_kept : (lent before now last : ℕ) → Waits due last at before now → TicksKept (script r) r.history.list lent before → TicksKept (script r) (r.history.list ++ entry.Tick at ∷ []) lent now
    rest_kept lent before now last waits z = by waits.reached
      where
        by : (due ≤ at) ⊎ Rose before now → TicksKept (script r) (r.history.list ++ entry.Tick at ∷ []) lent now
        by (inl le) = ticks_ticked (script r) r.history.list lent before now waits.counted z at live.state (is_after (script r) r.history.list live.state live.run) rest_stands (rest_punctual le)
        by (inr rose) = ticks_early (script r) r.history.list lent before now waits.counted z at live.state (is_after (script r) r.history.list live.state live.run) rest_stands rose

-- ---- a record after a call that enters one

-- the Tick was appended, or nobody sees a change
abbrev pub Ticked : ℕ → Record → Record → Type 0
Ticked at old new = (Appended (entry.Tick at) old new × (new.world.clock ≡ at)) ⊎ Same old new

pub ticked_so : (R : Result Unit NoMemory) (at : ℕ) (old new : Record) → OnOk R (Appended (entry.Tick at) old new) → OnOk R (new.world.clock ≡ at) → OnErr R (Same old new) → Ticked at old new
ticked_so (Ok x) at old new ok clock err = inl (ok, clock)
ticked_so (Err x) at old new ok clock err = inr err

pub ticked_time : (old new : Record) (at last : ℕ) → Ticked at old new → old.world.clock ≤ last → at ≤ last → new.world.clock ≤ last
ticked_time old new at last (inl h) le read = omega (arith, h.1, read)
ticked_time old new at last (inr h) le read = omega (arith, same_time old new h, le)

pub looked_kept : (old new : Record) (o : Option NextEntry) (read : Bool) (at lent before now : ℕ) → before ≤ now → IsNext (work o) old → IsWanted o read old → old.world.clock < at → ¬ EndsInTick old.history.list → Ticked at old new
    → Kept old lent before → Kept new lent now
looked_kept old new o read at lent before now le h wanted later apart (inl a) k =
    kept_as old new (old.history.list ++ entry.Tick at ∷ []) lent now a.0.plan.2 a.0.history
    (∥∥₁_elim old.after ∥∥₁_prop (λ live. work_kept old live o h at read lent before now le wanted later apart k))
looked_kept old new o read at lent before now le h wanted later apart (inr s) k = same_kept old new lent before now le s k

pub slept_kept : (old new : Record) (due at lent before now last : ℕ) → IsNext (next.Sleeps due) old → Waits due last at before now → Ticked at old new → Kept old lent before → Kept new lent now
slept_kept old new due at lent before now last h waits (inl a) k =
    kept_as old new (old.history.list ++ entry.Tick at ∷ []) lent now a.0.plan.2 a.0.history
    (∥∥₁_elim old.after ∥∥₁_prop (λ live. ∥∥₁_map k (λ z. rest_kept old live due h at lent before now last waits z)))
slept_kept old new due at lent before now last h waits (inr s) k = same_kept old new lent before now waits.counted s k

-- Without time a state with slots stands for the state of the rules without time.
use Rattle.std.proofs.Common.{◌≡◌, ◌↔◌, ℕ, true, List, [], ◌∷◌, Option, Some, None, refl, sym, ap, ◌∙◌, subst, slice_get}
use Rattle.hs_rules.specs.declared.entry.Entry.{Entry}
use Rattle.hs_rules.specs.declared.entry.Entry.TheVariants as entry
use Rattle.rules_expansion.specs.trees.Trees.{T}
use Rattle.rules_expansion.specs.trees.Programs.{Fn}
use Rattle.rules_meaning.specs.Values.{V}
use Rattle.rules_sorts.specs.Sorts.{Sort}
use Rattle.rules_waiting.specs.Waiting.{Sleeper, Waiting, sleepers_of, sorted_sleepers}
use Rattle.hs_rules.specs.Terms as terms
use Rattle.hs_rules.specs.State.{Thread, State}
use Rattle.hs_progress.specs.TypedStates.{has}
use Rattle.outcome_laws.specs.timing.WithoutTime as named
use Rattle.outcome_laws.specs.timing.WithoutTime.{timeless, timeless_blocked}
use Rattle.outcome_laws.proofs.timing_lemmas.Alike.{due_now, blocked_still, line_still, flight_still, sleepers_still}
use Rattle.slot_laws.specs.SlotRules.{SlotPart}
use Rattle.slot_laws.specs.Standing.{PartStands, op_stands, calls_stands}
use Rattle.slot_states.specs.SlotStates.{SlotThread, SlotState, SameThread, Represents}
use Rattle.slot_states.proofs.Reading.{named_of, same_cell, slotted_of}
use Rattle.search_laws.specs.time.WithoutTime.{undue, untimed, part_reads_clock, thread_reads_clock, ReadsClock}
use Rattle.search_laws.proofs.time_lemmas.Sleepers.{sorted_still}

-- ---- what stands

same_undue : (ss : List Sleeper) → undue ss ≡ due_now ss
same_undue [] = refl
same_undue (s ∷ ss) = ap (λ rs. record { thread = s.thread; due = 0 } ∷ rs) (same_undue ss)

sleepers_stand : (ws : List (Waiting V)) → sorted_sleepers (undue (sorted_sleepers (sleepers_of ws))) ≡ sorted_sleepers (sleepers_of (timeless_blocked ws))
sleepers_stand ws = sorted_still (sleepers_of ws) ∙ (ap sorted_sleepers (same_undue (sleepers_of ws)) ∙ ap sorted_sleepers (sym (sleepers_still ws)))

pub untimed_stands : (ds : List Fn) (x : SlotState) (s : State) → Represents ds x s → Represents ds (untimed x) (timeless s)
untimed_stands ds x s r =
    let a = r.agrees in
    record {
      stacks = record { store = r.stacks.store; sound = r.stacks.sound; stands = r.stacks.stands };
      agrees = record {
        count = a.count;
        threads = λ t. subst (SameThread (slice_get x.threads t) (slice_get s.threads t)) (sym (blocked_still t s.blocked)) (a.threads t);
        made = a.made;
        cells = λ m. same_cell m s (timeless s) (slice_get x.cells m) refl (line_still m s.blocked) (a.cells m);
        flight = a.flight ∙ sym (flight_still s.blocked);
        sleepers = ap (λ ss. sorted_sleepers (undue ss)) a.sleepers ∙ sleepers_stand s.blocked;
        clock = refl;
        instances = a.instances;
        timeouts = a.timeouts;
        printed = a.printed;
      };
    }

-- ---- what reads the clock

part_reads : (cells : ℕ → T → Type 0) (ds : List Fn) {p : SlotPart} {q : terms.Part} {k : Sort} → PartStands cells ds p q k → part_reads_clock p ≡ named.part_reads_clock q
part_reads cells ds (op_stands (calls_stands a h)) = refl
part_reads cells ds _ = refl

module _ (ds : List Fn) (x : SlotState) (s : State) (r : Represents ds x s) where
  reads_forth : (t : ℕ) (o : Option SlotThread) → slice_get x.threads t ≡ o → thread_reads_clock o ≡ true → named.thread_reads_clock (slice_get s.threads t) ≡ true
  reads_forth t None is e = absurd (cc e)
  reads_forth t (Some th) is e =
      let n = named_of ds x s r t th is in
      ap named.thread_reads_clock n.is ∙ (sym (part_reads (has r.stacks.store) ds n.stands.0) ∙ e)

  reads_back : (t : ℕ) (o : Option Thread) → slice_get s.threads t ≡ o → named.thread_reads_clock o ≡ true → thread_reads_clock (slice_get x.threads t) ≡ true
  reads_back t None is e = absurd (cc e)
  reads_back t (Some th) is e =
      let h = slotted_of ds x s r t th is in
      ap thread_reads_clock h.1 ∙ (part_reads (has r.stacks.store) ds h.4.0 ∙ e)

  pub reads_alike : (e : Entry) → ReadsClock x e ↔ named.ReadsClock s e
  reads_alike (entry.Op t) = (reads_forth t (slice_get x.threads t) refl, reads_back t (slice_get s.threads t) refl)
  reads_alike _ = (λ h. h, λ h. h)

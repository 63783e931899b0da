-- An entry that isn't a Tick, a Wake or a reading of the clock does alike without time.
use Rattle.std.proofs.Common.{◌≡◌, ℕ, zero, suc, true, false, List, [], ◌∷◌, length, Option, Some, None, refl, sym, ap, ◌∙◌, slice_get}
use Rattle.std.proofs.lemmas.Bool.{false_from_ne_true}
use Rattle.hs_base.specs.declared.mask.Mask.TheVariants.{Unmasked}
use Rattle.hs_base.specs.declared.exn.Exn.{Exn}
use Rattle.hs_rules.specs.declared.entry.Entry.{Entry}
use Rattle.hs_rules.specs.declared.entry.Entry.TheVariants as entry
use Rattle.hs_rules.specs.Entries.{uncaught_line}
use Rattle.hs_rules.specs.Endings.{IsTick}
use Rattle.rules_code.specs.CodeTrees.{SlottedFunction}
use Rattle.rules_waiting.specs.Waiting.{Sleeper, flying_to, first_thrown}
use Rattle.slot_laws.specs.SlotRules.{SlotPart, ret, throw, performs, SlotFrame, SlotTerm, mask_from, locals}
use Rattle.slot_states.specs.SlotStates.{SlotThread, SlotState, receives, moves, finishes, strands}
use Rattle.slot_states.specs.Resting.{is_receptive}
use Rattle.slot_states.specs.entering.Entering.{moved, local_entry, operates, op_entry, received, receive_entry, ended, finish_entry, rest_from, waiting_from, stranded, strand_entry, entered, next}
use Rattle.search_laws.specs.time.WithoutTime.{untimed, part_reads_clock, thread_reads_clock, ReadsClock}
use Rattle.search_laws.proofs.time_lemmas.Sleepers.{untimed_all, leave_alike, none_sleeps}
use Rattle.search_laws.proofs.time_lemmas.Untimed.{without_time, Alikes, again, either_alike, on_alike}
use Rattle.search_laws.proofs.time_lemmas.Performing.{operation_alike}

abbrev pub IsWake : Entry → Type 0
IsWake (entry.Wake t) = Unit {0}
IsWake _ = ⊥

module _ (funs : List SlottedFunction) (x : SlotState) where
  moved_alike : (t : ℕ) (o : Option SlotTerm) → Alikes (moved t o (untimed x)) (moved t o x)
  moved_alike t None = refl
  moved_alike t (Some st) = again (moves t st x)

  local_alike : (t k : ℕ) (th : SlotThread) → Alikes (local_entry funs t k th (untimed x)) (local_entry funs t k th x)
  local_alike t zero th = refl
  local_alike t (suc k) th = either_alike th.blocked None (moved t (locals funs Unmasked (suc k) th.term) (untimed x)) None (moved t (locals funs Unmasked (suc k) th.term) x) refl (moved_alike t (locals funs Unmasked (suc k) th.term))

  part_alike : (t : ℕ) (fs : List SlotFrame) (q : SlotPart) → part_reads_clock q ≡ false → Alikes (operates t fs q (untimed x)) (operates t fs q x)
  part_alike t fs (performs p) n = operation_alike x t (mask_from Unmasked fs) p n
  part_alike t fs _ n = refl

  op_alike : (t : ℕ) (th : SlotThread) → part_reads_clock th.term.part ≡ false → Alikes (op_entry t th (untimed x)) (op_entry t th x)
  op_alike t th n = either_alike th.blocked None (operates t th.term.frames th.term.part (untimed x)) None (operates t th.term.frames th.term.part x) refl (part_alike t th.term.frames th.term.part n)

  received_alike : (t : ℕ) (o : Option (ℕ × Exn)) → Alikes (received t o (untimed x)) (received t o x)
  received_alike t None = refl
  received_alike t (Some f) = ap (λ (ss : List Sleeper). Some (record (receives t f.0 f.1 x) { sleepers = ss; clock = 0 })) (leave_alike t x.sleepers)

  receive_alike : (t : ℕ) (th : SlotThread) → Alikes (receive_entry t th (untimed x)) (receive_entry t th x)
  receive_alike t th =
      either_alike (is_receptive th) (received t (first_thrown (flying_to t x.flight)) (untimed x)) None (received t (first_thrown (flying_to t x.flight)) x) None
      (received_alike t (first_thrown (flying_to t x.flight))) refl

  ended_alike : (t : ℕ) (fs : List SlotFrame) (q : SlotPart) → Alikes (ended t fs q (untimed x)) (ended t fs q x)
  ended_alike t [] (ret v) = again (finishes t 0 x)
  ended_alike t [] (throw e) = again (finishes t (length (uncaught_line t e)) x)
  ended_alike t _ _ = refl

  finish_alike : (t : ℕ) (th : SlotThread) → Alikes (finish_entry t th (untimed x)) (finish_entry t th x)
  finish_alike t th = either_alike th.blocked None (ended t th.term.frames th.term.part (untimed x)) None (ended t th.term.frames th.term.part x) refl (ended_alike t th.term.frames th.term.part)

  stranded_alike : (ts : List ℕ) → Alikes (stranded ts (untimed x)) (stranded ts x)
  stranded_alike [] = refl
  stranded_alike (t ∷ ts) = again (strands (t ∷ ts) x)

  -- where somebody sleeps nobody is stranded
  none_strands : (ss : List Sleeper) (y : SlotState) → (ss ≡ [] → ⊥) → strand_entry ss y ≡ None
  none_strands [] y n = absurd (n refl)
  none_strands (s ∷ ss) y n = refl

  some_sleeps : (s : Sleeper) (ss : List Sleeper) → untimed_all (s ∷ ss) ≡ [] → ⊥
  some_sleeps s ss e = let z : s ∷ ss ≡ [] = none_sleeps (s ∷ ss) e in cc z

  strand_alike : (ss : List Sleeper) → Alikes (strand_entry (untimed_all ss) (untimed x)) (strand_entry ss x)
  strand_alike [] =
      either_alike (rest_from x.flight 0 x.threads) (stranded (waiting_from 0 x.threads) (untimed x)) None (stranded (waiting_from 0 x.threads) x) None
      (stranded_alike (waiting_from 0 x.threads)) refl
  strand_alike (s ∷ ss) = ap without_time (none_strands (untimed_all (s ∷ ss)) (untimed x) (some_sleeps s ss))

  reads_none : (t : ℕ) (th : SlotThread) → slice_get x.threads t ≡ Some th → ¬ (thread_reads_clock (slice_get x.threads t) ≡ true) → part_reads_clock th.term.part ≡ false
  reads_none t th is n = sym (ap thread_reads_clock is) ∙ false_from_ne_true (thread_reads_clock (slice_get x.threads t)) n

  entered_alike : (e : Entry) → ¬ IsTick e → ¬ IsWake e → ¬ ReadsClock x e → Alikes (entered funs (untimed x) e) (entered funs x e)
  entered_alike (entry.Local t k) a b c = on_alike (slice_get x.threads t) (λ th. local_entry funs t k th (untimed x)) (λ th. local_entry funs t k th x) (λ th is. local_alike t k th)
  entered_alike (entry.Op t) a b c = on_alike (slice_get x.threads t) (λ th. op_entry t th (untimed x)) (λ th. op_entry t th x) (λ th is. op_alike t th (reads_none t th is c))
  entered_alike (entry.Receive t) a b c = on_alike (slice_get x.threads t) (λ th. receive_entry t th (untimed x)) (λ th. receive_entry t th x) (λ th is. receive_alike t th)
  entered_alike (entry.Wake t) a b c = absurd (b tt)
  entered_alike (entry.Finish t) a b c = on_alike (slice_get x.threads t) (λ th. finish_entry t th (untimed x)) (λ th. finish_entry t th x) (λ th is. finish_alike t th)
  entered_alike (entry.Tick at) a b c = absurd (a tt)
  entered_alike entry.Stranded a b c = strand_alike x.sleepers

  pub next_alike : (e : Entry) → ¬ IsTick e → ¬ IsWake e → ¬ ReadsClock x e → Alikes (next funs (untimed x) e) (next funs x e)
  next_alike e a b c = on_alike (slice_get x.threads 0) (λ main. entered funs (untimed x) e) (λ main. entered funs x e) (λ main is. entered_alike e a b c)

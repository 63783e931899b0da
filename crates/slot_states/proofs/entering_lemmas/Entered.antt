-- An entry that leaves a state with slots is entered.
use Rattle.std.proofs.Common.{◌≡◌, ℕ, zero, suc, nat_le, true, false, cond, List, [], ◌∷◌, Option, Some, None, refl, arith, slice_get}
use Rattle.std.proofs.lemmas.Bool.{leb-true}
use Rattle.hs_base.specs.declared.mask.Mask.TheVariants.{Unmasked}
use Rattle.hs_base.specs.declared.exn.Exn.{Exn}
use Rattle.hs_base.specs.declared.tree.script.Script.{Script}
use Rattle.hs_rules.specs.declared.entry.Entry.{Entry}
use Rattle.hs_rules.specs.declared.entry.Entry.TheVariants as entry
use Rattle.rules_expansion.specs.trees.Programs.{script_of}
use Rattle.rules_typing.specs.TypingScripts.{Accepted}
use Rattle.rules_code.specs.CodeTrees.{SlottedFunction, code_trees}
use Rattle.rules_waiting.specs.Waiting.{Sleeper, flying_to, first_thrown}
use Rattle.exn_flight.specs.Asleep.{due_of}
use Rattle.slot_laws.specs.SlotRules.{SlotPart, ret, throw, performs, SlotFrame, SlotTerm, at, locals}
use Rattle.slot_states.specs.SlotStates.{SlotThread, SlotState, moves, receives, wakes, ticks, Enters, MainGoes}
use Rattle.slot_states.specs.Resting.{is_receptive}
use Rattle.slot_states.proofs.Moving.{local_entered, tick_entered}
use Rattle.slot_states.proofs.Receiving.{receive_entered}
use Rattle.slot_states.proofs.Waking.{due_wake_entered}
use Rattle.slot_states.proofs.Finishing.{value_ended, exception_ended}
use Rattle.slot_states.proofs.StrandedAlike.{strand_entered}
use Rattle.slot_states.specs.entering.Entering.{moved, local_entry, operates, op_entry, received, receive_entry, woken, ended, finish_entry, rest_from, waiting_from, stranded, strand_entry, entered, next}
use Rattle.slot_states.proofs.entering_lemmas.Passing.{passed_not, passed, thread_there}
use Rattle.slot_states.proofs.entering_lemmas.Operations.{left, operation_entered}
use Rattle.slot_states.proofs.entering_lemmas.Stranding.{all_rest, all_waiting}

module _ (script : Script) (accepted : Accepted script) (x : SlotState) (main : MainGoes x) where
  abbrev funs : List SlottedFunction
  funs = code_trees (script_of script)

  -- ---- Local
  moved_entered : (t k : ℕ) (th : SlotThread) (y : SlotState) → slice_get x.threads t ≡ Some th → th.finished ≡ false → th.blocked ≡ false →
      (o : Option SlotTerm) → locals funs Unmasked (suc k) th.term ≡ o → moved t o x ≡ Some y → Enters script (entry.Local t (suc k)) x y
  moved_entered t k th y is f b None h e = absurd (cc e)
  moved_entered t k th y is f b (Some st) h e = left script (entry.Local t (suc k)) x (moves t st x) y (local_entered script accepted x t (suc k) th st is f b (omega arith) h main) e

  local_leaves : (t k : ℕ) (th : SlotThread) (y : SlotState) → slice_get x.threads t ≡ Some th → th.finished ≡ false → local_entry funs t k th x ≡ Some y → Enters script (entry.Local t k) x y
  local_leaves t zero th y is f e = absurd (cc e)
  local_leaves t (suc k) th y is f e =
      let p = passed_not th.blocked (moved t (locals funs Unmasked (suc k) th.term) x) y e in
      moved_entered t k th y is f p.0 (locals funs Unmasked (suc k) th.term) refl p.1

  -- ---- Op
  part_leaves : (t : ℕ) (th : SlotThread) (y : SlotState) → slice_get x.threads t ≡ Some th → th.finished ≡ false → th.blocked ≡ false →
      (q : SlotPart) → th.term.part ≡ q → operates t th.term.frames q x ≡ Some y → Enters script (entry.Op t) x y
  part_leaves t th y is f b (performs p) h e = operation_entered script accepted x main t p y (record { thread = th; is = is; part = h; unfinished = f; free = b }) e
  part_leaves t th y is f b _ h e = absurd (cc e)

  op_leaves : (t : ℕ) (th : SlotThread) (y : SlotState) → slice_get x.threads t ≡ Some th → th.finished ≡ false → op_entry t th x ≡ Some y → Enters script (entry.Op t) x y
  op_leaves t th y is f e =
      let p = passed_not th.blocked (operates t th.term.frames th.term.part x) y e in
      part_leaves t th y is f p.0 th.term.part refl p.1

  -- ---- Receive
  thrown_leaves : (t : ℕ) (th : SlotThread) (y : SlotState) → slice_get x.threads t ≡ Some th → th.finished ≡ false → is_receptive th ≡ true →
      (o : Option (ℕ × Exn)) → first_thrown (flying_to t x.flight) ≡ o → received t o x ≡ Some y → Enters script (entry.Receive t) x y
  thrown_leaves t th y is f r None h e = absurd (cc e)
  thrown_leaves t th y is f r (Some w) h e = left script (entry.Receive t) x (receives t w.0 w.1 x) y (receive_entered script accepted x t w.0 w.1 th is f r h main) e

  receive_leaves : (t : ℕ) (th : SlotThread) (y : SlotState) → slice_get x.threads t ≡ Some th → th.finished ≡ false → receive_entry t th x ≡ Some y → Enters script (entry.Receive t) x y
  receive_leaves t th y is f e =
      let p = passed (is_receptive th) (received t (first_thrown (flying_to t x.flight)) x) y e in
      thrown_leaves t th y is f p.0 (first_thrown (flying_to t x.flight)) refl p.1

  -- ---- Wake
  wake_leaves : (t : ℕ) (y : SlotState) → (o : Option ℕ) → due_of t x.sleepers ≡ o → woken t o x ≡ Some y → Enters script (entry.Wake t) x y
  wake_leaves t y None h e = absurd (cc e)
  wake_leaves t y (Some due) h e =
      let p = passed (nat_le due x.clock) (Some (wakes t x)) y e in
      left script (entry.Wake t) x (wakes t x) y (due_wake_entered script accepted x t due h (leb-true due x.clock p.0) main) p.1

  -- ---- Finish
  end_leaves : (t : ℕ) (th : SlotThread) (y : SlotState) → slice_get x.threads t ≡ Some th → th.finished ≡ false → th.blocked ≡ false →
      (fs : List SlotFrame) (q : SlotPart) → th.term ≡ at q fs → ended t fs q x ≡ Some y → Enters script (entry.Finish t) x y
  end_leaves t th y is f b [] (ret v) h e = left script (entry.Finish t) x _ y (value_ended script accepted x t v (record { thread = th; is = is; term = h; unfinished = f; free = b }) main) e
  end_leaves t th y is f b [] (throw z) h e = left script (entry.Finish t) x _ y (exception_ended script accepted x t z (record { thread = th; is = is; term = h; unfinished = f; free = b }) main) e
  end_leaves t th y is f b _ _ h e = absurd (cc e)

  finish_leaves : (t : ℕ) (th : SlotThread) (y : SlotState) → slice_get x.threads t ≡ Some th → th.finished ≡ false → finish_entry t th x ≡ Some y → Enters script (entry.Finish t) x y
  finish_leaves t th y is f e =
      let p = passed_not th.blocked (ended t th.term.frames th.term.part x) y e in
      end_leaves t th y is f p.0 th.term.frames th.term.part refl p.1

  -- ---- Tick
  tick_leaves : (now : ℕ) (y : SlotState) → cond (nat_le x.clock now) (Some (ticks now x)) None ≡ Some y → Enters script (entry.Tick now) x y
  tick_leaves now y e =
      let p = passed (nat_le x.clock now) (Some (ticks now x)) y e in
      left script (entry.Tick now) x (ticks now x) y (tick_entered script accepted x now (leb-true x.clock now p.0) main) p.1

  -- ---- Stranded
  stranded_leaves : (y : SlotState) → x.sleepers ≡ [] → rest_from x.flight 0 x.threads ≡ true → (ts : List ℕ) → waiting_from 0 x.threads ≡ ts → stranded ts x ≡ Some y → Enters script entry.Stranded x y
  stranded_leaves y none r [] h e = absurd (cc e)
  stranded_leaves y none r (t ∷ ts) h e = left script entry.Stranded x _ y (strand_entered script accepted x t ts (all_rest x none r) none (all_waiting x (t ∷ ts) h) main) e

  strand_leaves : (y : SlotState) → (ss : List Sleeper) → x.sleepers ≡ ss → strand_entry ss x ≡ Some y → Enters script entry.Stranded x y
  strand_leaves y [] h e =
      let p = passed (rest_from x.flight 0 x.threads) (stranded (waiting_from 0 x.threads) x) y e in
      stranded_leaves y h p.0 (waiting_from 0 x.threads) refl p.1
  strand_leaves y (s ∷ ss) h e = absurd (cc e)

  -- ---- each entry
  entry_leaves : (e : Entry) (y : SlotState) → entered funs x e ≡ Some y → Enters script e x y
  entry_leaves (entry.Local t k) y e = let g = thread_there (slice_get x.threads t) (λ th. local_entry funs t k th x) y e in local_leaves t k g.0 y g.1 g.2 g.3
  entry_leaves (entry.Op t) y e = let g = thread_there (slice_get x.threads t) (λ th. op_entry t th x) y e in op_leaves t g.0 y g.1 g.2 g.3
  entry_leaves (entry.Receive t) y e = let g = thread_there (slice_get x.threads t) (λ th. receive_entry t th x) y e in receive_leaves t g.0 y g.1 g.2 g.3
  entry_leaves (entry.Wake t) y e = wake_leaves t y (due_of t x.sleepers) refl e
  entry_leaves (entry.Finish t) y e = let g = thread_there (slice_get x.threads t) (λ th. finish_entry t th x) y e in finish_leaves t g.0 y g.1 g.2 g.3
  entry_leaves (entry.Tick now) y e = tick_leaves now y e
  entry_leaves entry.Stranded y e = strand_leaves y x.sleepers refl e

pub next_entered : (script : Script) → Accepted script → (x y : SlotState) (e : Entry) → next (code_trees (script_of script)) x e ≡ Some y → Enters script e x y
next_entered script accepted x y e h =
    let m = thread_there (slice_get x.threads 0) (λ main. entered (code_trees (script_of script)) x e) y h in
    entry_leaves script accepted x (record { main = m.0; is = m.1; unfinished = m.2 }) e y m.3

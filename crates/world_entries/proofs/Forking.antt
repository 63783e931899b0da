-- Forks: the world that they leave.
use Rattle.std.proofs.Common.{◌≡◌, ◌++◌, ℕ, List, [], ◌∷◌, length, Some, slice_get, sym, ap, ◌∙◌}
use Rattle.std.proofs.lemmas.List.{set-append_left}
use Rattle.std.proofs.lemmas.Option.{slice_get_within}
use Rattle.hs_base.specs.declared.value.Value.{Value}
use Rattle.hs_base.specs.declared.value.Value.TheVariants as raw
use Rattle.hs_base.specs.declared.mask.Mask.{Mask}
use Rattle.hs_base.specs.declared.mask.Mask.TheVariants.{Unmasked}
use Rattle.hs_rules.specs.declared.entry.Entry.TheVariants as entry
use Rattle.rules_meaning.specs.Values as val
use Rattle.rules_meaning.specs.Values.{V, values_of}
use Rattle.rules_code.specs.declared.code.CodeBody.{CodeBody}
use Rattle.rules_code.specs.declared.act.ActId.{ActId}
use Rattle.rules_waiting.specs.Waiting.{Flying, Sleeper}
use Rattle.rules_waiting.specs.OneCell.{Cell}
use Rattle.hs_laws.proofs.Lists.{item_append}
use Rattle.slot_laws.specs.SlotRules.{SlotPart, SlotTerm, at, doing, ret, mask_in, mask_from}
use Rattle.slot_laws.proofs.ActNodes.{values_push}
use Rattle.hs_eval.proofs.Cases.{value_of-Thread, value_of-Restore}
use Rattle.slot_states.specs.SlotStates as slots
use Rattle.slot_states.specs.SlotStates.{SlotThread, SlotState, resumed_by, answered, resumed, spawned, forks_to}
use Rattle.slot_states.proofs.Spawning.{fork_enters, fork_unmasked_enters}
use Rattle.local_steps.specs.declared.active.Frame.TheVariants as frame
use Rattle.local_steps.specs.Frames.{masking}
use Rattle.local_steps.specs.Machine.{act_of, frames_of}
use Rattle.frame_stack.specs.declared.control.Operation.TheVariants as o
use Rattle.frame_stack.specs.declared.control.Control.TheVariants as c
use Rattle.frame_stack.specs.Parts.{IsOp, Stacked, stacked, term_of}
use Rattle.thread_table.specs.declared.thread.Thread.{Thread}
use Rattle.thread_table.specs.Table.{slot_of, slots_of, changed, with_control, new_thread, IsAt}
use Rattle.thread_table.proofs.Table.{slots_is, slots_count, slots_resumed, slots_spawned}
use Rattle.world_entries.specs.declared.world.World.{World}
use Rattle.world_entries.specs.Worlds.{state_of, slot_cells, Makes, Stands, Goes}
use Rattle.world_entries.proofs.Making.{made, stands_at, main_goes}

abbrev parts : List SlotThread → List (Cell V) → List Flying → List Sleeper → ℕ → ℕ → ℕ → ℕ → SlotState
parts ths cs fs ss k i n p = record { threads = ths; cells = cs; flight = fs; sleepers = ss; clock = k; next_instance = i; next_timeout = n; printed = p }

-- all but the list of threads is as it was
pub state_kept : (old new : World) (b : CodeBody) (ths : List SlotThread) → slots_of b new.threads.list.items ≡ ths → new.threads.flight ≡ old.threads.flight → new.cells ≡ old.cells → new.sleepers ≡ old.sleepers
    → (new.clock ≡ old.clock) × (new.instances ≡ old.instances) × (new.timeouts ≡ old.timeouts) × (new.printed ≡ old.printed) → state_of b new ≡ record (state_of b old) { threads = ths }
state_kept old new b ths e f c s k =
    ap (λ z. parts z (slot_cells new.cells.cells) new.threads.flight.list new.sleepers.list new.clock new.instances new.timeouts new.printed) e
    ∙ (ap (λ z. parts ths (slot_cells new.cells.cells) z.list new.sleepers.list new.clock new.instances new.timeouts new.printed) f
    ∙ (ap (λ z. parts ths (slot_cells z.cells) old.threads.flight.list new.sleepers.list new.clock new.instances new.timeouts new.printed) c
    ∙ (ap (λ z. parts ths (slot_cells old.cells.cells) old.threads.flight.list z.list new.clock new.instances new.timeouts new.printed) s
    ∙ (ap (λ z. parts ths (slot_cells old.cells.cells) old.threads.flight.list old.sleepers.list z new.instances new.timeouts new.printed) k.0
    ∙ (ap (λ z. parts ths (slot_cells old.cells.cells) old.threads.flight.list old.sleepers.list old.clock z new.timeouts new.printed) k.1
    ∙ (ap (λ z. parts ths (slot_cells old.cells.cells) old.threads.flight.list old.sleepers.list old.clock old.instances z new.printed) k.2
    ∙ ap (λ z. parts ths (slot_cells old.cells.cells) old.threads.flight.list old.sleepers.list old.clock old.instances old.timeouts z) k.3))))))

-- one of the threads before a new one is resumed
resumed_before : (t : ℕ) (p : SlotPart) (ths : List SlotThread) (y th : SlotThread) → slice_get ths t ≡ Some th → resumed t p (ths ++ y ∷ []) ≡ resumed t p ths ++ y ∷ []
resumed_before t p ths y th is =
    ap (λ q. slots.set_thread t (resumed_by p) q (ths ++ y ∷ [])) (item_append ths (y ∷ []) t th is)
    ∙ (set-append_left ths (y ∷ []) t (resumed_by p th) (slice_get_within ths t th is)
    ∙ sym (ap (λ q. slots.set_thread t (resumed_by p) q ths ++ y ∷ []) is))

fork_slots : (b : CodeBody) (old new : List Thread) (t : ℕ) (k : Stacked) (th : Thread) → slice_get old t ≡ Some th → new ≡ changed t (with_control (c.Ret (raw.Thread (length old)))) (old ++ new_thread k ∷ [])
    → slots_of b new ≡ spawned (term_of b k) (answered t (val.Thread (length (slots_of b old))) (slots_of b old))
fork_slots b old new t k th is list =
    ap (slots_of b) list
    ∙ (slots_resumed b (old ++ new_thread k ∷ []) t (c.Ret (raw.Thread (length old)))
    ∙ (ap (λ v. answered t v (slots_of b (old ++ new_thread k ∷ []))) (value_of-Thread (length old) ∙ ap val.Thread (sym (slots_count b old)))
    ∙ (ap (answered t (val.Thread (length (slots_of b old)))) (slots_spawned b old k)
    ∙ resumed_before t (ret (val.Thread (length (slots_of b old)))) (slots_of b old) (slot_of b (new_thread k)) (slot_of b th) (slots_is b old t th is))))

-- a thread that is answered stands at its operation also where there is a new one
pub still_at_op : (ths : List Thread) (t : ℕ) (k : Stacked) (new : List Thread) → new ≡ ths ++ new_thread k ∷ [] → IsAt t (λ (th : Thread). IsOp th.stack.control) ths
    → IsAt t (λ (th : Thread). IsOp th.stack.control) new
still_at_op ths t k new e h = record { thread = h.thread; is = ap (λ z. slice_get z t) e ∙ item_append ths (new_thread k ∷ []) t h.thread h.is; holds = h.holds }

module _ (old new : World) (t : ℕ) (goes : Goes old) (k : Stacked)
    (list : new.threads.list.items ≡ changed t (with_control (c.Ret (raw.Thread (length old.threads.list.items)))) (old.threads.list.items ++ new_thread k ∷ []))
    (flight : new.threads.flight ≡ old.threads.flight) (cells : new.cells ≡ old.cells) (sleepers : new.sleepers ≡ old.sleepers)
    (counts : (new.clock ≡ old.clock) × (new.instances ≡ old.instances) × (new.timeouts ≡ old.timeouts) × (new.printed ≡ old.printed)) where
  forked : (th : Thread) → slice_get old.threads.list.items t ≡ Some th → (b : CodeBody) (st : SlotTerm) → term_of b k ≡ st → state_of b new ≡ forks_to t st (state_of b old)
  forked th is b st e =
      state_kept old new b (spawned st (answered t (val.Thread (length (slots_of b old.threads.list.items))) (slots_of b old.threads.list.items)))
      (fork_slots b old.threads.list.items new.threads.list.items t k th is list ∙ ap (λ z. spawned z (answered t (val.Thread (length (slots_of b old.threads.list.items))) (slots_of b old.threads.list.items))) e)
      flight cells sleepers counts

  pub fork_made : (i : ActId) (env : List Value) (s : Stands old t (o.Fork i env)) (m : Mask) → ((b : CodeBody) → m ≡ mask_from Unmasked (frames_of b s.thread.stack.frames))
      → k ≡ stacked (c.Doing i env) (frame.Mask (masking m Unmasked) ∷ []) → Makes (entry.Op t) old new
  fork_made i env s m masked is =
      made (entry.Op t) old new (λ b. forks_to t (at (doing (act_of b i) (values_of env)) (mask_in (mask_from Unmasked (frames_of b s.thread.stack.frames)) ∷ [])) (state_of b old))
      (λ b. forked s.thread s.is b (at (doing (act_of b i) (values_of env)) (mask_in (mask_from Unmasked (frames_of b s.thread.stack.frames)) ∷ []))
      (ap (term_of b) is ∙ ap (λ z. at (doing (act_of b i) (values_of env)) (mask_in z ∷ [])) (masked b)))
      (λ b a. fork_enters b.of.value a (state_of b old) t (act_of b i) (values_of env) (stands_at old t (o.Fork i env) s b) (main_goes old goes b))

  pub fork_unmask_made : (i : ActId) (env more : List Value) (s : Stands old t (o.ForkUnmask i env)) (m : Mask) → ((b : CodeBody) → m ≡ mask_from Unmasked (frames_of b s.thread.stack.frames))
      → more ≡ env ++ raw.Restore Unmasked ∷ [] → k ≡ stacked (c.Doing i more) (frame.Mask (masking m Unmasked) ∷ []) → Makes (entry.Op t) old new
  fork_unmask_made i env more s m masked pushed is =
      let values : values_of more ≡ values_of env ++ val.Restore Unmasked ∷ [] = ap values_of pushed ∙ (values_push env (raw.Restore Unmasked) ∙ ap (λ u. values_of env ++ u ∷ []) (value_of-Restore Unmasked)) in
      made (entry.Op t) old new (λ b. forks_to t (at (doing (act_of b i) (values_of env ++ val.Restore Unmasked ∷ [])) (mask_in (mask_from Unmasked (frames_of b s.thread.stack.frames)) ∷ [])) (state_of b old))
      (λ b. forked s.thread s.is b (at (doing (act_of b i) (values_of env ++ val.Restore Unmasked ∷ [])) (mask_in (mask_from Unmasked (frames_of b s.thread.stack.frames)) ∷ []))
      (ap (term_of b) is ∙ (ap (λ us. at (doing (act_of b i) us) (mask_in m ∷ [])) values ∙ ap (λ z. at (doing (act_of b i) (values_of env ++ val.Restore Unmasked ∷ [])) (mask_in z ∷ [])) (masked b))))
      (λ b a. fork_unmasked_enters b.of.value a (state_of b old) t (act_of b i) (values_of env) (stands_at old t (o.ForkUnmask i env) s b) (main_goes old goes b))

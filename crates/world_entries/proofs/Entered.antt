-- Worlds after an entry: the clock goes on, a sleeper wakes, a thread goes by local rules.
use Rattle.std.proofs.Common.{◌≡◌, ◌≤◌, ◌<◌, ℕ, List, false, Some, refl, sym, ap, ◌∙◌, subst, arith, slice_get}
use Rattle.hs_base.specs.declared.mask.Mask.TheVariants.{Unmasked}
use Rattle.hs_base.specs.declared.value.Value.TheVariants as value
use Rattle.hs_rules.specs.declared.entry.Entry.{Entry}
use Rattle.hs_rules.specs.declared.entry.Entry.TheVariants as entry
use Rattle.hs_rules.specs.State.{State}
use Rattle.hs_rules.specs.Entries.{Leads}
use Rattle.hs_rules.specs.Runs.{IsRun}
use Rattle.rules_expansion.specs.trees.Programs.{script_of}
use Rattle.rules_meaning.specs.CoreMeaning.{code_of}
use Rattle.rules_typing.specs.TypingScripts.{Accepted}
use Rattle.rules_code.specs.declared.code.CodeBody.{CodeBody}
use Rattle.rules_code.specs.CodeTrees.{StandsFor}
use Rattle.rules_waiting.specs.Waiting.{still_asleep}
use Rattle.exn_flight.specs.Asleep.{due_of}
use Rattle.slot_laws.specs.SlotRules.{local, locals, on_term}
use Rattle.hs_eval.proofs.Cases.{value_of-Unit}
use Rattle.rules_meaning.specs.Values.{UnitValue}
use Rattle.slot_states.specs.SlotStates.{SlotState, answered, ticks, wakes, moves, Represents, Enters}
use Rattle.slot_states.proofs.Moving.{tick_entered, local_entered}
use Rattle.slot_states.proofs.Waking.{due_wake_entered}
use Rattle.local_steps.specs.Machine.{funs_of, frames_of}
use Rattle.frame_stack.specs.declared.control.Control.TheVariants as c
use Rattle.frame_stack.specs.Parts.{Stacked, part_of, term_of}
use Rattle.thread_table.specs.declared.thread.Thread.{Thread}
use Rattle.thread_table.specs.declared.kinds.EntryKind.TheVariants as kind
use Rattle.thread_table.specs.Kinds.{IsKind}
use Rattle.thread_table.specs.Table.{slot_of, slots_of, changed, with_control, with_stack}
use Rattle.thread_table.proofs.Table.{slots_is, slots_resumed, slots_moved}
use Rattle.world_entries.specs.declared.world.World.{World}
use Rattle.world_entries.specs.Worlds.{state_of, slot_cells, Makes, MakesOf, Goes}
use Rattle.world_entries.proofs.Making.{made, main_goes}
use Rattle.world_entries.proofs.SlotSets.{term_shown}

-- ---- states with slots that are the same part by part
pub same_state : (x y : SlotState) → x.threads ≡ y.threads → x.cells ≡ y.cells → x.flight ≡ y.flight → x.sleepers ≡ y.sleepers → x.clock ≡ y.clock → x.next_instance ≡ y.next_instance → x.next_timeout ≡ y.next_timeout → x.printed ≡ y.printed → x ≡ y
same_state x y threads cells flight sleepers clock instance timeout printed = λ i. record { threads = threads i; cells = cells i; flight = flight i; sleepers = sleepers i; clock = clock i; next_instance = instance i; next_timeout = timeout i; printed = printed i }

-- the numbers of a world are as they were
pub record SameCounts (old new : World) : Type 0 where
  pub clock : new.clock ≡ old.clock
  pub instances : new.instances ≡ old.instances
  pub timeouts : new.timeouts ≡ old.timeouts
  pub printed : new.printed ≡ old.printed

-- where what the entry makes is known of each state that is stood for
pub made_from : (e : Entry) (old new : World)
    → ((b : CodeBody) → Accepted b.of.value → StandsFor b.nodes b.acts b.funs b.main b.of.value → (es : List Entry) (s : State) → IsRun (script_of b.of.value) es s → Represents (script_of b.of.value) (state_of b old) s → (y : SlotState) × (state_of b new ≡ y) × Enters b.of.value e (state_of b old) y)
    → Makes e old new
made_from e old new h b accepted stands es s run r =
    let k = h b accepted stands es s run r in
    subst (λ y. (u : State) × Leads (code_of (script_of b.of.value)) s e u × Represents (script_of b.of.value) y u) (sym k.1) (k.2 es s run r)

-- a thread that is answered ()
pub slots_unit : (b : CodeBody) (ths : List Thread) (t : ℕ) → slots_of b (changed t (with_control (c.Ret value.Unit)) ths) ≡ answered t UnitValue (slots_of b ths)
slots_unit b ths t = slots_resumed b ths t (c.Ret value.Unit) ∙ ap (λ v. answered t v (slots_of b ths)) value_of-Unit

-- ---- the clock goes on
pub tick_makes : (old : World) (at : ℕ) → Goes old → old.clock ≤ at → Makes (entry.Tick at) old (record old { clock = at })
tick_makes old at goes later = made (entry.Tick at) old (record old { clock = at }) (λ b. ticks at (state_of b old)) (λ b. refl) (λ b accepted. tick_entered b.of.value accepted (state_of b old) at later (main_goes old goes b))

-- ---- a sleeper wakes
pub wake_makes : (old new : World) (t due : ℕ) → Goes old → due_of t old.sleepers.list ≡ Some due → due ≤ old.clock
    → new.threads.list.items ≡ changed t (with_control (c.Ret value.Unit)) old.threads.list.items → new.cells.cells ≡ old.cells.cells → new.threads.flight.list ≡ old.threads.flight.list → new.sleepers.list ≡ still_asleep t old.sleepers.list
    → SameCounts old new → Makes (entry.Wake t) old new
wake_makes old new t due goes asleep come list cells flight sleepers counts =
    made (entry.Wake t) old new (λ b. wakes t (state_of b old))
    (λ b. same_state (state_of b new) (wakes t (state_of b old))
    (ap (slots_of b) list ∙ slots_unit b old.threads.list.items t) (ap slot_cells cells) flight sleepers counts.clock counts.instances counts.timeouts counts.printed)
    (λ b accepted. due_wake_entered b.of.value accepted (state_of b old) t due asleep come (main_goes old goes b))

-- ---- local rules
local_moves : (old new : World) (t k : ℕ) (b : CodeBody) (u : Stacked) → new.threads.list.items ≡ changed t (with_stack u) old.threads.list.items → new.cells.cells ≡ old.cells.cells → new.threads.flight.list ≡ old.threads.flight.list → new.sleepers.list ≡ old.sleepers.list
    → SameCounts old new → state_of b new ≡ moves t (term_of b u) (state_of b old)
local_moves old new t k b u list cells flight sleepers counts =
    same_state (state_of b new) (moves t (term_of b u) (state_of b old)) (ap (slots_of b) list ∙ slots_moved b old.threads.list.items t u) (ap slot_cells cells) flight sleepers counts.clock counts.instances counts.timeouts counts.printed

pub pop_makes : (old new : World) (t : ℕ) → Goes old → IsKind kind.Local t old.threads
    → ((u : Stacked) × (new.threads.list.items ≡ changed t (with_stack u) old.threads.list.items) × ((th : Thread) → slice_get old.threads.list.items t ≡ Some th → (b : CodeBody) → local (funs_of b) Unmasked (part_of b th.stack.control) (frames_of b th.stack.frames) ≡ Some (term_of b u)))
    → new.cells.cells ≡ old.cells.cells → new.threads.flight.list ≡ old.threads.flight.list → new.sleepers.list ≡ old.sleepers.list → SameCounts old new → Makes (entry.Local t 1) old new
pop_makes old new t goes own moved cells flight sleepers counts =
    made_from (entry.Local t 1) old new (λ b accepted stands es s run r. (
      moves t (term_of b moved.0) (state_of b old),
      local_moves old new t 1 b moved.0 moved.1 cells flight sleepers counts,
      local_entered b.of.value accepted (state_of b old) t 1 (slot_of b own.thread) (term_of b moved.0) (slots_is b old.threads.list.items t own.thread own.is) own.unfinished own.free (omega arith)
          (ap (λ z. locals z Unmasked 1 (term_of b own.thread.stack)) (sym stands.functions) ∙ ap (λ o. on_term o (λ u. Some u)) (moved.2 own.thread own.is b))
          (main_goes old goes b),
    ))

pub accept_makes : (old new : World) (t k : ℕ) (b : CodeBody) (th : Thread) (u : Stacked) → Goes old → slice_get old.threads.list.items t ≡ Some th → th.finished ≡ false → th.blocked ≡ false → 0 < k
    → new.threads.list.items ≡ changed t (with_stack u) old.threads.list.items → ∥ locals (funs_of b) Unmasked k (term_of b th.stack) ≡ Some (term_of b u) ∥₁
    → new.cells.cells ≡ old.cells.cells → new.threads.flight.list ≡ old.threads.flight.list → new.sleepers.list ≡ old.sleepers.list → SameCounts old new → MakesOf b (entry.Local t k) old new
accept_makes old new t k b th u goes is going free some list e cells flight sleepers counts accepted stands =
    subst (Enters b.of.value (entry.Local t k) (state_of b old)) (sym (local_moves old new t k b u list cells flight sleepers counts))
    (local_entered b.of.value accepted (state_of b old) t k (slot_of b th) (term_of b u) (slots_is b old.threads.list.items t th is) going free some
    (ap (λ z. locals z Unmasked k (term_of b th.stack)) (sym stands.functions) ∙ term_shown (locals (funs_of b) Unmasked k (term_of b th.stack)) (Some (term_of b u)) e)
    (main_goes old goes b))

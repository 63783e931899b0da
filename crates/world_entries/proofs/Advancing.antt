-- A world after local rules of a thread, as they come.
use Rattle.std.proofs.Common.{◌≡◌, ◌<◌, ℕ, List, false, None, Some, ap, slice_get}
use Rattle.std.proofs.Math.Logic.{∥∥₁_map}
use Rattle.hs_base.specs.declared.mask.Mask.TheVariants.{Unmasked}
use Rattle.hs_rules.specs.declared.entry.Entry.{Entry}
use Rattle.hs_rules.specs.declared.entry.Entry.TheVariants as entry
use Rattle.hs_rules.specs.State.{State}
use Rattle.hs_rules.specs.Terms.{Term}
use Rattle.rules_expansion.specs.trees.Programs.{Fn, script_of}
use Rattle.rules_code.specs.declared.code.CodeBody.{CodeBody}
use Rattle.hs_progress.specs.TypedStates.{has}
use Rattle.slot_laws.specs.SlotRules.{locals}
use Rattle.slot_laws.specs.Standing.{Stands, cells_of}
use Rattle.slot_laws.proofs.Stacking.{part_more, frames_more}
use Rattle.slot_states.specs.SlotStates.{SlotThread, SlotState, Represents}
use Rattle.slot_states.proofs.Reading.{named_of}
use Rattle.local_steps.specs.Machine.{funs_of}
use Rattle.frame_stack.specs.Parts.{Stacked, term_of}
use Rattle.frame_stack.specs.Advancing.{MayAdvance}
use Rattle.thread_table.specs.declared.thread.Thread.{Thread}
use Rattle.thread_table.specs.Table.{slot_of, slots_of, changed, with_stack}
use Rattle.thread_table.proofs.Table.{slots_is}
use Rattle.world_entries.specs.declared.world.World.{World}
use Rattle.world_entries.specs.Worlds.{state_of, slot_cells, Live, MakesOf, SameState, Goes}
use Rattle.world_entries.proofs.Entered.{same_state, SameCounts, accept_makes}

-- a stack that stands for the term of a thread stands for one wherever each number is of every type
stands_anywhere : (ds : List Fn) (x : SlotState) (s : State) → Represents ds x s → (t : ℕ) (h : SlotThread) → slice_get x.threads t ≡ Some h → (u : Term) × Stands (cells_of None) ds h.term u
stands_anywhere ds x s r t h is =
    let n = named_of ds x s r t h is in (
      n.thread.term,
      record {
        sort = r.stacks.store.sorts t;
        part = part_more (has r.stacks.store) (cells_of None) (λ m k q. tt) ds n.stands.0;
        frames = frames_more (has r.stacks.store) (cells_of None) (λ m k q. tt) ds n.stands.1;
      },
    )

-- a thread of a live world stands for a term of the code's script
pub may_advance : (b : CodeBody) (w : World) (t : ℕ) (th : Thread) → ∥ ((es : List Entry) × Live b es w) ∥₁ → slice_get w.threads.list.items t ≡ Some th → MayAdvance b th.stack
may_advance b w t th live is =
    ∥∥₁_map live (λ l. stands_anywhere (script_of b.of.value) (state_of b w) l.1.state l.1.represents t (slot_of b th) (slots_is b w.threads.list.items t th is))

-- all of the rules
pub advance_makes : (old new : World) (t k : ℕ) (b : CodeBody) → Goes old → ((th : Thread) × (slice_get old.threads.list.items t ≡ Some th) × (th.finished ≡ false) × (th.blocked ≡ false)) → 0 < k
    → ((s : Stacked) × (new.threads.list.items ≡ changed t (with_stack s) old.threads.list.items) × ((th : Thread) → slice_get old.threads.list.items t ≡ Some th → locals (funs_of b) Unmasked k (term_of b th.stack) ≡ Some (term_of b s)))
    → new.cells.cells ≡ old.cells.cells → new.threads.flight.list ≡ old.threads.flight.list → new.sleepers.list ≡ old.sleepers.list → SameCounts old new → MakesOf b (entry.Local t k) old new
advance_makes old new t k b goes free some moved cells flight sleepers counts =
    accept_makes old new t k b free.0 moved.0 goes free.1 free.2 free.3 some moved.1 ∣ moved.2 free.0 free.1 ∣₁ cells flight sleepers counts

-- or none
pub threads_stay : (old new : World) → new.threads.list.items ≡ old.threads.list.items → new.cells.cells ≡ old.cells.cells → new.threads.flight.list ≡ old.threads.flight.list → new.sleepers.list ≡ old.sleepers.list → SameCounts old new → SameState old new
threads_stay old new list cells flight sleepers counts b =
    same_state (state_of b new) (state_of b old) (ap (slots_of b) list) (ap slot_cells cells) flight sleepers counts.clock counts.instances counts.timeouts counts.printed

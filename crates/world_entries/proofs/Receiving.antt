-- A world after a thread has received an exception.
use Rattle.std.proofs.Common.{◌≡◌, ℕ, Bool, true, not, ◌&&◌, Some, sym, ap, ◌∙◌, subst, slice_get}
use Rattle.std.specs.declared.vec.Vec.{Vec}
use Rattle.std.specs.declared.alloc.Global.{Global}
use Rattle.hs_base.specs.declared.exn.Exn.{Exn}
use Rattle.hs_base.specs.declared.mask.Mask.TheVariants.{Unmasked}
use Rattle.hs_base.specs.declared.value.Value.TheVariants as value
use Rattle.hs_rules.specs.declared.entry.Entry.TheVariants as entry
use Rattle.hs_rules.specs.Entries.{is_open}
use Rattle.rules_waiting.specs.Waiting.{flying_to, first_thrown, withdrawn, still_asleep}
use Rattle.slot_laws.specs.SlotRules.{throw}
use Rattle.slot_states.specs.SlotStates.{resumed, left_lines, receives}
use Rattle.slot_states.proofs.Receiving.{receive_entered}
use Rattle.local_steps.specs.Frames.{mask_inside}
use Rattle.mvar_cell.specs.Mvars.{Mvars}
use Rattle.frame_stack.specs.declared.control.Control.{Control}
use Rattle.frame_stack.specs.declared.control.Control.TheVariants as c
use Rattle.frame_stack.specs.Parts.{IsThrow}
use Rattle.thread_table.specs.declared.thread.Thread.{Thread}
use Rattle.thread_table.specs.declared.kinds.EntryKind.TheVariants as kind
use Rattle.thread_table.specs.Kinds.{IsKind}
use Rattle.thread_table.specs.Listing.{is_throw}
use Rattle.thread_table.specs.Table.{slot_of, slots_of, changed, with_control, IsAt}
use Rattle.thread_table.proofs.Slots.{receptive_same}
use Rattle.thread_table.proofs.Table.{slots_is, slots_resumed, changed_other}
use Rattle.world_entries.specs.declared.world.World.{World}
use Rattle.world_entries.specs.Worlds.{state_of, slot_cells, IsLive, Makes, Goes, LeavesFrom, MayLeave, Left}
use Rattle.world_entries.proofs.Making.{main_goes}
use Rattle.world_entries.proofs.Entered.{same_state, SameCounts, made_from, slots_unit}
use Rattle.world_entries.proofs.Leaving.{apart_live, may_leave, leaves_from}

-- ---- who can receive
no_throw : (k : Control) (b : Bool) → not (is_throw k) && b ≡ true → IsThrow k → ⊥
no_throw (c.Throw e) b h i = cc h
no_throw (c.Doing i vs) b h j = j
no_throw (c.Ret v) b h i = i
no_throw (c.Op q) b h i = i

-- ---- the thread, once its thrower is answered
module _ (old mid : World) (live : IsLive old) (t u : ℕ) (e : Exn) (own : IsKind kind.Receive t old.threads) (thrown : first_thrown (flying_to t old.threads.flight.list) ≡ Some (u, e))
    (list : mid.threads.list.items ≡ changed u (with_control (c.Ret value.Unit)) old.threads.list.items) where
  still_there : slice_get mid.threads.list.items t ≡ Some own.thread
  still_there = ap (λ ths. slice_get ths t) list ∙ (changed_other old.threads.list.items u t (with_control (c.Ret value.Unit)) (λ q. apart_live old live t u e thrown (sym q)) ∙ own.is)

  -- it may leave where it waits
  pub left_requires : mid.cells ≡ old.cells → IsAt t (λ (th : Thread). MayLeave t th.blocked th.stack.control mid) mid.threads.list.items
  left_requires cells = record { thread = own.thread; is = still_there; holds = may_leave old mid live t own.thread own.is cells }

  -- and then throw
  pub throw_requires : (after : World) → after.threads.list ≡ mid.threads.list → IsAt t (λ (th : Thread). IsThrow th.stack.control → ⊥) after.threads.list.items
  throw_requires after same =
      subst (λ l. IsAt t (λ (th : Thread). IsThrow th.stack.control → ⊥) l.items) (sym same)
      (record { thread = own.thread; is = still_there; holds = no_throw own.thread.stack.control (is_open own.thread.blocked (mask_inside Unmasked own.thread.stack.frames)) own.receptive })

  -- what the entry makes
  pub receive_makes : (after new : World) → Goes old → mid.cells ≡ old.cells → mid.threads.flight.list ≡ withdrawn u old.threads.flight.list → mid.sleepers.list ≡ old.sleepers.list
      → ((th : Thread) → slice_get mid.threads.list.items t ≡ Some th → LeavesFrom t th.blocked th.stack.control mid → Left t mid after) → after.threads.list ≡ mid.threads.list
      → new.threads.list.items ≡ changed t (with_control (c.Throw e)) after.threads.list.items → new.cells.cells ≡ after.cells.cells → new.threads.flight.list ≡ after.threads.flight.list → new.sleepers.list ≡ after.sleepers.list
      → SameCounts old new → Makes (entry.Receive t) old new
  receive_makes after new goes cells flight sleepers left same threw cells' flight' sleepers' counts =
      made_from (entry.Receive t) old new (λ b accepted stands es s run r.
      let at = leaves_from old mid b es (record { accepted = accepted; code = stands; state = s; run = run; represents = r }) t u own.thread own.is cells flight sleepers in
      let gone = left own.thread still_there at in (
        receives t u e (state_of b old),
        same_state (state_of b new) (receives t u e (state_of b old))
            (ap (slots_of b) threw
            ∙ (slots_resumed b after.threads.list.items t (c.Throw e)
            ∙ (ap (λ (l : Vec Thread Global). resumed t (throw e) (slots_of b l.items)) same
            ∙ (ap (λ ths. resumed t (throw e) (slots_of b ths)) list ∙ ap (resumed t (throw e)) (slots_unit b old.threads.list.items u)))))
            (ap slot_cells cells' ∙ (gone.cells ∙ ap (λ (z : Mvars). left_lines t (slot_cells z.cells)) cells))
            (flight' ∙ (gone.flight ∙ ap (withdrawn t) flight))
            (sleepers' ∙ (gone.sleepers ∙ ap (still_asleep t) sleepers))
            counts.clock counts.instances counts.timeouts counts.printed,
        receive_entered b.of.value accepted (state_of b old) t u e (slot_of b own.thread) (slots_is b old.threads.list.items t own.thread own.is) own.unfinished (receptive_same b own.thread ∙ own.receptive) thrown (main_goes old goes b),
      ))

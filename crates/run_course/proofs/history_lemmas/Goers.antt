-- What a thread that is to do an action may do alone.
use Rattle.std.proofs.Common.{◌≡◌, ℕ, List, [], true, Some, slice_get}
use Rattle.std.proofs.Math.Logic.{∥∥₁_map}
use Rattle.hs_base.specs.declared.mask.Mask.{Mask}
use Rattle.hs_base.specs.declared.mask.Mask.TheVariants.{Unmasked}
use Rattle.rules_expansion.specs.trees.Programs.{script_of}
use Rattle.rules_meaning.specs.Values.{values_of}
use Rattle.rules_code.specs.declared.code.CodeBody.{CodeBody}
use Rattle.hs_rules.specs.declared.entry.Entry.{Entry}
use Rattle.hs_rules.specs.Terms.{Term}
use Rattle.hs_progress.specs.TypedStates.{Store, has}
use Rattle.slot_laws.specs.SlotRules.{SlotFrame, at}
use Rattle.slot_laws.specs.Standing.{Stands}
use Rattle.slot_laws.proofs.Heads.{action_goes}
use Rattle.slot_states.proofs.Reading.{named_of}
use Rattle.local_steps.specs.Frames.{mask_inside}
use Rattle.local_steps.specs.Machine.{act_of, frames_of}
use Rattle.frame_stack.specs.declared.control.Control.{Control}
use Rattle.frame_stack.specs.declared.control.Control.TheVariants as c
use Rattle.frame_stack.specs.Parts.{part_of}
use Rattle.frame_stack.specs.Slicing.{IsDoing, MayGo}
use Rattle.thread_table.specs.declared.thread.Thread.{Thread}
use Rattle.thread_table.specs.Listing.{is_doing, Goes}
use Rattle.thread_table.specs.Table.{slot_of}
use Rattle.thread_table.proofs.Table.{slots_is}
use Rattle.world_entries.specs.declared.world.World.{World}
use Rattle.world_entries.specs.Worlds.{state_of, Live}
use Rattle.run_course.specs.declared.history.record.Record.{Record}

pub doing_is : (x : Control) → is_doing x ≡ true → IsDoing x
doing_is (c.Doing i vs) d = tt
doing_is (c.Ret v) d = absurd (cc d)
doing_is (c.Throw e) d = absurd (cc d)
doing_is (c.Op p) d = absurd (cc d)

-- an action may be done alone wherever its term stands for a named one
alone : (b : CodeBody) (store : Store) (m : Mask) (x : Control) (below : List SlotFrame) (t : Term) → is_doing x ≡ true → Stands (has store) (script_of b.of.value) (at (part_of b x) below) t → MayGo b m (part_of b x) []
alone b store m (c.Doing i vs) below t d h = action_goes (Some store) (script_of b.of.value) m (act_of b i) (values_of vs) below t h
alone b store m (c.Ret v) below t d h = absurd (cc d)
alone b store m (c.Throw e) below t d h = absurd (cc d)
alone b store m (c.Op p) below t d h = absurd (cc d)

live_goes : (b : CodeBody) (es : List Entry) (w : World) (t : ℕ) (th : Thread) (m : Mask) → slice_get w.threads.list.items t ≡ Some th → is_doing th.stack.control ≡ true → Live b es w → MayGo b m (part_of b th.stack.control) []
live_goes b es w t th m is d live =
    let n = named_of (script_of b.of.value) (state_of b w) live.state live.represents t (slot_of b th) (slots_is b w.threads.list.items t th is) in
    let store : Store = live.represents.stacks.store in
    alone b store m th.stack.control (frames_of b th.stack.frames) n.thread.term d (record { sort = store.sorts t; part = n.stands.0; frames = n.stands.1 })

pub may_go : (r : Record) (t : ℕ) (th : Thread) → slice_get r.world.threads.list.items t ≡ Some th → Goes th → ∥ MayGo r.of.value (mask_inside Unmasked th.stack.frames) (part_of r.of.value th.stack.control) [] ∥₁
may_go r t th is g = ∥∥₁_map r.after (live_goes r.of.value r.history.list r.world t th (mask_inside Unmasked th.stack.frames) is g.2)

use Rattle.std.proofs.Common.{◌≡◌, sym, ap, ◌∙◌, subst, Some, arith}
use Rattle.hs_base.specs.declared.mask.Mask.TheVariants.{Unmasked}
use Rattle.slot_laws.specs.SlotRules.{local}
use Rattle.local_steps.specs.Machine.{funs_of, frames_of}
use Rattle.frame_stack.specs.Parts.{part_of, term_of}
use Rattle.thread_table.specs.declared.thread.Thread.{Thread}
use Rattle.thread_table.specs.Table.{with_stack, counted_frames}
use Rattle.thread_table.specs.Listing.{goes_at, is_queued, waits_open, is_listed, counted_going}
use Rattle.thread_table.proofs.Table.{lent_is, written_through}
use Rattle.thread_table.proofs.Queues.{wanted_in, has_pushed, not_waiting, flagged_not, flagged_joined}
use Rattle.thread_table.proofs.Counts.{count_swapped, count_more, count_part, still_control, meets_still, going_fits}
use Rattle.thread_table.proofs.threads.Threads.pop.Goals as goal

pub overflow_sub-self : goal.overflow_sub-self
overflow_sub-self c =
    let here = c.requires.there in
    let lent = lent_is c.args.self.now.list.items c.args.t here.thread c.index_mut-thread.result.now here.is c.index_mut-thread.ensures.value in
    count_part counted_frames c.args.self.now.list.items c.args.t here.thread c.args.self.now.frames c.counted_frames-had.result here.is (c.counted_frames-had.ensures.value ∙ ap counted_frames lent) c.args.self.now.framed

pub overflow_add-self-2 : goal.overflow_add-self-2
overflow_add-self-2 c =
    let v = c.args.self.now.list in
    let fits = going_fits v.items c.args.self.now.going v.len v.cap c.counted_going-going.result (record c.index_mut-thread.result.now { stack = c.pop_step.new.self }) c.args.self.now.gone v.ok v.small c.counted_going-going.ensures in
    omega (arith, fits)

pub invariant_of-self : goal.invariant_of-self
invariant_of-self c =
    let here = c.requires.there in
    let lent = lent_is c.args.self.now.list.items c.args.t here.thread c.index_mut-thread.result.now here.is c.index_mut-thread.ensures.value in
    let y : Thread = c.queue.new.thread in
    let said = c.queue.ensures.says in
    record {
      listed = has_pushed (wanted_in c.args.self.now.flight.list) _ _ _ c.args.t here.thread y here.is c.push_back_reserved.ensures.items c.args.self.now.listed;
      queued = flagged_joined goes_at is_queued _ _ _ c.args.t here.thread y c.index_mut-thread.result.now.queued here.is (sym (ap (λ (x : Thread). x.queued) lent)) (ap (λ (x : Thread). x.queued) said) c.queue.ensures.list c.args.self.now.queued;
      kept = flagged_not waits_open is_listed _ _ c.args.t here.thread y here.is (not_waiting y (ap (λ (x : Thread). x.blocked) said ∙ ap (λ (x : Thread). x.blocked) lent ∙ here.holds.1)) (ap (λ (x : Thread). x.listed) said ∙ ap (λ (x : Thread). x.listed) lent) c.args.self.now.kept;
      framed = count_swapped counted_frames c.args.self.now.list.items c.args.t here.thread y c.args.self.now.frames c.counted_frames-had.result c.counted_frames-has.result here.is (c.counted_frames-had.ensures.value ∙ ap counted_frames lent) (c.counted_frames-has.ensures.value ∙ sym (ap counted_frames said)) c.args.self.now.framed;
      gone = count_more counted_going c.args.self.now.list.items c.args.t here.thread y c.args.self.now.going c.counted_going-going.result here.is (still_control here.thread (meets_still here.thread.stack.control here.thread.stack.frames here.holds.0)) (c.counted_going-going.ensures ∙ sym (ap counted_going said)) c.args.self.now.gone;
    }

pub returns-clause-list : goal.returns-clause-list
returns-clause-list c = (
  c.pop_step.new.self,
  written_through _ _ (with_stack c.pop_step.new.self) c.requires.there.thread c.index_mut-thread.result.now _ c.requires.there.is c.index_mut-thread.ensures.value c.queue.ensures.says,
  λ th h b. subst (λ (x : Thread). local (funs_of b) Unmasked (part_of b x.stack.control) (frames_of b x.stack.frames) ≡ Some (term_of b c.pop_step.new.self)) (lent_is c.args.self.now.list.items c.args.t th c.index_mut-thread.result.now h c.index_mut-thread.ensures.value) (c.pop_step.ensures b),
)

use Rattle.std.proofs.Common.{refl, ap, false, sym, ◌∙◌, cond, length}
use Rattle.frame_stack.specs.declared.control.Control.TheVariants as control
use Rattle.frame_stack.specs.Parts.{Stacked}
use Rattle.thread_table.specs.declared.thread.Thread.{Thread}
use Rattle.thread_table.specs.Listing.{is_doing, goes_at, is_queued, waits_open, is_listed, counted_going}
use Rattle.thread_table.specs.Table.{with_control, counted_frames}
use Rattle.thread_table.proofs.Table.{lent_is, written_through}
use Rattle.thread_table.proofs.Queues.{wanted_in, has_pushed, not_waiting, flagged_not}
use Rattle.thread_table.proofs.Counts.{count_same, not_doing, still_control, op_still}
use Rattle.thread_table.proofs.threads.Threads.answer.Goals as goal

pub invariant_of-self : goal.invariant_of-self
invariant_of-self c =
    let here = c.requires.there in
    let x = c.index_mut-thread.result.now in
    let lent = lent_is c.args.self.now.list.items c.args.t here.thread x here.is c.index_mut-thread.ensures.value in
    let y : Thread = record x { stack = c.answer.new.self; blocked = false } in
    record {
      listed = has_pushed (wanted_in c.args.self.now.flight.list) _ _ _ c.args.t here.thread y here.is c.push_back_reserved.ensures.items c.args.self.now.listed;
      queued = flagged_not goes_at is_queued _ _ c.args.t here.thread y here.is (not_doing y (ap (λ (s : Stacked). is_doing s.control) c.answer.ensures)) (ap (λ (x : Thread). x.queued) lent) c.args.self.now.queued;
      kept = flagged_not waits_open is_listed _ _ c.args.t here.thread y here.is (not_waiting y refl) (ap (λ (x : Thread). x.listed) lent) c.args.self.now.kept;
      framed = count_same counted_frames c.args.self.now.list.items c.args.t here.thread y c.args.self.now.frames here.is (ap (λ (s : Stacked). cond x.finished 0 (length s.frames)) c.answer.ensures ∙ ap counted_frames lent) c.args.self.now.framed;
      gone = count_same counted_going c.args.self.now.list.items c.args.t here.thread y c.args.self.now.going here.is (still_control y (ap (λ (s : Stacked). is_doing s.control) c.answer.ensures) ∙ sym (still_control here.thread (op_still here.thread.stack.control here.holds))) c.args.self.now.gone;
    }

pub returns-clause-list : goal.returns-clause-list
returns-clause-list c =
    let here = c.requires.there in
    written_through _ _ (with_control (control.Ret c.args.v)) here.thread c.index_mut-thread.result.now _ here.is c.index_mut-thread.ensures.value (ap (λ (s : Stacked). record c.index_mut-thread.result.now { stack = s; blocked = false }) c.answer.ensures)

use Rattle.std.proofs.Common.{refl, ap, ◌∙◌, true}
use Rattle.thread_table.specs.declared.thread.Thread.{Thread}
use Rattle.thread_table.specs.Table.{finishing, counted_frames}
use Rattle.thread_table.specs.Listing.{goes_at, is_queued, waits_open, is_listed, counted_going}
use Rattle.thread_table.proofs.Table.{lent_is, written_through}
use Rattle.thread_table.proofs.Queues.{wanted_in, has_not, not_waiting, flagged_not}
use Rattle.thread_table.proofs.Counts.{count_less, count_part}
use Rattle.thread_table.proofs.threads.Threads.finish.Goals as goal

pub overflow_sub-self : goal.overflow_sub-self
overflow_sub-self c =
    let here = c.requires.there in
    let lent = lent_is c.args.self.now.list.items c.args.t here.thread c.index_mut-thread.result.now here.is c.index_mut-thread.ensures.value in
    count_part counted_frames c.args.self.now.list.items c.args.t here.thread c.args.self.now.frames c.counted_frames-frames.result here.is (c.counted_frames-frames.ensures.value ∙ ap counted_frames lent) c.args.self.now.framed

pub overflow_sub-self-2 : goal.overflow_sub-self-2
overflow_sub-self-2 c =
    let here = c.requires.there in
    let lent = lent_is c.args.self.now.list.items c.args.t here.thread c.index_mut-thread.result.now here.is c.index_mut-thread.ensures.value in
    count_part counted_going c.args.self.now.list.items c.args.t here.thread c.args.self.now.going c.counted_going-going.result here.is (c.counted_going-going.ensures ∙ ap counted_going lent) c.args.self.now.gone

pub invariant_of-self : goal.invariant_of-self
invariant_of-self c =
    let here = c.requires.there in
    let lent = lent_is c.args.self.now.list.items c.args.t here.thread c.index_mut-thread.result.now here.is c.index_mut-thread.ensures.value in
    let y : Thread = record c.index_mut-thread.result.now { finished = true } in
    record {
      listed = has_not (wanted_in c.args.self.now.flight.list) _ _ c.args.t here.thread y here.is refl c.args.self.now.listed;
      queued = flagged_not goes_at is_queued _ _ c.args.t here.thread y here.is refl (ap (λ (x : Thread). x.queued) lent) c.args.self.now.queued;
      kept = flagged_not waits_open is_listed _ _ c.args.t here.thread y here.is (not_waiting y (ap (λ (x : Thread). x.blocked) lent ∙ here.holds)) (ap (λ (x : Thread). x.listed) lent) c.args.self.now.kept;
      framed = count_less counted_frames c.args.self.now.list.items c.args.t here.thread y c.args.self.now.frames c.counted_frames-frames.result here.is (c.counted_frames-frames.ensures.value ∙ ap counted_frames lent) refl c.args.self.now.framed;
      gone = count_less counted_going c.args.self.now.list.items c.args.t here.thread y c.args.self.now.going c.counted_going-going.result here.is (c.counted_going-going.ensures ∙ ap counted_going lent) refl c.args.self.now.gone;
    }

pub returns-clause-list : goal.returns-clause-list
returns-clause-list c = written_through _ _ finishing c.requires.there.thread c.index_mut-thread.result.now _ c.requires.there.is c.index_mut-thread.ensures.value refl

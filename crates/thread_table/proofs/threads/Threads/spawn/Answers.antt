use Rattle.std.proofs.Common.{refl, ◌∙◌, subst, sym, arith, ◌≡◌, ◌+◌}
use Rattle.thread_table.specs.Table.{new_thread, counted_frames, frames_over}
use Rattle.thread_table.specs.Listing.{Listed, goes_at, is_queued, Queued, waits_open, is_listed, Kept, counted_going, going_over}
use Rattle.thread_table.proofs.Queues.{wanted_in, has_new, flagged_new, flagged_more}
use Rattle.thread_table.proofs.Counts.{count_new, going_fits}
use Rattle.thread_table.proofs.threads.Threads.spawn.Goals as goal

pub overflow_add-self-2 : goal.overflow_add-self-2
overflow_add-self-2 c =
    let v = c.args.self.now.list in
    let fits = going_fits v.items c.args.self.now.going v.len v.cap c.counted_going-going.result (new_thread c.args.stack) c.args.self.now.gone v.ok v.small c.counted_going-going.ensures in
    omega (arith, fits)

pub invariant_of-self : goal.invariant_of-self
invariant_of-self c =
    let s = c.args.self.now in
    let number = c.len-t.ensures ∙ s.list.ok.0 in
    let more = sym c.push_reserved.ensures.items in
    record {
      listed = subst (λ l. Listed l s.flight.list c.push_back_reserved.new.self.items) more (has_new (wanted_in s.flight.list) _ _ _ _ (new_thread c.args.stack) number c.push_back_reserved.ensures.items s.listed);
      queued = subst (λ l. Queued l c.push_back_reserved-2.new.self.items) more (flagged_more goes_at is_queued _ _ _ _ (new_thread c.args.stack) number refl c.push_back_reserved-2.ensures.items s.queued);
      kept = subst (λ l. Kept l s.stuck.items) more (flagged_new waits_open is_listed _ _ (new_thread c.args.stack) refl refl s.kept);
      framed = subst (λ l. s.frames + c.counted_frames-frames.result ≡ frames_over l) more (count_new counted_frames s.list.items (new_thread c.args.stack) s.frames c.counted_frames-frames.result c.counted_frames-frames.ensures.value s.framed);
      gone = subst (λ l. s.going + c.counted_going-going.result ≡ going_over l) more (count_new counted_going s.list.items (new_thread c.args.stack) s.going c.counted_going-going.result c.counted_going-going.ensures s.gone);
    }

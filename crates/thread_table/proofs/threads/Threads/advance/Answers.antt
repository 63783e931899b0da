use Rattle.std.proofs.Common.{◌≡◌, sym, ap, ◌∙◌, subst, Some, None, slice_set, arith}
use Rattle.std.proofs.lemmas.List.{set-get_or}
use Rattle.hs_base.specs.declared.mask.Mask.TheVariants.{Unmasked}
use Rattle.rules_code.specs.Codes.{body_of}
use Rattle.slot_laws.specs.SlotRules.{locals}
use Rattle.local_steps.specs.Machine.{funs_of}
use Rattle.frame_stack.specs.Parts.{term_of}
use Rattle.frame_stack.specs.Advancing.{MayAdvance}
use Rattle.thread_table.specs.declared.thread.Thread.{Thread}
use Rattle.thread_table.specs.Table.{with_stack, counted_frames}
use Rattle.thread_table.specs.Listing.{goes_at, is_queued, waits_open, is_listed, counted_going}
use Rattle.thread_table.proofs.Table.{lent_is, written_through}
use Rattle.thread_table.proofs.Queues.{wanted_in, has_pushed, not_waiting, flagged_not, flagged_joined}
use Rattle.thread_table.proofs.Counts.{count_swapped, count_part, going_fits}
use Rattle.thread_table.proofs.threads.Threads.advance.Goals as goal

pub advance-requires : goal.advance-requires
advance-requires c =
    let here = c.requires.there in
    let lent = lent_is c.args.self.now.list.items c.args.t here.thread c.index_mut-thread.result.now here.is c.index_mut-thread.ensures.value in
    record { stands = subst (λ (x : Thread). MayAdvance (body_of c.args.code.now) x.stack) (sym lent) here.holds.1 }

pub returns-then-not-branch-clause-stuck : goal.returns-then-not-branch-clause-stuck
returns-then-not-branch-clause-stuck c =
    let b = body_of c.args.code.now in
    let ths = c.args.self.now.list.items in
    let x = c.index_mut-thread.result.now in
    let stuck = c.in_ok-advance.ensures.stuck c.if-not-branch.true in
    λ e. (
      ap (slice_set ths c.args.t) (ap (λ s. record x { stack = s }) stuck.1 ∙ c.index_mut-thread.ensures.value) ∙ set-get_or ths c.args.t x,
      λ th h. subst (λ (y : Thread). locals (funs_of b) Unmasked c.args.k (term_of b y.stack) ≡ None) (lent_is ths c.args.t th x h c.index_mut-thread.ensures.value) stuck.0,
    )

pub overflow_sub-self : goal.overflow_sub-self
overflow_sub-self c =
    let here = c.requires.there in
    let lent = lent_is c.args.self.now.list.items c.args.t here.thread c.index_mut-thread.result.now here.is c.index_mut-thread.ensures.value in
    count_part counted_frames c.args.self.now.list.items c.args.t here.thread c.args.self.now.frames c.counted_frames-had.result here.is (c.counted_frames-had.ensures.value ∙ ap counted_frames lent) c.args.self.now.framed

pub overflow_sub-self-2 : goal.overflow_sub-self-2
overflow_sub-self-2 c =
    let here = c.requires.there in
    let lent = lent_is c.args.self.now.list.items c.args.t here.thread c.index_mut-thread.result.now here.is c.index_mut-thread.ensures.value in
    count_part counted_going c.args.self.now.list.items c.args.t here.thread c.args.self.now.going c.counted_going-went.result here.is (c.counted_going-went.ensures ∙ ap counted_going lent) c.args.self.now.gone

pub overflow_add-self-2 : goal.overflow_add-self-2
overflow_add-self-2 c =
    let v = c.args.self.now.list in
    let fits = going_fits v.items c.args.self.now.going v.len v.cap c.counted_going-goes.result (record c.index_mut-thread.result.now { stack = c.advance.new.self }) c.args.self.now.gone v.ok v.small c.counted_going-goes.ensures in
    omega (arith, fits)

pub invariant_of-self-2 : goal.invariant_of-self-2
invariant_of-self-2 c =
    let here = c.requires.there in
    let lent = lent_is c.args.self.now.list.items c.args.t here.thread c.index_mut-thread.result.now here.is c.index_mut-thread.ensures.value in
    let y : Thread = c.queue.new.thread in
    let said = c.queue.ensures.says in
    record {
      listed = has_pushed (wanted_in c.args.self.now.flight.list) _ _ _ c.args.t here.thread y here.is c.push_back_reserved.ensures.items c.args.self.now.listed;
      queued = flagged_joined goes_at is_queued _ _ _ c.args.t here.thread y c.index_mut-thread.result.now.queued here.is (sym (ap (λ (x : Thread). x.queued) lent)) (ap (λ (x : Thread). x.queued) said) c.queue.ensures.list c.args.self.now.queued;
      kept = flagged_not waits_open is_listed _ _ c.args.t here.thread y here.is (not_waiting y (ap (λ (x : Thread). x.blocked) said ∙ ap (λ (x : Thread). x.blocked) lent ∙ here.holds.0)) (ap (λ (x : Thread). x.listed) said ∙ ap (λ (x : Thread). x.listed) lent) c.args.self.now.kept;
      framed = count_swapped counted_frames c.args.self.now.list.items c.args.t here.thread y c.args.self.now.frames c.counted_frames-had.result c.counted_frames-has.result here.is (c.counted_frames-had.ensures.value ∙ ap counted_frames lent) (c.counted_frames-has.ensures.value ∙ sym (ap counted_frames said)) c.args.self.now.framed;
      gone = count_swapped counted_going c.args.self.now.list.items c.args.t here.thread y c.args.self.now.going c.counted_going-went.result c.counted_going-goes.result here.is (c.counted_going-went.ensures ∙ ap counted_going lent) (c.counted_going-goes.ensures ∙ sym (ap counted_going said)) c.args.self.now.gone;
    }

pub returns-clause-moved : goal.returns-clause-moved
returns-clause-moved c =
    let b = body_of c.args.code.now in
    let ths = c.args.self.now.list.items in
    let x = c.index_mut-thread.result.now in
    let k = c.advance.new.self in
    λ yes. (
      k,
      written_through _ _ (with_stack k) c.requires.there.thread x _ c.requires.there.is c.index_mut-thread.ensures.value c.queue.ensures.says,
      λ th h. subst (λ (y : Thread). locals (funs_of b) Unmasked c.args.k (term_of b y.stack) ≡ Some (term_of b k)) (lent_is ths c.args.t th x h c.index_mut-thread.ensures.value) (c.in_ok-advance.ensures.moves c.if-not-branch.false),
    )

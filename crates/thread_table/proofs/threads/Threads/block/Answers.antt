use Rattle.std.proofs.Common.{refl, sym, ap, ◌∙◌, Bool, true, slice_set}
use Rattle.hs_laws.proofs.Lists.{item_same}
use Rattle.thread_table.specs.declared.thread.Thread.{Thread}
use Rattle.thread_table.specs.Table.{with_listed, counted_frames}
use Rattle.thread_table.specs.Listing.{goes_at, is_queued, waits_open, is_listed, counted_going}
use Rattle.thread_table.proofs.Table.{lent_is, written_through, set_twice}
use Rattle.thread_table.proofs.Queues.{wanted_in, has_pushed, has_twice, flagged_when, flagged_not, flagged_pushed, flagged_twice, strands}
use Rattle.thread_table.proofs.Counts.{count_same, count_twice, not_free, still_control, still_blocked, op_still}
use Rattle.thread_table.proofs.threads.Threads.block.Goals.{else-may_strand-via-then-may_strand+else-not-index, else-may_strand-via-else-may_strand}
use Rattle.thread_table.proofs.threads.Threads.block.Goals as goal

pub invariant_of-self : goal.invariant_of-self
invariant_of-self c =
    let s = c.args.self.now in
    let here = c.requires.there in
    let x = c.index_mut-thread.result.now in
    let lent = lent_is s.list.items c.args.t here.thread x here.is c.index_mut-thread.ensures.value in
    let y : Thread = record x { blocked = true } in
    let again = lent_is (slice_set s.list.items c.args.t y) c.args.t y c.index_mut.result.now (item_same s.list.items c.args.t here.thread y here.is) c.index_mut.ensures.value in
    let z : Thread = record c.index_mut.result.now { listed = true } in
    record {
      listed = has_twice (wanted_in s.flight.list) s.list.items _ c.args.t y z (has_pushed (wanted_in s.flight.list) _ _ _ c.args.t here.thread z here.is c.push_back_reserved.ensures.items s.listed);
      queued = flagged_twice goes_at is_queued s.list.items _ c.args.t y z (flagged_not goes_at is_queued _ _ c.args.t here.thread z here.is (not_free z (ap (λ (th : Thread). th.blocked) again)) (ap (λ (th : Thread). th.queued) again ∙ ap (λ (th : Thread). th.queued) lent) s.queued);
      kept = flagged_twice waits_open is_listed s.list.items _ c.args.t y z (flagged_pushed waits_open is_listed _ _ _ c.args.t here.thread z here.is refl c.push_back_reserved-then-not-index.ensures.items s.kept);
      framed = count_twice counted_frames s.list.items c.args.t y z s.frames (count_same counted_frames s.list.items c.args.t here.thread z s.frames here.is (ap counted_frames again ∙ ap counted_frames lent) s.framed);
      gone = count_twice counted_going s.list.items c.args.t y z s.going (count_same counted_going s.list.items c.args.t here.thread z s.going here.is (still_blocked z (ap (λ (th : Thread). th.blocked) again) ∙ sym (still_control here.thread (op_still here.thread.stack.control here.holds))) s.gone);
    }

pub invariant_of-self-else-not-index : goal.invariant_of-self-else-not-index
invariant_of-self-else-not-index c =
    let s = c.args.self.now in
    let here = c.requires.there in
    let x = c.index_mut-thread.result.now in
    let lent = lent_is s.list.items c.args.t here.thread x here.is c.index_mut-thread.ensures.value in
    let y : Thread = record x { blocked = true } in
    let again = lent_is (slice_set s.list.items c.args.t y) c.args.t y c.index-then-may_strand.result.now (item_same s.list.items c.args.t here.thread y here.is) c.index-then-may_strand.ensures in
    let said = sym (ap (λ (th : Thread). th.listed) again) ∙ c.if-not-index.false in
    record {
      listed = has_pushed (wanted_in s.flight.list) _ _ _ c.args.t here.thread y here.is c.push_back_reserved.ensures.items s.listed;
      queued = flagged_not goes_at is_queued _ _ c.args.t here.thread y here.is (not_free y refl) (ap (λ (th : Thread). th.queued) lent) s.queued;
      kept = flagged_when waits_open is_listed _ _ c.args.t here.thread y here.is (λ h. said) (λ h. sym (ap (λ (th : Thread). th.listed) lent) ∙ h) s.kept;
      framed = count_same counted_frames s.list.items c.args.t here.thread y s.frames here.is (ap counted_frames lent) s.framed;
      gone = count_same counted_going s.list.items c.args.t here.thread y s.going here.is (still_blocked y refl ∙ sym (still_control here.thread (op_still here.thread.stack.control here.holds))) s.gone;
    }

pub invariant_of-self-else-may_strand : goal.invariant_of-self-else-may_strand
invariant_of-self-else-may_strand c =
    let s = c.args.self.now in
    let here = c.requires.there in
    let x = c.index_mut-thread.result.now in
    let lent = lent_is s.list.items c.args.t here.thread x here.is c.index_mut-thread.ensures.value in
    let y : Thread = record x { blocked = true } in
    let again = lent_is (slice_set s.list.items c.args.t y) c.args.t y c.index.result.now (item_same s.list.items c.args.t here.thread y here.is) c.index.ensures in
    let not_open = sym (ap strands again) ∙ (sym c.may_strand.ensures ∙ c.if-may_strand.false) in
    record {
      listed = has_pushed (wanted_in s.flight.list) _ _ _ c.args.t here.thread y here.is c.push_back_reserved.ensures.items s.listed;
      queued = flagged_not goes_at is_queued _ _ c.args.t here.thread y here.is (not_free y refl) (ap (λ (th : Thread). th.queued) lent) s.queued;
      kept = flagged_not waits_open is_listed _ _ c.args.t here.thread y here.is not_open (ap (λ (th : Thread). th.listed) lent) s.kept;
      framed = count_same counted_frames s.list.items c.args.t here.thread y s.frames here.is (ap counted_frames lent) s.framed;
      gone = count_same counted_going s.list.items c.args.t here.thread y s.going here.is (still_blocked y refl ∙ sym (still_control here.thread (op_still here.thread.stack.control here.holds))) s.gone;
    }

pub returns-then-not-index-clause-list : goal.returns-then-not-index-clause-list
returns-then-not-index-clause-list c =
    let s = c.args.self.now in
    let here = c.requires.there in
    let x = c.index_mut-thread.result.now in
    let lent = lent_is s.list.items c.args.t here.thread x here.is c.index_mut-thread.ensures.value in
    let y : Thread = record x { blocked = true } in
    let again = lent_is (slice_set s.list.items c.args.t y) c.args.t y c.index_mut.result.now (item_same s.list.items c.args.t here.thread y here.is) c.index_mut.ensures.value in
    let z : Thread = record c.index_mut.result.now { listed = true } in (
      true,
      set_twice s.list.items c.args.t y z
          ∙ written_through s.list.items c.args.t (λ th. record th { blocked = true; listed = true }) here.thread x z here.is c.index_mut-thread.ensures.value (ap (with_listed true) again),
    )

pub returns-else-may_strand-clause-list : goal.returns-else-may_strand-clause-list
returns-else-may_strand-clause-list c =
    let s = c.args.self.now in
    let here = c.requires.there in
    let x = c.index_mut-thread.result.now in
    let lent = lent_is s.list.items c.args.t here.thread x here.is c.index_mut-thread.ensures.value in
    let y : Thread = record x { blocked = true } in
    let l = here.thread.listed in
    let done = written_through s.list.items c.args.t (λ th. record th { blocked = true; listed = l }) here.thread x y here.is c.index_mut-thread.ensures.value (ap (λ (b : Bool). record x { blocked = true; listed = b }) (ap (λ (th : Thread). th.listed) lent)) in (
      l,
      elim c.else-may_strand.branch [
        | else-may_strand-via-then-may_strand+else-not-index w ↦ ap (λ k. k.list.items) w.self-is ∙ done
        | else-may_strand-via-else-may_strand w ↦ ap (λ k. k.list.items) w.self-is ∙ done
      ],
    )

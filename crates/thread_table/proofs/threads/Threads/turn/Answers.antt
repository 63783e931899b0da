use Rattle.std.proofs.Common.{◌≡◌, ◌<◌, ◌≤◌, refl, sym, ap, ◌∙◌, subst, Some, true, false}
use Rattle.std.proofs.lemmas.Option.{slice_get_past}
use Rattle.hs_laws.proofs.Lists.{some_item}
use Rattle.thread_table.specs.declared.thread.Thread.{Thread}
use Rattle.thread_table.specs.Listing.{wanted, goes, goes_at, is_queued, Queued, waits_open, is_listed, counted_going}
use Rattle.thread_table.specs.Table.{with_queued, unqueued, counted_frames}
use Rattle.thread_table.proofs.Table.{lent_is, written_through, unqueued_same}
use Rattle.thread_table.proofs.Queues.{wanted_in, has_still, flagged_same, flagged_turned, flagged_taken, flagged_gone}
use Rattle.thread_table.proofs.Counts.{count_same}
use Rattle.thread_table.proofs.threads.Threads.turn.Goals as goal

pub invariant_of-self-then-goes_at : goal.invariant_of-self-then-goes_at
invariant_of-self-then-goes_at c =
    let s = c.args.self.now in
    record {
      listed = s.listed;
      queued = flagged_turned goes_at is_queued _ _ _ c.in_ok-t.t c.push_back_reserved.ensures.items (subst (λ ready. Queued s.list.items ready) c.in_ok-t.ensures.items s.queued);
      kept = s.kept;
      framed = s.framed;
      gone = s.gone;
    }

pub invariant_of-self-then-t-len : goal.invariant_of-self-then-t-len
invariant_of-self-then-t-len c =
    let s = c.args.self.now in
    let w = some_item s.list.items c.in_ok-t.t (subst (λ n. c.in_ok-t.t < n) (c.len.ensures ∙ s.list.ok.0) c.if-t-len.true) in
    let lent = lent_is s.list.items c.in_ok-t.t w.0 c.index_mut.result.now w.1 c.index_mut.ensures.value in
    let stays = ap goes lent ∙ (sym (ap goes_at w.1) ∙ (sym c.goes_at.ensures ∙ c.if-goes_at.false)) in
    let y : Thread = record c.index_mut.result.now { queued = false } in
    record {
      listed = has_still (wanted_in s.flight.list) _ _ c.in_ok-t.t w.0 y w.1 (λ h. subst (λ (x : Thread). wanted c.in_ok-t.t (Some x) s.flight.list ≡ true) lent h) s.listed;
      queued = flagged_taken goes_at is_queued _ _ c.in_ok-t.t w.0 y w.1 stays refl (subst (λ ready. Queued s.list.items ready) c.in_ok-t.ensures.items s.queued);
      kept = flagged_same waits_open is_listed _ _ c.in_ok-t.t w.0 y w.1 (ap (λ (x : Thread). waits_open (Some x)) lent) (ap (λ (x : Thread). x.listed) lent) s.kept;
      framed = count_same counted_frames s.list.items c.in_ok-t.t w.0 y s.frames w.1 (ap counted_frames lent) s.framed;
      gone = count_same counted_going s.list.items c.in_ok-t.t w.0 y s.going w.1 (ap counted_going lent) s.gone;
    }

pub invariant_of-self-else-t-len : goal.invariant_of-self-else-t-len
invariant_of-self-else-t-len c =
    let s = c.args.self.now in
    let none = slice_get_past s.list.items c.in_ok-t.t (subst (λ n. n ≤ c.in_ok-t.t) (c.len.ensures ∙ s.list.ok.0) c.if-t-len.false) in
    record {
      listed = s.listed;
      queued = flagged_gone goes_at is_queued _ _ c.in_ok-t.t (ap is_queued none) (subst (λ ready. Queued s.list.items ready) c.in_ok-t.ensures.items s.queued);
      kept = s.kept;
      framed = s.framed;
      gone = s.gone;
    }

pub returns-then-t-len-clause-others : goal.returns-then-t-len-clause-others
returns-then-t-len-clause-others c =
    let s = c.args.self.now in
    let w = some_item s.list.items c.in_ok-t.t (subst (λ n. c.in_ok-t.t < n) (c.len.ensures ∙ s.list.ok.0) c.if-t-len.true) in
    ap unqueued (written_through _ _ (with_queued false) w.0 c.index_mut.result.now _ w.1 c.index_mut.ensures.value refl) ∙ unqueued_same s.list.items c.in_ok-t.t false

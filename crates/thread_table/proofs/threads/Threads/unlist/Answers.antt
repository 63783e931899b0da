use Rattle.std.proofs.Common.{◌≡◌, ◌<◌, ◌≤◌, refl, sym, ap, ◌∙◌, subst, Some, true, false}
use Rattle.std.proofs.lemmas.Option.{slice_get_past}
use Rattle.hs_laws.proofs.Lists.{some_item}
use Rattle.thread_table.specs.declared.thread.Thread.{Thread}
use Rattle.thread_table.specs.Listing.{wanted, goes, goes_at, is_queued, waits_open, is_listed, Kept, counted_going}
use Rattle.thread_table.specs.Table.{with_listed, counted_frames}
use Rattle.thread_table.proofs.Table.{lent_is, written_through}
use Rattle.thread_table.proofs.Queues.{wanted_in, has_still, rest_of, flagged_same, flagged_taken, flagged_gone}
use Rattle.thread_table.proofs.Counts.{count_same}
use Rattle.thread_table.proofs.threads.Threads.unlist.Goals as goal

pub invariant_of-self : goal.invariant_of-self
invariant_of-self c =
    let s = c.args.self.now in
    let w = some_item s.list.items c.args.t (subst (λ n. c.args.t < n) (c.len.ensures ∙ s.list.ok.0) c.if-t-len.true) in
    let lent = lent_is s.list.items c.args.t w.0 c.index_mut.result.now w.1 c.index_mut.ensures.value in
    let rest = rest_of _ _ c.requires.first.0 c.args.t c.requires.first.1 c.pop_front.ensures.rest in
    let y : Thread = record c.index_mut.result.now { listed = false } in
    record {
      listed = has_still (wanted_in s.flight.list) _ _ c.args.t w.0 y w.1 (λ h. subst (λ (x : Thread). wanted c.args.t (Some x) s.flight.list ≡ true) lent h) s.listed;
      queued = flagged_same goes_at is_queued _ _ c.args.t w.0 y w.1 (ap goes lent) (ap (λ (x : Thread). x.queued) lent) s.queued;
      kept = flagged_taken waits_open is_listed _ _ c.args.t w.0 y w.1 (ap (λ (x : Thread). waits_open (Some x)) lent ∙ (sym (ap waits_open w.1) ∙ c.requires.not)) refl (subst (λ stuck. Kept s.list.items stuck) rest s.kept);
      framed = count_same counted_frames s.list.items c.args.t w.0 y s.frames w.1 (ap counted_frames lent) s.framed;
      gone = count_same counted_going s.list.items c.args.t w.0 y s.going w.1 (ap counted_going lent) s.gone;
    }

pub invariant_of-self-else-t-len : goal.invariant_of-self-else-t-len
invariant_of-self-else-t-len c =
    let s = c.args.self.now in
    let none = slice_get_past s.list.items c.args.t (subst (λ n. n ≤ c.args.t) (c.len.ensures ∙ s.list.ok.0) c.if-t-len.false) in
    let rest = rest_of _ _ c.requires.first.0 c.args.t c.requires.first.1 c.pop_front.ensures.rest in
    record { listed = s.listed; queued = s.queued; kept = flagged_gone waits_open is_listed _ _ c.args.t (ap is_listed none) (subst (λ stuck. Kept s.list.items stuck) rest s.kept); framed = s.framed; gone = s.gone }

pub returns-then-t-len-clause-list : goal.returns-then-t-len-clause-list
returns-then-t-len-clause-list c =
    let s = c.args.self.now in
    let w = some_item s.list.items c.args.t (subst (λ n. c.args.t < n) (c.len.ensures ∙ s.list.ok.0) c.if-t-len.true) in
    written_through _ _ (with_listed false) w.0 c.index_mut.result.now _ w.1 c.index_mut.ensures.value refl

use Rattle.std.proofs.Common.{◌<◌, refl, sym, ap, ◌∙◌, subst, false, slice_get, cond, length}
use Rattle.std.proofs.lemmas.Bool.{false_from_ne_true}
use Rattle.hs_base.specs.declared.exn.Exn.TheVariants.{BlockedIndefinitely}
use Rattle.hs_laws.proofs.Lists.{item_below}
use Rattle.slot_laws.specs.SlotRules.{throw}
use Rattle.slot_states.specs.SlotStates.{resumed, resumed_by}
use Rattle.frame_stack.specs.declared.control.Control.TheVariants as control
use Rattle.frame_stack.specs.Parts.{Stacked}
use Rattle.thread_table.specs.declared.thread.Thread.{Thread}
use Rattle.thread_table.specs.Listing.{is_doing, goes_at, is_queued, is_at_cell, waits_open, is_listed, WaitsAtCell, Kept, counted_going}
use Rattle.thread_table.specs.Table.{slots_of, with_listed, with_control, counted_frames}
use Rattle.thread_table.proofs.Table.{lent_is, written_through, slots_changed, thread_alike}
use Rattle.thread_table.proofs.Queues.{wanted_in, has_pushed, not_waiting, both_cannot, flagged_not, flagged_taken, front_waits, who_waits, waits_alike, at_cell_throws_not}
use Rattle.thread_table.proofs.Counts.{count_same, not_doing, still_control, still_blocked}
use Rattle.thread_table.proofs.threads.Threads.strand.Goals as goal

pub returns-then-not-may_strand-clause-none : goal.returns-then-not-may_strand-clause-none
returns-then-not-may_strand-clause-none c = (
  λ t. false_from_ne_true (waits_open (slice_get c.args.self.now.list.items t)) (λ h. both_cannot (c.if-not-may_strand.ensures.found t) (waits_alike _ _ t (sym c.may_strand.ensures.others) h)),
  c.may_strand.ensures.slots,
)

pub index-requires : goal.index-requires
index-requires c =
    let s = c.may_strand.new.self in
    let open_now = front_waits s.list.items s.stuck.items c.pop_front.new.self.items c.in_ok-t.t c.if-not-may_strand.ensures.front c.in_ok-t.ensures.items in
    let w = who_waits s.list.items c.in_ok-t.t open_now in
    subst (λ n. c.in_ok-t.t < n) (sym s.list.ok.0) (item_below s.list.items c.in_ok-t.t w.0 w.1)

pub cell_of-cell-requires : goal.cell_of-cell-requires
cell_of-cell-requires c =
    let s = c.may_strand.new.self in
    let open_now = front_waits s.list.items s.stuck.items c.pop_front.new.self.items c.in_ok-t.t c.if-not-may_strand.ensures.front c.in_ok-t.ensures.items in
    let w = who_waits s.list.items c.in_ok-t.t open_now in
    ap (λ (th : Thread). is_at_cell th.stack.control) (lent_is s.list.items c.in_ok-t.t w.0 c.index.result.now w.1 c.index.ensures) ∙ w.3

pub index_mut-thread-requires : goal.index_mut-thread-requires
index_mut-thread-requires c =
    let s = c.may_strand.new.self in
    let open_now = front_waits s.list.items s.stuck.items c.pop_front.new.self.items c.in_ok-t.t c.if-not-may_strand.ensures.front c.in_ok-t.ensures.items in
    let w = who_waits s.list.items c.in_ok-t.t open_now in
    subst (λ n. c.in_ok-t.t < n) (sym s.list.ok.0) (item_below s.list.items c.in_ok-t.t w.0 w.1)

pub receive-requires : goal.receive-requires
receive-requires c =
    let s = c.may_strand.new.self in
    let open_now = front_waits s.list.items s.stuck.items c.pop_front.new.self.items c.in_ok-t.t c.if-not-may_strand.ensures.front c.in_ok-t.ensures.items in
    let w = who_waits s.list.items c.in_ok-t.t open_now in
    at_cell_throws_not c.index_mut-thread.result.now.stack.control (ap (λ (th : Thread). is_at_cell th.stack.control) (lent_is s.list.items c.in_ok-t.t w.0 c.index_mut-thread.result.now w.1 c.index_mut-thread.ensures.value) ∙ w.3)

pub invariant_of-self-2 : goal.invariant_of-self-2
invariant_of-self-2 c =
    let s = c.may_strand.new.self in
    let open_now = front_waits s.list.items s.stuck.items c.pop_front.new.self.items c.in_ok-t.t c.if-not-may_strand.ensures.front c.in_ok-t.ensures.items in
    let w = who_waits s.list.items c.in_ok-t.t open_now in
    let x = c.index_mut-thread.result.now in
    let lent = lent_is s.list.items c.in_ok-t.t w.0 x w.1 c.index_mut-thread.ensures.value in
    let y : Thread = record x { stack = c.receive.new.self; blocked = false; listed = false } in
    record {
      listed = has_pushed (wanted_in s.flight.list) _ _ _ c.in_ok-t.t w.0 y w.1 c.push_back_reserved.ensures.items s.listed;
      queued = flagged_not goes_at is_queued _ _ c.in_ok-t.t w.0 y w.1 (not_doing y (ap (λ (k : Stacked). is_doing k.control) c.receive.ensures)) (ap (λ (th : Thread). th.queued) lent) s.queued;
      kept = flagged_taken waits_open is_listed _ _ c.in_ok-t.t w.0 y w.1 (not_waiting y refl) refl (subst (λ stuck. Kept s.list.items stuck) c.in_ok-t.ensures.items s.kept);
      framed = count_same counted_frames s.list.items c.in_ok-t.t w.0 y s.frames w.1 (ap (λ (k : Stacked). cond x.finished 0 (length k.frames)) c.receive.ensures ∙ ap counted_frames lent) s.framed;
      gone = count_same counted_going s.list.items c.in_ok-t.t w.0 y s.going w.1 (still_control y (ap (λ (k : Stacked). is_doing k.control) c.receive.ensures) ∙ sym (still_blocked w.0 w.2)) s.gone;
    }

pub returns-clause-some : goal.returns-clause-some
returns-clause-some c =
    let s = c.may_strand.new.self in
    let open_now = front_waits s.list.items s.stuck.items c.pop_front.new.self.items c.in_ok-t.t c.if-not-may_strand.ensures.front c.in_ok-t.ensures.items in
    let w = who_waits s.list.items c.in_ok-t.t open_now in
    let x = c.index_mut-thread.result.now in
    let y : Thread = record x { stack = c.receive.new.self; blocked = false; listed = false } in
    let old = thread_alike s.list.items c.args.self.now.list.items c.in_ok-t.t w.0 c.may_strand.ensures.others w.1 in
    let looked = lent_is s.list.items c.in_ok-t.t w.0 c.index.result.now w.1 c.index.ensures in
    let change = λ (th : Thread). with_listed false (with_control (control.Throw BlockedIndefinitely) th) in
    let list = written_through s.list.items c.in_ok-t.t change w.0 x y w.1 c.index_mut-thread.ensures.value (ap (λ (k : Stacked). record x { stack = k; blocked = false; listed = false }) c.receive.ensures) in (
      waits_alike _ _ c.in_ok-t.t c.may_strand.ensures.others open_now,
      record {
        thread = old.0;
        is = old.1;
        holds = subst (λ (k : Stacked). WaitsAtCell c.cell_of-cell.result k.control) (ap (λ (th : Thread). th.stack) looked ∙ sym (ap (λ (th : Thread). th.stack) old.2)) c.cell_of-cell.ensures;
      },
      λ b. ap (slots_of b) list ∙ (slots_changed b s.list.items c.in_ok-t.t change (resumed_by (throw BlockedIndefinitely)) (λ th. refl) ∙ ap (resumed c.in_ok-t.t (throw BlockedIndefinitely)) (c.may_strand.ensures.slots b)),
    )

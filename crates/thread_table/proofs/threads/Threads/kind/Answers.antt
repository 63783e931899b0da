use Rattle.std.proofs.Common.{sym, ap, ◌∙◌, Some, slice_get}
use Rattle.thread_table.specs.declared.thread.Thread.{Thread}
use Rattle.thread_table.proofs.Table.{lent_is}
use Rattle.thread_table.proofs.Owns.{who_wants, owns, is_end, meets, no_frames}
use Rattle.thread_table.proofs.threads.Threads.kind.Goals as goal

pub returns-in_default : goal.returns-in_default
returns-in_default c =
    let th = c.index-thread.result.now in
    let w = who_wants c.args.t (slice_get c.args.self.now.list.items c.args.t) c.args.self.now.flight.list c.requires in
    let lent = lent_is c.args.self.now.list.items c.args.t w.0 th w.1 c.index-thread.ensures in
    let own = owns th (sym c.if-not-has_own.ensures) in
    record {
      thread = th;
      is = w.1 ∙ ap Some (sym lent);
      unfinished = ap (λ (x : Thread). x.finished) lent ∙ w.2;
      free = own.0;
      holds = (is_end th.stack.control own.1 (λ q e. c.in_default.not-Op q (c.control.ensures ∙ e)), no_frames th.stack.frames (sym c.frames.ensures ∙ c.if-frames-eq0.true));
    }

pub returns-in_default-2 : goal.returns-in_default-2
returns-in_default-2 c =
    let th = c.index-thread.result.now in
    let w = who_wants c.args.t (slice_get c.args.self.now.list.items c.args.t) c.args.self.now.flight.list c.requires in
    let lent = lent_is c.args.self.now.list.items c.args.t w.0 th w.1 c.index-thread.ensures in
    let own = owns th (sym c.if-not-has_own.ensures) in
    record {
      thread = th;
      is = w.1 ∙ ap Some (sym lent);
      unfinished = ap (λ (x : Thread). x.finished) lent ∙ w.2;
      free = own.0;
      holds = meets th.stack.control th.stack.frames (is_end th.stack.control own.1 (λ q e. c.in_default.not-Op q (c.control.ensures ∙ e))) (λ e. c.if-frames-eq0.false (c.frames.ensures ∙ e));
    }

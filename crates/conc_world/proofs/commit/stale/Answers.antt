use Rattle.std.proofs.Common.{◌≡◌, ◌∙◌, Some, None, ap, sym}
use Rattle.std.proofs.lemmas.Bool.{both_ways}
use Rattle.thread_table.specs.declared.thread.Thread.{Thread}
use Rattle.run_course.proofs.history_lemmas.Printing.{there, absent}
use Rattle.thread_table.specs.Listing.{Goes}
use Rattle.thread_table.specs.Table.{IsAt}
use Rattle.conc_world.proofs.Refusing.{on_err}
use Rattle.conc_world.proofs.commit.stale.Goals as goal

pub returns-in_default-clause-stale : goal.returns-in_default-clause-stale
returns-in_default-clause-stale c = λ h.
    let ths = c.args.run.now.world.threads.list.items in
    let none = absent c.deref.result.now ths c.args.slice.now.tid c.deref.ensures.value c.in_default.ensures.lookup.3 in
    let z : None ≡ Some h.thread = sym none ∙ h.is in
    cc z

pub returns-then-thread-clause-stale : goal.returns-then-thread-clause-stale
returns-then-thread-clause-stale c = λ h.
    let ths = c.args.run.now.world.threads.list.items in
    let th = c.in-Some.thread.now in
    let l = c.in-Some.ensures.lookup in
    let is = there c.deref.result.now ths c.args.slice.now.tid th c.deref.ensures.value l.3.0 l.1 in
    let z : Some th ≡ Some h.thread = sym is ∙ h.is in
    let same : th ≡ h.thread = cc z in
    both_ways h.thread.finished h.unfinished (ap (λ (x : Thread). x.finished) (sym same) ∙ c.if-thread.true)

pub returns-then-thread-2-clause-stale : goal.returns-then-thread-2-clause-stale
returns-then-thread-2-clause-stale c =
    let ths = c.args.run.now.world.threads.list.items in
    let th = c.in-Some.thread.now in
    let l = c.in-Some.ensures.lookup in
    record {
      thread = th;
      is = there c.deref.result.now ths c.args.slice.now.tid th c.deref.ensures.value l.3.0 l.1;
      unfinished = c.if-thread.false;
      holds = c.if-thread-2.true;
    }

pub returns-then-there-clause-stale : goal.returns-then-there-clause-stale
returns-then-there-clause-stale c =
    let ths = c.args.run.now.world.threads.list.items in
    let th = c.in-Some.thread.now in
    let l = c.in-Some.ensures.lookup in
    let at = c.in_ok-there.ensures.same.0 c.if-there.true in
    record {
      thread = th;
      is = there c.deref.result.now ths c.args.slice.now.tid th c.deref.ensures.value l.3.0 l.1;
      unfinished = c.if-thread.false;
      free = c.if-thread-2.false;
      control = at.0;
      mask = at.1;
    }

pub returns-else-there-clause-stale : goal.returns-else-there-clause-stale
returns-else-there-clause-stale c =
    let ths = c.args.run.now.world.threads.list.items in
    let th = c.in-Some.thread.now in
    let l = c.in-Some.ensures.lookup in
    record {
      thread = th;
      is = there c.deref.result.now ths c.args.slice.now.tid th c.deref.ensures.value l.3.0 l.1;
      unfinished = c.if-thread.false;
      holds = (c.if-thread-2.false, (λ h. both_ways c.in_ok-there.there c.if-there.false (c.in_ok-there.ensures.same.1 h)));
    }

pub returns-in_err-there-clause-goes : goal.returns-in_err-there-clause-goes
returns-in_err-there-clause-goes c =
    let ths = c.args.run.now.world.threads.list.items in
    let th = c.in-Some.thread.now in
    let l = c.in-Some.ensures.lookup in
    let at : IsAt c.args.slice.now.tid Goes ths = record {
      thread = th;
      is = there c.deref.result.now ths c.args.slice.now.tid th c.deref.ensures.value l.3.0 l.1;
      holds = (c.if-thread.false, c.if-thread-2.false, c.in_err-there.ensures.doing);
    } in
    on_err (IsAt c.args.slice.now.tid Goes ths) c.from_residual.result at

use Rattle.std.proofs.Common.{sym, arith}
use Rattle.run_course.proofs.clocked_lemmas.LastEntry.{ends_by}
use Rattle.run_course.proofs.clocked.reading.ends_in_tick.Goals as goal

pub returns-in-Some-at : goal.returns-in-Some-at
returns-in-Some-at c =
    let last = c.in-Some.ensures in
    ends_by c.args.run.now.history.list c.in-Some.last (omega (arith, last.0, last.1, c.len.ensures)) c.in-Some-at.entry (sym c.in-Some-at.ensures.entry) c.is_tick.result c.is_tick.ensures

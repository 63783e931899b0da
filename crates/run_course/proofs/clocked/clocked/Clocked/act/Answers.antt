use Rattle.std.proofs.Common.{arith}
use Rattle.run_course.specs.history.Acts.{entry_of}
use Rattle.run_course.specs.history.Records.{Same, WouldExceed}
use Rattle.run_course.proofs.history_lemmas.HowItEnds.{act_no_tick}
use Rattle.run_course.proofs.clocked_lemmas.Going.{went_so, went_time, went_kept}
use Rattle.run_course.proofs.clocked.clocked.Clocked.act.Goals as goal

pub invariant_of-self : goal.invariant_of-self
invariant_of-self g c =
    let K = g.K.Clock in
    let before = c.args.self.now in
    let old = before.«record» in
    let new = c.act.new.self in
    let e = entry_of c.args.act in
    let went = went_so c.act.result (λ kind. Same old new × WouldExceed kind e old) e old new (λ kind h. h.0) c.act.ensures.ok c.act.ensures.err in
    let time = went_time old new e (act_no_tick c.args.act) went in
    record {
      chosen = before.chosen;
      time = omega (arith, time, before.time);
      later = before.later;
      ticks = went_kept old new e (K.early_waits before.lent.value) (K.early_waits before.clock) (act_no_tick c.args.act) went before.ticks;
    }

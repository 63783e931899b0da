use Rattle.std.proofs.Common.{◌∙◌, arith}
use Rattle.run_course.proofs.clocked_lemmas.Keeping.{read_after}
use Rattle.run_course.proofs.clocked_lemmas.Ticks.{ticked_so, ticked_time, slept_kept}
use Rattle.run_course.proofs.clocked.clocked.Clocked.sleep.Goals as goal

pub invariant_of-self : goal.invariant_of-self
invariant_of-self g c =
    let K = g.K.Clock in
    let before = c.args.self.now in
    let old = before.«record» in
    let new = c.tick.new.self in
    let waited = c.wait_until.new.self in
    let clock = c.now-reading.new.self in
    let at = c.now-reading.result in
    let wait = c.wait_until.ensures in
    let read = c.now-reading.ensures in
    let ticked = ticked_so c.tick.result at old new c.tick.ensures.ok c.tick.ensures.clock c.tick.ensures.err in
    record {
      chosen = read.chosen ∙ (wait.chosen ∙ before.chosen);
      time = ticked_time old new at (K.last clock) ticked (omega (arith, before.time, wait.waits.forward, read.forward, read.reading)) (omega (arith, read.reading));
      later = omega (arith, before.later, wait.waits.counted, read.counted);
      ticks =
          slept_kept old new c.args.due at (K.early_waits before.lent.value) (K.early_waits before.clock) (K.early_waits clock) (K.last before.clock) c.requires.next
          (read_after c.args.due (K.last before.clock) (K.last waited) at (K.early_waits before.clock) (K.early_waits waited) (K.early_waits clock) wait.waits read.forward read.counted) ticked before.ticks;
    }

use Rattle.std.proofs.Common.{◌≡◌, false, true, refl, ◌∙◌, arith}
use Rattle.run_course.proofs.clocked_lemmas.Ticks.{ticked_so, ticked_time, looked_kept}
use Rattle.run_course.proofs.clocked.clocked.Clocked.look.Goals as goal

pub invariant_of-self-2 : goal.invariant_of-self-2
invariant_of-self-2 g c =
    let K = g.K.Clock in
    let before = c.args.self.now in
    let old = before.«record» in
    let new = c.tick.new.self in
    let clock = c.now-now.new.self in
    let at = c.now-now.result in
    let read = c.now-now.ensures in
    let ticked = ticked_so c.tick.result at old new c.tick.ensures.ok c.tick.ensures.clock c.tick.ensures.err in
    record {
      chosen = read.chosen ∙ before.chosen;
      time = ticked_time old new at (K.last clock) ticked (omega (arith, before.time, read.forward, read.reading)) (omega (arith, read.reading));
      later = omega (arith, before.later, read.counted);
      ticks =
          looked_kept old new c.args.act c.args.read.now at (K.early_waits before.lent.value) (K.early_waits before.clock) (K.early_waits clock) (omega (arith, read.counted))
          c.requires.next (c.if-not-is_wanted.ensures.0 refl) c.if-now-self.false (λ h. let z : false ≡ true = c.if-ends_in_tick.ensures.1 h in cc z) ticked before.ticks;
    }

use Rattle.std.proofs.Common.{sym, ap, arith}
use Rattle.run_course.proofs.clocked_lemmas.Going.{begun_kept}
use Rattle.run_course.proofs.clocked.clocked.Clocked.begin.Goals as goal

pub invariant_of-result : goal.invariant_of-result
invariant_of-result g c =
    let K = g.K.Clock in
    let early = ap K.early_waits c.of-lent.ensures in
    record {
      chosen = ap K.choice (sym c.of-lent.ensures);
      time = omega (arith, c.requires.start);
      later = omega (arith, early);
      ticks = begun_kept c.args.run (K.early_waits c.of-lent.result.value) (K.early_waits c.args.clock) c.requires.begun early;
    }

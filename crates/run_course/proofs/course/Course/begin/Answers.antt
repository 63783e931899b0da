use Rattle.std.proofs.Common.{sym, ap, arith}
use Rattle.run_course.proofs.Kept.{told_nothing}
use Rattle.run_course.proofs.course.Course.begin.Goals as goal

pub invariant_of-result : goal.invariant_of-result
invariant_of-result g c =
    let O = g.O.Sink in
    let E = g.E.Sink in
    let out = ap O.faults c.of-out_lent.ensures in
    let err = ap E.faults c.of-err_lent.ensures in
    record {
      told = ∣ told_nothing c.args.clocked.«record» c.requires.begun _ _ _ _ (ap O.told c.of-out_lent.ensures) (ap E.told c.of-err_lent.ensures) ∣₁;
      out_faults = omega (arith, out);
      err_faults = omega (arith, err);
      calm = ∣ (λ f. (sym out, sym err)) ∣₁;
      ended = ∣ tt ∣₁;
    }

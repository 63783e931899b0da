use Rattle.std.proofs.Common.{refl, Some}
use Rattle.run_course.specs.declared.ends.RunEnd.TheVariants as end
use Rattle.run_course.proofs.Kept.{calm_ends, is_none, told_ends}
use Rattle.run_course.proofs.course.Course.give_up.Goals as goal

pub invariant_of-self : goal.invariant_of-self
invariant_of-self g c =
    let s = c.args.self.now in
    let none = is_none s.end c.is_none.result c.if-is_none.true c.is_none.ensures in
    record {
      told = told_ends s.end (Some end.Memory) none refl _ _ _ _ _ _ s.told;
      out_faults = s.out_faults;
      err_faults = s.err_faults;
      calm = calm_ends s.end (Some end.Memory) none _ _ _ _ s.calm;
      ended = ∣ tt ∣₁;
    }

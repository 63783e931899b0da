use Rattle.std.proofs.Common.{Some}
use Rattle.plain_laws.proofs.Options.{said_of}
use Rattle.run_course.proofs.Kept.{calm_ends, ends_calmly, ends_so, told_ends}
use Rattle.run_course.proofs.course.Course.ends.Goals as goal

pub invariant_of-self : goal.invariant_of-self
invariant_of-self g c =
    let s = c.args.self.now in
    let e = c.in-Some.end in
    let r = s.clocked.«record» in
    let by = said_of _ _ c.ending_of.result e c.in-Some.is c.ending_of.ensures in
    record {
      told = told_ends s.end (Some e) c.requires.none (ends_calmly e r by) _ _ _ _ _ _ s.told;
      out_faults = s.out_faults;
      err_faults = s.err_faults;
      calm = calm_ends s.end (Some e) c.requires.none _ _ _ _ s.calm;
      ended = ends_so e r _ _ _ _ by;
    }

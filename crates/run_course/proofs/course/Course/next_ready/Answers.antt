use Rattle.std.proofs.Common.{inl}
use Rattle.run_course.proofs.Kept.{ended_none, told_went}
use Rattle.run_course.proofs.course.Course.next_ready.Goals as goal

pub invariant_of-self : goal.invariant_of-self
invariant_of-self g c =
    let s = c.args.self.now in
    let old = s.clocked.«record» in
    let new = c.next_ready.new.self.«record» in
    record {
      told = told_went old new (inl c.next_ready.ensures.same) s.end c.requires.none _ _ _ _ s.told;
      out_faults = s.out_faults;
      err_faults = s.err_faults;
      calm = s.calm;
      ended = ended_none s.end c.requires.none _ _ _ _ _ _ _ _;
    }

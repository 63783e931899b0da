use Rattle.run_course.proofs.Going.{went_sleep}
use Rattle.run_course.proofs.Kept.{ended_none, told_went}
use Rattle.run_course.proofs.course.Course.sleep.Goals as goal

pub invariant_of-self : goal.invariant_of-self
invariant_of-self g c =
    let s = c.args.self.now in
    let old = s.clocked.«record» in
    let new = c.sleep.new.self.«record» in
    record {
      told = told_went old new (went_sleep c.sleep.result old new c.sleep.ensures.ok c.sleep.ensures.err) s.end c.requires.none _ _ _ _ s.told;
      out_faults = s.out_faults;
      err_faults = s.err_faults;
      calm = s.calm;
      ended = ended_none s.end c.requires.none _ _ _ _ _ _ _ _;
    }

use Rattle.run_course.specs.history.Records.{Same, WouldExceed}
use Rattle.hs_rules.specs.declared.entry.Entry.TheVariants as entry
use Rattle.hs_rules.specs.declared.entry.LimitKind.TheVariants as limit
use Rattle.std.proofs.Common.{◌≡◌, refl}
use Rattle.run_course.proofs.clocked_lemmas.Going.{went_so}
use Rattle.run_course.proofs.Going.{silently}
use Rattle.run_course.proofs.Kept.{ended_none, told_went}
use Rattle.run_course.proofs.course.Course.append.Goals as goal

pub invariant_of-self : goal.invariant_of-self
invariant_of-self g c =
    let s = c.args.self.now in
    let old = s.clocked.«record» in
    let new = c.accept.new.self.«record» in
    let e = entry.Local c.args.slice.tid c.args.slice.steps in
    let went = went_so c.accept.result (λ kind. (kind ≡ limit.Frames) × Same old new × WouldExceed kind e old) e old new (λ kind h. h.1) c.accept.ensures.ok c.accept.ensures.err in
    record {
      told = told_went old new (silently e old new (λ x. (refl, refl)) went) s.end c.requires.none _ _ _ _ s.told;
      out_faults = s.out_faults;
      err_faults = s.err_faults;
      calm = s.calm;
      ended = ended_none s.end c.requires.none _ _ _ _ _ _ _ _;
    }

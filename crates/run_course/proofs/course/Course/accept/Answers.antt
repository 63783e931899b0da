use Rattle.std.proofs.Common.{refl, Some}
use Rattle.plain_laws.proofs.Options.{said_of}
use Rattle.hs_rules.specs.declared.entry.Entry.TheVariants as entry
use Rattle.run_course.specs.declared.ends.RunEnd.TheVariants as end
use Rattle.run_course.proofs.Kept.{calm_ends, limit_same, told_ends}
use Rattle.run_course.proofs.course.Course.accept.Goals as goal

pub invariant_of-self : goal.invariant_of-self
invariant_of-self g c =
    let s = c.append.new.self in
    let over = said_of _ _ c.in_ok-kind.field-0 c.in-Some.kind c.in-Some.is c.in_ok-kind.ensures.ok in
    let after = Some (end.Limit c.in-Some.kind (entry.Local c.args.slice.tid c.args.slice.steps)) in
    record {
      told = told_ends s.end after c.append.ensures.end refl _ _ _ _ _ _ s.told;
      out_faults = s.out_faults;
      err_faults = s.err_faults;
      calm = calm_ends s.end after c.append.ensures.end _ _ _ _ s.calm;
      ended = ∣ limit_same c.args.self.now.clocked.«record» s.clocked.«record» over.1 c.in-Some.kind (entry.Local c.args.slice.tid c.args.slice.steps) over.2 ∣₁;
    }

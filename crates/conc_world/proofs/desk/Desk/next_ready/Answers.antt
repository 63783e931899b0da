use Rattle.std.proofs.Common.{ap, sym, ◌∙◌}
use Rattle.std.proofs.Math.Logic.{∥∥₁_map}
use Rattle.conc_world.proofs.Knowing.{knows_as}
use Rattle.conc_world.proofs.Opening.{same_open}
use Rattle.conc_world.proofs.desk.Desk.next_ready.Goals as goal

pub invariant_of-self : goal.invariant_of-self
invariant_of-self g c =
    let s = c.args.self.now in
    let old = s.course.clocked.«record» in
    let new = c.ready_of.new.course.clocked.«record» in
    let same = c.ready_of.ensures.same in
    record {
      of_code = s.of_code ∙ sym (ap (λ z. z.value) same.plan.2);
      open_still = ∥∥₁_map s.open_still (λ f e. same_open old new same (f c.requires.none));
      few = s.few;
      knows = knows_as s.tickets s.seen old.history.list new.history.list same.history s.knows;
    }

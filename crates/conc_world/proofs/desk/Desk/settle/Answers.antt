use Rattle.rules_code.specs.Codes.{body_of}
use Rattle.conc_world.proofs.Desks.{code_kept, knows_on, settled_open}
use Rattle.conc_world.proofs.desk.Desk.settle.Goals as goal

pub invariant_of-self : goal.invariant_of-self
invariant_of-self g c =
    let s = c.args.self.now in
    let old = s.course.clocked.«record» in
    let new = c.settle.new.self.clocked.«record» in
    record {
      of_code = code_kept (body_of s.code) old new s.of_code c.settle.ensures.plan;
      open_still = ∣ settled_open c.settle.result s.course.end c.settle.new.self.end new c.settle.ensures.settled c.settle.ensures.err ∣₁;
      few = s.few;
      knows = knows_on s.tickets s.seen s.course.end c.settle.new.self.end old.history.list new.history.list c.settle.ensures.goes s.knows;
    }

use Rattle.std.proofs.Common.{sym, ◌∙◌}
use Rattle.std.proofs.Math.Logic.{∥∥₁_map}
use Rattle.conc_world.proofs.Knowing.{knows_next}
use Rattle.conc_world.proofs.desk.Desk.look.Goals as goal

pub invariant_of-self : goal.invariant_of-self
invariant_of-self g c =
    let s = c.args.self.now in
    let new = c.note.new.tickets in
    let es = s.course.clocked.«record».history.list in
    record {
      of_code = s.of_code;
      open_still = s.open_still;
      few = λ k o out. s.few k o (sym (c.note.ensures.jobs k) ∙ out);
      knows = ∥∥₁_map s.knows (knows_next s.tickets new s.seen es c.at-found.result c.at-found.ensures.entry c.requires.next c.note.ensures.jobs c.note.ensures.marks);
    }

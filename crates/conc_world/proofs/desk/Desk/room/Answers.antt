use Rattle.conc_world.proofs.Knowing.{few_fewer, fewer_same, knows_fewer}
use Rattle.conc_world.proofs.desk.Desk.room.Goals as goal

pub invariant_of-self : goal.invariant_of-self
invariant_of-self g c =
    let s = c.args.self.now in
    let new = c.room.new.self in
    let fewer = fewer_same s.tickets new c.room.ensures.same in
    record {
      of_code = s.of_code;
      open_still = s.open_still;
      few = few_fewer s.tickets new s.given fewer s.few;
      knows = knows_fewer s.tickets new s.seen s.course.clocked.«record».history.list fewer s.knows;
    }

use Rattle.std.proofs.Common.{arith, refl}
use Rattle.conc_world.specs.tickets.Out.{job}
use Rattle.conc_world.proofs.Knowing.{few_added, fresh_ticket, knows_added}
use Rattle.conc_world.proofs.desk.Desk.give.Goals as goal

pub add-requires-clause-new : goal.add-requires-clause-new
add-requires-clause-new g c =
    let s = c.args.self.now in
    fresh_ticket s.tickets c.args.ticket s.given c.requires.next s.few (job s.tickets c.args.ticket) refl

pub invariant_of-self : goal.invariant_of-self
invariant_of-self g c =
    let s = c.args.self.now in
    let new = c.add.new.self in
    let added = c.add.ensures in
    let next = c.requires.next in
    record {
      of_code = s.of_code;
      open_still = s.open_still;
      few = few_added s.tickets new c.args.ticket s.given added.others (omega (arith, next)) s.few;
      knows = knows_added s.tickets new c.args.ticket c.args.t s.seen s.course.clocked.«record».history.list added.others added.out added.mark added.marks s.knows;
    }

use Rattle.std.proofs.Common.{ap}
use Rattle.conc_world.proofs.Knowing.{few_fewer, fewer_next, knows_fewer, least_overtaken, none_overtaken}
use Rattle.conc_world.proofs.desk.Desk.overtaken.Goals as goal

pub invariant_of-self : goal.invariant_of-self
invariant_of-self g c =
    let s = c.catch_up.new.self in
    let new = c.next_overtaken.new.self in
    let fewer = fewer_next s.tickets new c.next_overtaken.result c.next_overtaken.ensures.back c.next_overtaken.ensures.same in
    record {
      of_code = s.of_code;
      open_still = s.open_still;
      few = few_fewer s.tickets new s.given fewer s.few;
      knows = knows_fewer s.tickets new s.seen s.course.clocked.«record».history.list fewer s.knows;
    }

pub returns-clause-some : goal.returns-clause-some
returns-clause-some g c =
    let old = c.args.self.now in
    let s = c.catch_up.new.self in
    let new = c.next_overtaken.new.self in
    least_overtaken old.tickets s.tickets new s.seen s.course.clocked.«record».history.list old.course.clocked.«record».history.list c.catch_up.ensures.seen s.knows c.catch_up.ensures.jobs (ap (λ z. z.clocked.«record».history.list) c.catch_up.ensures.course)
    c.next_overtaken.result c.next_overtaken.ensures.some c.next_overtaken.ensures.least c.next_overtaken.ensures.back

pub returns-clause-none : goal.returns-clause-none
returns-clause-none g c =
    let old = c.args.self.now in
    let s = c.catch_up.new.self in
    let new = c.next_overtaken.new.self in
    none_overtaken old.tickets s.tickets new s.seen s.course.clocked.«record».history.list old.course.clocked.«record».history.list c.catch_up.ensures.seen s.knows c.catch_up.ensures.jobs (ap (λ z. z.clocked.«record».history.list) c.catch_up.ensures.course)
    c.next_overtaken.result c.next_overtaken.ensures.none c.next_overtaken.ensures.same

use Rattle.conc_world.proofs.Opening.{history_after}
use Rattle.conc_world.proofs.Turning.{three_begin}
use Rattle.conc_world.proofs.desk.Desk.step.Goals as goal

pub returns-then-is_short-clause-begins : goal.returns-then-is_short-clause-begins
returns-then-is_short-clause-begins g c =
    let ready = c.one_of_two.new.self.course.clocked.«record» in
    let after = c.accept.new.self.course in
    three_begin c.args.self.now.course.clocked.«record» c.settle.new.self.course.clocked.«record» ready after.clocked.«record» (c.settle.ensures.goes.more, c.settle.ensures.goes.begins) c.one_of_two.ensures.history
    (history_after c.in_ok-slice.slice after.end ready after.clocked.«record» c.accept.result c.accept.ensures.ok c.accept.ensures.err)

pub returns-else-is_short-clause-begins : goal.returns-else-is_short-clause-begins
returns-else-is_short-clause-begins g c =
    let ready = c.one_of_two.new.self.course.clocked.«record» in
    let after = c.accept.new.self.course in
    three_begin c.args.self.now.course.clocked.«record» c.settle.new.self.course.clocked.«record» ready after.clocked.«record» (c.settle.ensures.goes.more, c.settle.ensures.goes.begins) c.one_of_two.ensures.history
    (history_after c.in_ok-slice.slice after.end ready after.clocked.«record» c.accept.result c.accept.ensures.ok c.accept.ensures.err)

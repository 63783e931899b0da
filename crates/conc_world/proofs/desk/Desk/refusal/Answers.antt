use Rattle.std.proofs.Common.{arith}
use Rattle.conc_world.proofs.desk.Desk.refusal.Goals as goal

pub overflow_sub-left : goal.overflow_sub-left
overflow_sub-left g c =
    let within = c.args.self.now.course.clocked.«record».within in
    let fuel = c.from.ensures in
    let steps = c.steps.ensures in
    omega (arith, within, fuel, steps)

use Rattle.std.proofs.Common.{sym, subst}
use Rattle.conc_task.specs.Stops.{IsDenied}
use Rattle.conc_task.proofs.Reading.{denied}
use Rattle.conc_task.proofs.task.check_of.Goals as goal

pub returns-in-Err : goal.returns-in-Err
returns-in-Err c = subst (IsDenied c.args.bytes.now) (sym c.stop_of.ensures) (denied c.args.bytes.now c.in-Err.fault c.in-Err.ensures)

use Rattle.std.proofs.Common.{refl, ap}
use Rattle.exn_flight.specs.Flights.{InFlight}
use Rattle.world_entries.proofs.Entered.{wake_makes}
use Rattle.world_entries.proofs.Waiters.{sleeper_op}
use Rattle.world_entries.proofs.world.World.wake.Goals as goal

pub answer-requires-clause-there : goal.answer-requires-clause-there
answer-requires-clause-there c = sleeper_op c.args.self.now c.requires.live c.args.t c.requires.due.0 c.requires.due.1

pub returns : goal.returns
returns c =
    wake_makes c.args.self.now (record c.args.self.now { threads = c.answer.new.self; sleepers = c.remove.new.self }) c.args.t c.requires.due.0 c.requires.goes c.requires.due.1 c.requires.due.2
    c.answer.ensures.list refl (ap (λ (f : InFlight). f.list) c.answer.ensures.flight) c.remove.ensures.list (record { clock = refl; instances = refl; timeouts = refl; printed = refl })

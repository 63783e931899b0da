use Rattle.std.proofs.Common.{refl, ap}
use Rattle.exn_flight.specs.Flights.{InFlight}
use Rattle.world_entries.proofs.Entered.{pop_makes}
use Rattle.world_entries.proofs.world.World.pop.Goals as goal

pub returns : goal.returns
returns c =
    pop_makes c.args.self.now (record c.args.self.now { threads = c.pop.new.self }) c.args.t c.requires.goes c.requires.kind
    c.pop.ensures.list refl (ap (λ (f : InFlight). f.list) c.pop.ensures.flight) refl (record { clock = refl; instances = refl; timeouts = refl; printed = refl })

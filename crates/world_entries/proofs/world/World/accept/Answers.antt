use Rattle.std.proofs.Common.{refl, ap}
use Rattle.std.proofs.lemmas.Result.{on_ok_weaker}
use Rattle.exn_flight.specs.Flights.{InFlight}
use Rattle.world_entries.proofs.Entered.{accept_makes}
use Rattle.world_entries.proofs.world.World.accept.Goals as goal

pub returns-clause-ok : goal.returns-clause-ok
returns-clause-ok c =
    let h = c.requires.starts in
    on_ok_weaker c.accept.result
    (λ d.
    accept_makes c.args.self.now (record c.args.self.now { threads = c.accept.new.self }) c.args.slice.tid c.args.slice.steps c.args.slice.of.value h.thread d.0 c.requires.goes h.is h.unfinished h.free c.args.slice.some
    d.1 (d.3 h.thread h.is).1 refl (ap (λ (f : InFlight). f.list) c.accept.ensures.flight) refl (record { clock = refl; instances = refl; timeouts = refl; printed = refl }))
    c.accept.ensures.ok

use Rattle.std.proofs.Common.{refl, ap}
use Rattle.std.proofs.lemmas.Result.{IfOk-weaker, on_err_weaker}
use Rattle.exn_flight.specs.Flights.{InFlight}
use Rattle.rules_code.specs.Codes.{body_of}
use Rattle.world_entries.proofs.Advancing.{may_advance, advance_makes, threads_stay}
use Rattle.world_entries.proofs.world.World.advance.Goals as goal

pub advance-requires-clause-there : goal.advance-requires-clause-there
advance-requires-clause-there c =
    let h = c.requires.free in
    record { thread = h.0; is = h.1; holds = (h.3, may_advance (body_of c.args.code.now) c.args.self.now c.args.t h.0 c.requires.live h.1) }

pub returns-clause-moves : goal.returns-clause-moves
returns-clause-moves c =
    IfOk-weaker c.advance.result _ _
    (λ done h yes.
    advance_makes c.args.self.now (record c.args.self.now { threads = c.advance.new.self }) c.args.t c.args.k (body_of c.args.code.now) c.requires.goes c.requires.free c.requires.some
    (h yes) refl (ap (λ (f : InFlight). f.list) c.advance.ensures.flight) refl (record { clock = refl; instances = refl; timeouts = refl; printed = refl }))
    c.advance.ensures.moved

pub returns-clause-stuck : goal.returns-clause-stuck
returns-clause-stuck c =
    IfOk-weaker c.advance.result _ _
    (λ done h no. (
      threads_stay c.args.self.now (record c.args.self.now { threads = c.advance.new.self }) (h no).0 refl (ap (λ (f : InFlight). f.list) c.advance.ensures.flight) refl (record { clock = refl; instances = refl; timeouts = refl; printed = refl }),
      (h no).1,
    ))
    c.advance.ensures.stuck

pub returns-clause-err : goal.returns-clause-err
returns-clause-err c =
    on_err_weaker c.advance.result
    (λ list. threads_stay c.args.self.now (record c.args.self.now { threads = c.advance.new.self }) list refl (ap (λ (f : InFlight). f.list) c.advance.ensures.flight) refl (record { clock = refl; instances = refl; timeouts = refl; printed = refl }))
    c.advance.ensures.err

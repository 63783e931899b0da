use Rattle.std.proofs.Common.{refl, ap}
use Rattle.exn_flight.specs.Flights.{InFlight}
use Rattle.run_course.proofs.history_lemmas.GoingOn.{still_live}
use Rattle.run_course.proofs.history_lemmas.Resting.{same_state}
use Rattle.run_course.proofs.history.record.Record.next_ready.Goals as goal

pub invariant_of-self : goal.invariant_of-self
invariant_of-self c =
    let r = c.args.self.now in
    let ts = c.next_ready.new.self in
    let same = same_state r.world ts c.next_ready.ensures.slots (ap (λ (f : InFlight). f.list) c.next_ready.ensures.flight) in
    record { after = still_live r.of.value r.history.list r.world (record r.world { threads = ts }) same r.after; within = r.within; few = r.few; limited = r.limited }

pub returns-clause-same : goal.returns-clause-same
returns-clause-same c =
    let r = c.args.self.now in
    record { history = refl; world = same_state r.world c.next_ready.new.self c.next_ready.ensures.slots (ap (λ (f : InFlight). f.list) c.next_ready.ensures.flight); plan = (refl, refl, refl) }

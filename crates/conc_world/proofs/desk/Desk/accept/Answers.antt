use Rattle.std.proofs.Common.{arith, ap, sym, ◌∙◌}
use Rattle.std.proofs.Math.Logic.{∥∥₁_map}
use Rattle.conc_world.proofs.Knowing.{knows_as, knows_more}
use Rattle.conc_world.proofs.Opening.{goes_shown, history_after, open_after, same_code}
use Rattle.conc_world.proofs.desk.Desk.accept.Goals as goal

pub accept-requires-clause-goes : goal.accept-requires-clause-goes
accept-requires-clause-goes g c =
    let s = c.args.self.now in
    goes_shown s.course.end s.course.clocked.«record» c.requires.none s.open_still

pub accept-requires-clause-fuel : goal.accept-requires-clause-fuel
accept-requires-clause-fuel g c =
    let s = c.args.self.now in
    let within = s.course.clocked.«record».within in
    let steps = c.requires.fuel in
    omega (arith, within, steps)

pub invariant_of-self : goal.invariant_of-self
invariant_of-self g c =
    let s = c.args.self.now in
    let old = s.course.clocked.«record» in
    let course = c.accept.new.self in
    let new = course.clocked.«record» in
    let ok = c.accept.ensures.ok in
    let err = c.accept.ensures.err in
    let more = history_after c.args.slice course.end old new c.accept.result ok err in
    record {
      of_code = s.of_code ∙ sym (ap (λ z. z.value) (same_code c.args.slice course.end old new c.accept.result ok err));
      open_still = ∥∥₁_map s.open_still (λ f. open_after c.args.slice course.end old new c.accept.result ok err (f c.requires.none));
      few = s.few;
      knows = knows_as s.tickets s.seen _ new.history.list more.1 (∥∥₁_map s.knows (knows_more s.tickets s.seen old.history.list more.0));
    }

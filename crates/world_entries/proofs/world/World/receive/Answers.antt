use Rattle.std.proofs.Common.{◌≡◌, Some, refl, sym, ap, ◌∙◌}
use Rattle.std.specs.declared.alloc.Global.{Global}
use Rattle.std.specs.declared.vec.Vec.{Vec}
use Rattle.hs_base.specs.declared.value.Value.TheVariants as value
use Rattle.rules_waiting.specs.Waiting.{flying_to, first_thrown}
use Rattle.exn_flight.specs.Flights.{InFlight, after_delivery}
use Rattle.frame_stack.specs.declared.control.Control.TheVariants as control
use Rattle.thread_table.specs.declared.thread.Thread.{Thread}
use Rattle.thread_table.specs.Table.{changed, with_control}
use Rattle.world_entries.proofs.Waiters.{thrower_op}
use Rattle.world_entries.proofs.Receiving.{left_requires, throw_requires, receive_makes}
use Rattle.world_entries.proofs.world.World.receive.Goals as goal

pub answer-requires-clause-there : goal.answer-requires-clause-there
answer-requires-clause-there c =
    rw c.deliver.ensures.list (thrower_op c.args.self.now c.requires.live c.args.t c.in-Some.thrower c.in-Some.e (sym c.deliver.ensures.answer ∙ c.in-Some.is))

pub leave-requires : goal.leave-requires
leave-requires c = record {
  there = left_requires c.args.self.now (record c.args.self.now { threads = c.answer.new.self }) c.requires.live c.args.t c.in-Some.thrower c.in-Some.e c.requires.kind (sym c.deliver.ensures.answer ∙ c.in-Some.is)
      (c.answer.ensures.list ∙ ap (λ (l : Vec Thread Global). changed c.in-Some.thrower (with_control (control.Ret value.Unit)) l.items) c.deliver.ensures.list) refl;
}

pub throw-requires-clause-there : goal.throw-requires-clause-there
throw-requires-clause-there c =
    throw_requires c.args.self.now (record c.args.self.now { threads = c.answer.new.self }) c.requires.live c.args.t c.in-Some.thrower c.in-Some.e c.requires.kind (sym c.deliver.ensures.answer ∙ c.in-Some.is)
    (c.answer.ensures.list ∙ ap (λ (l : Vec Thread Global). changed c.in-Some.thrower (with_control (control.Ret value.Unit)) l.items) c.deliver.ensures.list) c.leave.new.self c.leave.ensures.list

pub returns : goal.returns
returns c =
    let thrown : first_thrown (flying_to c.args.t c.args.self.now.threads.flight.list) ≡ Some (c.in-Some.thrower, c.in-Some.e) = sym c.deliver.ensures.answer ∙ c.in-Some.is in
    receive_makes c.args.self.now (record c.args.self.now { threads = c.answer.new.self }) c.requires.live c.args.t c.in-Some.thrower c.in-Some.e c.requires.kind thrown
    (c.answer.ensures.list ∙ ap (λ (l : Vec Thread Global). changed c.in-Some.thrower (with_control (control.Ret value.Unit)) l.items) c.deliver.ensures.list)
    c.leave.new.self (record c.leave.new.self { threads = c.throw.new.self }) c.requires.goes refl
    (ap (λ (f : InFlight). f.list) c.answer.ensures.flight ∙ (c.deliver.ensures.flight ∙ ap (λ o. after_delivery o c.args.self.now.threads.flight.list) thrown))
    refl c.leave.ensures.left c.leave.ensures.list c.throw.ensures.list refl (ap (λ (f : InFlight). f.list) c.throw.ensures.flight) refl
    (record { clock = c.leave.ensures.counts.0; instances = c.leave.ensures.counts.1; timeouts = c.leave.ensures.counts.2; printed = c.leave.ensures.counts.3 })

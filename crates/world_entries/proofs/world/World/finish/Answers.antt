use Rattle.std.proofs.Common.{◌≡◌, [], None, ◌∷◌, ◌++◌, refl, sym, ap, ◌∙◌, arith}
use Rattle.std.specs.declared.alloc.Global.{Global}
use Rattle.std.specs.declared.vec.Vec.{Vec}
use Rattle.hs_base.specs.declared.value.Value.TheVariants as value
use Rattle.rules_waiting.specs.Waiting.{flying_to, first_thrown}
use Rattle.exn_flight.specs.Flights.{InFlight, after_delivery}
use Rattle.frame_stack.specs.declared.control.Control.TheVariants as control
use Rattle.thread_table.specs.declared.thread.Thread.{Thread}
use Rattle.thread_table.specs.Table.{changed, with_control}
use Rattle.world_entries.proofs.Finishing.{answering_first, next_fewer, answering_next, finish_makes}
use Rattle.world_entries.proofs.world.World.finish.Goals as goal

pub loop-thrown-init : goal.loop-thrown-init
loop-thrown-init c =
    let w = c.finish.ensures.spends.work in
    record {
      answering = ([], answering_first c.args.self.now c.args.t c.finish.new.self c.requires.live c.requires.room c.finish.ensures.list (ap (λ (f : InFlight). f.list) c.finish.ensures.flight) (omega (arith, w)));
      cells = refl;
      sleepers = refl;
      clock = refl;
      instances = refl;
      timeouts = refl;
      printed = refl;
    }

pub loop-thrown-smaller : goal.loop-thrown-smaller
loop-thrown-smaller c =
    let us = c.loop-thrown.invariant.answering in
    next_fewer c.args.t us.0 c.finish.new.self.list.items c.finish.new.self.flight.list c.loop-thrown.self.threads us.1 c.in-Some.thrown.0 c.in-Some.thrown.1 (sym c.deliver.ensures.answer ∙ c.in-Some.is)
    c.answer.new.self (ap (λ (f : InFlight). f.list) c.answer.ensures.flight ∙ c.deliver.ensures.flight)

pub loop-thrown-preserved : goal.loop-thrown-preserved
loop-thrown-preserved c =
    let us = c.loop-thrown.invariant.answering in
    let w = c.deliver.ensures.spends.work in
    let v = c.answer.ensures.spends.work in
    record {
      answering = (
        us.0 ++ c.in-Some.thrown.0 ∷ [],
        answering_next c.args.t us.0 c.finish.new.self.list.items c.finish.new.self.flight.list c.loop-thrown.self.threads us.1 c.in-Some.thrown.0 c.in-Some.thrown.1 (sym c.deliver.ensures.answer ∙ c.in-Some.is)
            c.answer.new.self
            (c.answer.ensures.list
            ∙ (ap (λ u. changed u (with_control (control.Ret value.Unit)) c.deliver.new.self.list.items) c.thrower-thrower.ensures
            ∙ ap (λ (l : Vec Thread Global). changed c.in-Some.thrown.0 (with_control (control.Ret value.Unit)) l.items) c.deliver.ensures.list))
            (ap (λ (f : InFlight). f.list) c.answer.ensures.flight ∙ c.deliver.ensures.flight)
            (omega (arith, w, v)),
      );
      cells = c.loop-thrown.invariant.cells;
      sleepers = c.loop-thrown.invariant.sleepers;
      clock = c.loop-thrown.invariant.clock;
      instances = c.loop-thrown.invariant.instances;
      timeouts = c.loop-thrown.invariant.timeouts;
      printed = c.loop-thrown.invariant.printed;
    }

pub returns : goal.returns
returns c =
    let us = c.loop-thrown.invariant.answering in
    let i = c.loop-thrown.invariant in
    let none : first_thrown (flying_to c.args.t c.loop-thrown.self.threads.flight.list) ≡ None = sym c.deliver.ensures.answer ∙ c.in_default.is in
    finish_makes c.args.self.now (record c.loop-thrown.self { threads = c.deliver.new.self }) c.loop-thrown.self.threads c.args.t c.args.n us.0 c.finish.new.self.list.items c.finish.new.self.flight.list c.requires.goes c.requires.ends
    c.finish.ensures.list (ap (λ (f : InFlight). f.list) c.finish.ensures.flight) us.1 none (ap (λ (l : Vec Thread Global). l.items) c.deliver.ensures.list)
    (c.deliver.ensures.flight ∙ ap (λ o. after_delivery o c.loop-thrown.self.threads.flight.list) none) i.cells i.sleepers i.clock i.instances i.timeouts i.printed

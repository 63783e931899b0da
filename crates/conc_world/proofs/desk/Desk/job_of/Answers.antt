use Rattle.std.proofs.Common.{◌∙◌, arith, refl, subst, sym}
use Rattle.std.proofs.lemmas.Option.{slice_get_within}
use Rattle.frame_stack.specs.Slicing.{IsDoing}
use Rattle.conc_world.proofs.Making.{may_do, read_at, read_doing, read_goes}
use Rattle.conc_world.proofs.Opening.{fuel_left}
use Rattle.conc_world.proofs.desk.Desk.job_of.Goals as goal

pub index-thread-requires : goal.index-thread-requires
index-thread-requires g c =
    let r = c.args.self.now.course.clocked.«record» in
    let goer = c.requires.goes in
    let within = slice_get_within r.world.threads.list.items c.args.t goer.thread goer.is in
    let long = r.world.threads.list.ok.0 in
    omega (arith, within, long)

pub start_of-requires : goal.start_of-requires
start_of-requires g c =
    let r = c.args.self.now.course.clocked.«record» in
    subst IsDoing (sym c.control.ensures) (read_doing r c.args.t c.requires.goes c.index-thread.result.now c.index-thread.ensures)

pub overflow_sub-left : goal.overflow_sub-left
overflow_sub-left g c =
    let within = c.args.self.now.course.clocked.«record».within in
    let fuel = c.from.ensures in
    let steps = c.steps.ensures in
    omega (arith, within, fuel, steps)

pub invariant_of-result : goal.invariant_of-result
invariant_of-result g c =
    let s = c.args.self.now in
    let r = s.course.clocked.«record» in
    let th = c.index-thread.result.now in
    let start = c.in_ok-start.ensures ∙ c.control.ensures in
    let less = fuel_left s.course.end r c.requires.none s.open_still in
    let fuel = c.from.ensures in
    let steps = c.steps.ensures in
    let budget = c.min.ensures in
    let most = c.from-2.ensures in
    record {
      doing = ∣ subst IsDoing (sym start) (read_doing r c.args.t c.requires.goes th c.index-thread.ensures) ∣₁;
      may = may_do r c.args.t c.requires.goes th c.index-thread.ensures c.of.result.value c.mask.result c.in_ok-start.start (c.of.ensures ∙ c.deref-body.ensures ∙ s.of_code) c.mask.ensures.inside start;
      some = omega (arith, less, fuel, steps, budget, most);
      few = omega (arith, budget, most);
    }

pub returns : goal.returns
returns g c =
    let s = c.args.self.now in
    let r = s.course.clocked.«record» in
    let th = c.index-thread.result.now in
    let fuel = c.from.ensures in
    let steps = c.steps.ensures in
    let budget = c.min.ensures in
    let most = c.from-2.ensures in
    record {
      ok = (
        record {
          thread = th;
          is = read_at r c.args.t c.requires.goes th c.index-thread.ensures;
          goes = read_goes r c.args.t c.requires.goes th c.index-thread.ensures;
          start = c.in_ok-start.ensures ∙ c.control.ensures;
          mask = c.mask.ensures.inside;
          budget = omega (arith, budget, most, fuel, steps);
          code = c.of.ensures ∙ c.deref-body.ensures ∙ s.of_code;
        },
        refl,
        refl,
      );
    }

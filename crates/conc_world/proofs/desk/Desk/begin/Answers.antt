use Rattle.std.proofs.Common.{sym, ap, ◌∙◌}
use Rattle.rules_code.specs.Codes.{body_of}
use Rattle.run_course.specs.declared.history.record.Record.{Record}
use Rattle.conc_world.proofs.Desks.{code_alike, concluded_open, idle_few, idle_knows}
use Rattle.conc_world.proofs.desk.Desk.begin.Goals as goal

pub invariant_of-result : goal.invariant_of-result
invariant_of-result g c =
    let old = c.begin-course.result.clocked.«record» in
    let new = c.conclude.new.self.clocked.«record» in
    let first = ap (λ k. k.«record») c.begin-course.ensures.clocked ∙ c.begin-clocked.ensures.«record» in
    record {
      of_code = code_alike (body_of c.args.code) old new (sym (ap (λ (r : Record). r.of.value) first ∙ c.in-Ok.ensures.code)) c.conclude.ensures.same;
      open_still = ∣ concluded_open c.conclude.new.self.end new c.conclude.ensures.concluded ∣₁;
      few = idle_few c.new.result 0 c.new.ensures;
      knows = ∣ idle_knows c.new.result new.history.list c.new.ensures ∣₁;
    }

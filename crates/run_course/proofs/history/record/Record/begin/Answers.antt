use Rattle.std.proofs.Common.{[], refl, ap, ◌∙◌, arith}
use Rattle.rules_expansion.specs.trees.Programs.{script_of}
use Rattle.rules_code.specs.Codes.{body_of}
use Rattle.slot_states.specs.SlotStates.{SlotState}
use Rattle.run_course.proofs.history_lemmas.Begun.{live_begins, within_begun}
use Rattle.run_course.proofs.history_lemmas.GoingOn.{relisted_live, relisted_stays, relisted_steps}
use Rattle.run_course.proofs.history.record.Record.begin.Goals as goal

pub invariant_of-result : goal.invariant_of-result
invariant_of-result c =
    let b = c.of.result.value in
    let w = c.in_ok-world.world in
    let first = c.in_ok-world.ensures b (c.of.ensures ∙ c.deref-body.ensures) in
    record {
      after = relisted_live b [] c.new.result.list w c.new.ensures (live_begins b w first);
      within = relisted_steps [] c.new.result.list c.args.fuel c.new.ensures (omega arith);
      few = omega arith;
      limited = relisted_stays c.args.limits (script_of b.of.value) [] c.new.result.list c.new.ensures (within_begun b w first c.args.limits c.requires);
    }

pub returns-clause-clock : goal.returns-clause-clock
returns-clause-clock c = ap (λ (x : SlotState). x.clock) (c.in_ok-world.ensures (body_of c.args.code.now) refl)

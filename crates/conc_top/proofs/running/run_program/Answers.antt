use Rattle.std.proofs.Common.{sym, ap, subst, ◌∙◌}
use Rattle.std.specs.Prelude.{IsSome}
use Rattle.rules_code.specs.Codes.{body_of}
use Rattle.conc_top.proofs.Playing.{has_run, same_shown, shipped}
use Rattle.conc_top.proofs.running.run_program.Goals as goal

-- what was closed is the run of the script, by what the calls leave
pub returns-in-Ok-clause-run : goal.returns-in-Ok-clause-run
returns-in-Ok-clause-run g c =
    let desk = c.run_desk.result in
    let parts = c.close.result.parts in
    let kept = c.run_desk.ensures in
    let plan = kept.plan in
    let handed = c.in-Ok.ensures.lent in
    let limits = c.shipped.ensures in
    let same = same_shown g.O.Sink.told g.O.Sink.faults g.E.Sink.told g.E.Sink.faults g.K.Clock.last g.K.Clock.early_waits
    c.args.parts.out desk.course.out_lent.value c.args.parts.err desk.course.err_lent.value c.choose.new.self desk.course.clocked.lent.value
    (kept.output ∙ ap g.O.Sink.told handed.0) (kept.errors ∙ ap g.E.Sink.told handed.1)
    (ap (λ p. p.out_faults) plan ∙ ap g.O.Sink.faults handed.0) (ap (λ p. p.err_faults) plan ∙ ap g.E.Sink.faults handed.1)
    (kept.last ∙ ap g.K.Clock.last handed.2) (ap (λ p. p.early) plan ∙ ap g.K.Clock.early_waits handed.2) in
    has_run g.O.Sink.told g.O.Sink.faults g.E.Sink.told g.E.Sink.faults g.K.Clock.last g.K.Clock.early_waits
    _ c.args.program.fuel (body_of c.args.program.code).of.value c.close.result.end c.close.result.history.list
    c.args.parts.out desk.course.out_lent.value parts.out c.args.parts.err desk.course.err_lent.value parts.err
    c.args.parts.clock c.choose.new.self desk.course.clocked.lent.value parts.clock
    same c.choose.ensures.counted
    (ap (λ p. p.body.of.value) plan ∙ ap (λ b. b.of.value) c.in-Ok.ensures.code.1)
    (ap (λ p. p.fuel) plan ∙ c.in-Ok.ensures.plan.0)
    (ap (λ p. p.limits) plan ∙ c.in-Ok.ensures.plan.1 ∙ shipped c.shipped.result limits.threads limits.cells limits.frames limits.output)
    (subst IsSome (sym c.close.ensures.end) kept.ended)
    c.close.ensures.run c.close.ensures.faults.0 c.close.ensures.faults.1 c.close.ensures.faults.2

pub returns-in-Ok-clause-choice : goal.returns-in-Ok-clause-choice
returns-in-Ok-clause-choice g c =
    c.close.ensures.choice ∙ ap (λ p. p.choice) c.run_desk.ensures.plan ∙ ap g.K.Clock.choice c.in-Ok.ensures.lent.2 ∙ c.choose.ensures.chosen

pub returns-in-Err-clause-err : goal.returns-in-Err-clause-err
returns-in-Err-clause-err g c =
    let back = c.in-Err.ensures.err in
    (back.0, back.1, ap g.K.Clock.choice back.2 ∙ c.choose.ensures.chosen, ap g.K.Clock.early_waits back.2 ∙ c.choose.ensures.counted)

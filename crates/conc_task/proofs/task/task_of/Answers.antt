use Rattle.std.proofs.Common.{ap, refl, ◌∙◌}
use Rattle.std.specs.Prelude.{Some}
use Rattle.std.proofs.lemmas.Result.{err_from_is_err_and}
use Rattle.conc_task.specs.declared.words.command.Command.TheVariants.{Check, Claims, Haskell, Outcomes, Run, Trace}
use Rattle.conc_task.proofs.Tasks.{checked, claims_sought, replay_none, replayed, ring_none, ring_task, run_task, searched, source_none, traced_program, unclear}
use Rattle.conc_task.proofs.task.task_of.Goals as goal

pub returns-in_err-capabilities-clause-comes : goal.returns-in_err-capabilities-clause-comes
returns-in_err-capabilities-clause-comes g c =
    let p = err_from_is_err_and c.from_residual.result c.from_residual.ensures.1 in
    rw (p.1, p.2) (unclear _ _ _ _ c.in_err-capabilities.field-0.0 refl c.in_err-capabilities.ensures.exact)

pub returns-in_err-code-in-Run-clause-comes : goal.returns-in_err-code-in-Run-clause-comes
returns-in_err-code-in-Run-clause-comes g c =
    let p = err_from_is_err_and c.from_residual-in_err-code-in-Run.result c.from_residual-in_err-code-in-Run.ensures.1 in
    rw (p.1, p.2)
    (source_none _ (Run c.in-Run.capabilities c.in-Run.fuel c.in-Run.clock) _ _ _ c.in_err-code-in-Run.field-0.0 (c.in_ok-capabilities.ensures.exact ∙ ap Some c.in-Run.is) tt c.in_err-code-in-Run.ensures.comes)

pub returns-in_ok-read_checked-in-Check-clause-comes : goal.returns-in_ok-read_checked-in-Check-clause-comes
returns-in_ok-read_checked-in-Check-clause-comes g c = checked _ _ _ (c.in_ok-capabilities.ensures.exact ∙ ap Some c.in-Check.is) (_, c.in_ok-read_checked-in-Check.ensures.comes)

pub returns-in_err-read_checked-in-Check-clause-comes : goal.returns-in_err-read_checked-in-Check-clause-comes
returns-in_err-read_checked-in-Check-clause-comes g c =
    let p = err_from_is_err_and c.from_residual-in_err-read_checked-in-Check.result c.from_residual-in_err-read_checked-in-Check.ensures.1 in
    rw (p.1, p.2) (source_none _ Check _ _ _ c.in_err-read_checked-in-Check.field-0.0 (c.in_ok-capabilities.ensures.exact ∙ ap Some c.in-Check.is) tt c.in_err-read_checked-in-Check.ensures.comes)

pub returns-in_err-code-in-Bench-clause-comes : goal.returns-in_err-code-in-Bench-clause-comes
returns-in_err-code-in-Bench-clause-comes g c =
    let p = err_from_is_err_and c.from_residual-in_err-code-in-Bench.result c.from_residual-in_err-code-in-Bench.ensures.1 in
    rw (p.1, p.2)
    (ring_none _ c.in-Bench.threads c.in-Bench.capabilities c.in-Bench.fuel _ _ _ c.in_err-code-in-Bench.field-0.0 (c.in_ok-capabilities.ensures.exact ∙ ap Some c.in-Bench.is) c.in_err-code-in-Bench.ensures)

pub returns-in_ok-code-in-Run-clause-comes : goal.returns-in_ok-code-in-Run-clause-comes
returns-in_ok-code-in-Run-clause-comes g c =
    run_task _ c.in-Run.capabilities c.in-Run.fuel c.in-Run.clock _ _ _ (c.in_ok-capabilities.ensures.exact ∙ ap Some c.in-Run.is) c.in_ok-code-in-Run.ensures.comes

pub returns-in_ok-code-in-Bench-clause-comes : goal.returns-in_ok-code-in-Bench-clause-comes
returns-in_ok-code-in-Bench-clause-comes g c =
    ring_task _ c.in-Bench.threads c.in-Bench.capabilities c.in-Bench.fuel _ _ _ (c.in_ok-capabilities.ensures.exact ∙ ap Some c.in-Bench.is) c.in_ok-code-in-Bench.ensures

pub returns-in_ok-code-in-Trace-clause-comes : goal.returns-in_ok-code-in-Trace-clause-comes
returns-in_ok-code-in-Trace-clause-comes g c =
    traced_program _ c.in-Trace.capabilities c.in-Trace.fuel c.in-Trace.clock _ _ _ _ (c.in_ok-capabilities.ensures.exact ∙ ap Some c.in-Trace.is) c.in_ok-code-in-Trace.ensures.comes

pub returns-in_err-code-in-Trace-clause-comes : goal.returns-in_err-code-in-Trace-clause-comes
returns-in_err-code-in-Trace-clause-comes g c =
    let p = err_from_is_err_and c.from_residual-in_err-code-in-Trace.result c.from_residual-in_err-code-in-Trace.ensures.1 in
    rw (p.1, p.2)
    (source_none _ (Trace c.in-Trace.capabilities c.in-Trace.fuel c.in-Trace.clock) _ _ _ c.in_err-code-in-Trace.field-0.0 (c.in_ok-capabilities.ensures.exact ∙ ap Some c.in-Trace.is) tt c.in_err-code-in-Trace.ensures.comes)

pub returns-in_ok-sought-in-Outcomes-clause-comes : goal.returns-in_ok-sought-in-Outcomes-clause-comes
returns-in_ok-sought-in-Outcomes-clause-comes g c =
    searched _ c.in-Outcomes.clock c.in-Outcomes.states c.in-Outcomes.fuel c.in-Outcomes.witness _ _ _ (c.in_ok-capabilities.ensures.exact ∙ ap Some c.in-Outcomes.is) c.in_ok-sought-in-Outcomes.ensures.comes

pub returns-in_err-sought-in-Outcomes-clause-comes : goal.returns-in_err-sought-in-Outcomes-clause-comes
returns-in_err-sought-in-Outcomes-clause-comes g c =
    let p = err_from_is_err_and c.from_residual-in_err-sought-in-Outcomes.result c.from_residual-in_err-sought-in-Outcomes.ensures.1 in
    rw (p.1, p.2)
    (source_none _ (Outcomes c.in-Outcomes.clock c.in-Outcomes.states c.in-Outcomes.fuel c.in-Outcomes.witness) _ _ _ c.in_err-sought-in-Outcomes.field-0.0
    (c.in_ok-capabilities.ensures.exact ∙ ap Some c.in-Outcomes.is) tt c.in_err-sought-in-Outcomes.ensures.comes)

pub returns-in_ok-sought-in-Claims-clause-comes : goal.returns-in_ok-sought-in-Claims-clause-comes
returns-in_ok-sought-in-Claims-clause-comes g c =
    claims_sought _ c.in-Claims.clock c.in-Claims.states c.in-Claims.fuel _ _ _ (c.in_ok-capabilities.ensures.exact ∙ ap Some c.in-Claims.is) c.in_ok-sought-in-Claims.ensures.comes

pub returns-in_err-sought-in-Claims-clause-comes : goal.returns-in_err-sought-in-Claims-clause-comes
returns-in_err-sought-in-Claims-clause-comes g c =
    let p = err_from_is_err_and c.from_residual-in_err-sought-in-Claims.result c.from_residual-in_err-sought-in-Claims.ensures.1 in
    rw (p.1, p.2)
    (source_none _ (Claims c.in-Claims.clock c.in-Claims.states c.in-Claims.fuel) _ _ _ c.in_err-sought-in-Claims.field-0.0
    (c.in_ok-capabilities.ensures.exact ∙ ap Some c.in-Claims.is) tt c.in_err-sought-in-Claims.ensures.comes)

pub returns-in_ok-script-in-Haskell-clause-comes : goal.returns-in_ok-script-in-Haskell-clause-comes
returns-in_ok-script-in-Haskell-clause-comes g c = (c.in_ok-capabilities.ensures.exact ∙ ap Some c.in-Haskell.is, c.in_ok-script-in-Haskell.ensures.comes)

pub returns-in_err-script-in-Haskell-clause-comes : goal.returns-in_err-script-in-Haskell-clause-comes
returns-in_err-script-in-Haskell-clause-comes g c =
    let p = err_from_is_err_and c.from_residual-in_err-script-in-Haskell.result c.from_residual-in_err-script-in-Haskell.ensures.1 in
    rw (p.1, p.2) (source_none _ Haskell _ _ _ c.in_err-script-in-Haskell.field-0.0 (c.in_ok-capabilities.ensures.exact ∙ ap Some c.in-Haskell.is) tt c.in_err-script-in-Haskell.ensures.comes)

pub returns-in_ok-replay-in-Ask-clause-comes : goal.returns-in_ok-replay-in-Ask-clause-comes
returns-in_ok-replay-in-Ask-clause-comes g c =
    replayed _ _ _ c.in-Ask.question c.in_ok-replay-in-Ask.replay (c.in_ok-capabilities.ensures.exact ∙ ap Some c.in-Ask.is) (c.in_ok-replay-in-Ask.ensures.comes c.in-Ask.question)

pub returns-in_err-replay-in-Ask-clause-comes : goal.returns-in_err-replay-in-Ask-clause-comes
returns-in_err-replay-in-Ask-clause-comes g c =
    let p = err_from_is_err_and c.from_residual-in_err-replay-in-Ask.result c.from_residual-in_err-replay-in-Ask.ensures.1 in
    rw (p.1, p.2) (replay_none _ c.in-Ask.question _ _ _ c.in_err-replay-in-Ask.field-0.0 (c.in_ok-capabilities.ensures.exact ∙ ap Some c.in-Ask.is) (c.in_err-replay-in-Ask.ensures.comes c.in-Ask.question))

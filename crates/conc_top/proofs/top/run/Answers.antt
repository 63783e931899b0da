use Rattle.std.proofs.Common.{ap, inr, subst}
use Rattle.conc_task.specs.Commands.{Traces}
use Rattle.conc_top.proofs.Complete.{is_expected, is_refusal, is_verdict}
use Rattle.conc_top.proofs.Playing.{has_program, played_ran, program_call, program_due}
use Rattle.conc_top.proofs.Answering.{answer_call, answer_due, answer_fault, answer_steady, answer_written, checked_call, checked_due, has_checked, never_rose}
use Rattle.conc_top.proofs.Histories.{has_traced, trace_call, trace_written}
use Rattle.conc_top.proofs.Shown.{accepted_none, played_none, show_call, show_due, show_told, shows_none, stopped_none}
use Rattle.conc_top.proofs.Asked.{asked_answers, asked_traces, has_asked, has_number, is_short}
use Rattle.conc_top.proofs.top.run.Goals as goal

-- ---- a script runs

pub returns-in-Ok-Run-clause-cause : goal.returns-in-Ok-Run-clause-cause
returns-in-Ok-Run-clause-cause g c =
    program_due _ _ _ _ _ c.in-Ok-Run.program c.play.result.ending (has_program _ _ _ _ _ c.in-Ok-Run.field-0-is c.in-Ok-Run.ensures.comes).0 c.play.ensures.cause

pub returns-in-Ok-Run-clause-complete : goal.returns-in-Ok-Run-clause-complete
returns-in-Ok-Run-clause-complete g c =
    is_expected _ _ _ _ _ c.play.result.ending
    (program_due _ _ _ _ _ c.in-Ok-Run.program c.play.result.ending (has_program _ _ _ _ _ c.in-Ok-Run.field-0-is c.in-Ok-Run.ensures.comes).0 c.play.ensures.cause)

pub returns-in-Ok-Run-clause-refusal : goal.returns-in-Ok-Run-clause-refusal
returns-in-Ok-Run-clause-refusal g c =
    is_refusal _ _ _ _ _ c.play.result.ending
    (program_due _ _ _ _ _ c.in-Ok-Run.program c.play.result.ending (has_program _ _ _ _ _ c.in-Ok-Run.field-0-is c.in-Ok-Run.ensures.comes).0 c.play.ensures.cause)

pub returns-in-Ok-Run-clause-verdict : goal.returns-in-Ok-Run-clause-verdict
returns-in-Ok-Run-clause-verdict g c =
    is_verdict _ _ _ _ _ c.play.result.ending
    (program_due _ _ _ _ _ c.in-Ok-Run.program c.play.result.ending (has_program _ _ _ _ _ c.in-Ok-Run.field-0-is c.in-Ok-Run.ensures.comes).0 c.play.ensures.cause)

pub returns-in-Ok-Run-clause-call : goal.returns-in-Ok-Run-clause-call
returns-in-Ok-Run-clause-call g c =
    program_call _ _ _ _ _ _ _ c.in-Ok-Run.program c.play.result.ending c.play.result.history.list _ _ (has_program _ _ _ _ _ c.in-Ok-Run.field-0-is c.in-Ok-Run.ensures.comes)
    c.in-Ok-Run.ensures.counts c.play.ensures.choice c.play.ensures.plays

pub returns-in-Ok-Run-clause-written : goal.returns-in-Ok-Run-clause-written
returns-in-Ok-Run-clause-written g c = λ bytes traces left. absurd ((has_program _ _ _ _ _ c.in-Ok-Run.field-0-is c.in-Ok-Run.ensures.comes).1 traces)

pub returns-in-Ok-Run-clause-shown : goal.returns-in-Ok-Run-clause-shown
returns-in-Ok-Run-clause-shown g c = λ bytes left. shows_none _ bytes _ _ _ _ c.play.result.ending (played_none _ c.play.result.ending c.play.ensures.cause)

pub returns-in-Ok-Run-clause-rose : goal.returns-in-Ok-Run-clause-rose
returns-in-Ok-Run-clause-rose g c = λ rose. absurd (never_rose _ _ c.in-Ok-Run.ensures.counts rose)

pub returns-in-Ok-Run-clause-steady : goal.returns-in-Ok-Run-clause-steady
returns-in-Ok-Run-clause-steady g c = λ none. c.in-Ok-Run.ensures.counts

pub returns-in-Ok-Run-clause-unclocked : goal.returns-in-Ok-Run-clause-unclocked
returns-in-Ok-Run-clause-unclocked g c = λ none.
    absurd (none (c.in-Ok-Run.program.fuel, c.in-Ok-Run.program.clock, (has_program _ _ _ _ _ c.in-Ok-Run.field-0-is c.in-Ok-Run.ensures.comes).0.runs))

pub returns-in-Ok-Run-clause-unrun : goal.returns-in-Ok-Run-clause-unrun
returns-in-Ok-Run-clause-unrun g c = λ unrun. absurd (played_ran _ c.play.result.ending c.play.ensures.cause unrun)

pub returns-in-Ok-Run-clause-choice : goal.returns-in-Ok-Run-clause-choice
returns-in-Ok-Run-clause-choice g c =
    inr (c.in-Ok-Run.program.fuel, c.in-Ok-Run.program.clock, (has_program _ _ _ _ _ c.in-Ok-Run.field-0-is c.in-Ok-Run.ensures.comes).0.runs, c.play.ensures.choice)

-- ---- a script is accepted

pub returns-in-Ok-Accept-clause-cause : goal.returns-in-Ok-Accept-clause-cause
returns-in-Ok-Accept-clause-cause g c =
    checked_due _ _ _ _ c.tell_accepted.result.ending _ _ _ _ _ _ (has_checked _ _ _ _ c.in-Ok-Accept.field-0-is c.in-Ok-Accept.ensures.comes) c.tell_accepted.ensures.tells

pub returns-in-Ok-Accept-clause-complete : goal.returns-in-Ok-Accept-clause-complete
returns-in-Ok-Accept-clause-complete g c =
    is_expected _ _ _ _ _ c.tell_accepted.result.ending
    (checked_due _ _ _ _ c.tell_accepted.result.ending _ _ _ _ _ _ (has_checked _ _ _ _ c.in-Ok-Accept.field-0-is c.in-Ok-Accept.ensures.comes) c.tell_accepted.ensures.tells)

pub returns-in-Ok-Accept-clause-refusal : goal.returns-in-Ok-Accept-clause-refusal
returns-in-Ok-Accept-clause-refusal g c =
    is_refusal _ _ _ _ _ c.tell_accepted.result.ending
    (checked_due _ _ _ _ c.tell_accepted.result.ending _ _ _ _ _ _ (has_checked _ _ _ _ c.in-Ok-Accept.field-0-is c.in-Ok-Accept.ensures.comes) c.tell_accepted.ensures.tells)

pub returns-in-Ok-Accept-clause-verdict : goal.returns-in-Ok-Accept-clause-verdict
returns-in-Ok-Accept-clause-verdict g c =
    is_verdict _ _ _ _ _ c.tell_accepted.result.ending
    (checked_due _ _ _ _ c.tell_accepted.result.ending _ _ _ _ _ _ (has_checked _ _ _ _ c.in-Ok-Accept.field-0-is c.in-Ok-Accept.ensures.comes) c.tell_accepted.ensures.tells)

pub returns-in-Ok-Accept-clause-call : goal.returns-in-Ok-Accept-clause-call
returns-in-Ok-Accept-clause-call g c =
    ∣ checked_call _ _ _ _ _ _ _ c.tell_accepted.result.ending c.tell_accepted.result.history.list _ _ (has_checked _ _ _ _ c.in-Ok-Accept.field-0-is c.in-Ok-Accept.ensures.comes)
    c.in-Ok-Accept.ensures.counts c.tell_accepted.ensures.history
    (ap g.E.Sink.told c.tell_accepted.ensures.kept.0) (ap g.E.Sink.faults c.tell_accepted.ensures.kept.0) (ap g.K.Clock.early_waits c.tell_accepted.ensures.kept.1) c.tell_accepted.ensures.tells ∣₁

pub returns-in-Ok-Accept-clause-written : goal.returns-in-Ok-Accept-clause-written
returns-in-Ok-Accept-clause-written g c = λ bytes traces left.
    absurd (subst Traces (has_checked _ _ _ _ c.in-Ok-Accept.field-0-is c.in-Ok-Accept.ensures.comes).checks traces)

pub returns-in-Ok-Accept-clause-shown : goal.returns-in-Ok-Accept-clause-shown
returns-in-Ok-Accept-clause-shown g c = λ bytes left. shows_none _ bytes _ _ _ _ c.tell_accepted.result.ending (accepted_none c.tell_accepted.result.ending _ _ _ _ c.tell_accepted.ensures.tells)

pub returns-in-Ok-Accept-clause-rose : goal.returns-in-Ok-Accept-clause-rose
returns-in-Ok-Accept-clause-rose g c = λ rose. absurd (never_rose _ _ c.in-Ok-Accept.ensures.counts rose)

pub returns-in-Ok-Accept-clause-steady : goal.returns-in-Ok-Accept-clause-steady
returns-in-Ok-Accept-clause-steady g c = λ none. c.in-Ok-Accept.ensures.counts

pub returns-in-Ok-Accept-clause-unclocked : goal.returns-in-Ok-Accept-clause-unclocked
returns-in-Ok-Accept-clause-unclocked g c = λ none. c.tell_accepted.ensures.kept.1

pub returns-in-Ok-Accept-clause-unrun : goal.returns-in-Ok-Accept-clause-unrun
returns-in-Ok-Accept-clause-unrun g c = λ unrun. c.tell_accepted.ensures.kept.1

-- ---- a history is written

pub returns-in-Ok-Trace-clause-cause : goal.returns-in-Ok-Trace-clause-cause
returns-in-Ok-Trace-clause-cause g c =
    program_due _ _ _ _ _ c.in-Ok-Trace.program c.trace.result.ending (has_traced _ _ _ _ _ _ c.in-Ok-Trace.field-0-is c.in-Ok-Trace.ensures.comes).made c.trace.ensures.cause

pub returns-in-Ok-Trace-clause-complete : goal.returns-in-Ok-Trace-clause-complete
returns-in-Ok-Trace-clause-complete g c =
    is_expected _ _ _ _ _ c.trace.result.ending
    (program_due _ _ _ _ _ c.in-Ok-Trace.program c.trace.result.ending (has_traced _ _ _ _ _ _ c.in-Ok-Trace.field-0-is c.in-Ok-Trace.ensures.comes).made c.trace.ensures.cause)

pub returns-in-Ok-Trace-clause-refusal : goal.returns-in-Ok-Trace-clause-refusal
returns-in-Ok-Trace-clause-refusal g c =
    is_refusal _ _ _ _ _ c.trace.result.ending
    (program_due _ _ _ _ _ c.in-Ok-Trace.program c.trace.result.ending (has_traced _ _ _ _ _ _ c.in-Ok-Trace.field-0-is c.in-Ok-Trace.ensures.comes).made c.trace.ensures.cause)

pub returns-in-Ok-Trace-clause-verdict : goal.returns-in-Ok-Trace-clause-verdict
returns-in-Ok-Trace-clause-verdict g c =
    is_verdict _ _ _ _ _ c.trace.result.ending
    (program_due _ _ _ _ _ c.in-Ok-Trace.program c.trace.result.ending (has_traced _ _ _ _ _ _ c.in-Ok-Trace.field-0-is c.in-Ok-Trace.ensures.comes).made c.trace.ensures.cause)

pub returns-in-Ok-Trace-clause-call : goal.returns-in-Ok-Trace-clause-call
returns-in-Ok-Trace-clause-call g c =
    trace_call _ _ _ _ _ _ _ c.in-Ok-Trace.program c.in-Ok-Trace.bytes.items (has_traced _ _ _ _ _ _ c.in-Ok-Trace.field-0-is c.in-Ok-Trace.ensures.comes)
    c.trace.result.ending c.trace.result.history.list _ _ c.deref.result.now c.deref.ensures.value c.in-Ok-Trace.ensures.counts c.trace.ensures.choice c.trace.ensures.writes

pub returns-in-Ok-Trace-clause-written : goal.returns-in-Ok-Trace-clause-written
returns-in-Ok-Trace-clause-written g c =
    trace_written _ _ _ c.in-Ok-Trace.program c.in-Ok-Trace.bytes.items c.deref.result.now c.trace.result.ending c.trace.result.history.list _ _
    (has_traced _ _ _ _ _ _ c.in-Ok-Trace.field-0-is c.in-Ok-Trace.ensures.comes) c.deref.ensures.value c.trace.ensures.written

pub returns-in-Ok-Trace-clause-shown : goal.returns-in-Ok-Trace-clause-shown
returns-in-Ok-Trace-clause-shown g c = λ bytes left. shows_none _ bytes _ _ _ _ c.trace.result.ending (played_none _ c.trace.result.ending c.trace.ensures.cause)

pub returns-in-Ok-Trace-clause-rose : goal.returns-in-Ok-Trace-clause-rose
returns-in-Ok-Trace-clause-rose g c = λ rose. absurd (never_rose _ _ c.in-Ok-Trace.ensures.counts rose)

pub returns-in-Ok-Trace-clause-steady : goal.returns-in-Ok-Trace-clause-steady
returns-in-Ok-Trace-clause-steady g c = λ none. c.in-Ok-Trace.ensures.counts

pub returns-in-Ok-Trace-clause-unclocked : goal.returns-in-Ok-Trace-clause-unclocked
returns-in-Ok-Trace-clause-unclocked g c = λ none.
    absurd (none (c.in-Ok-Trace.program.fuel, c.in-Ok-Trace.program.clock, (has_traced _ _ _ _ _ _ c.in-Ok-Trace.field-0-is c.in-Ok-Trace.ensures.comes).made.runs))

pub returns-in-Ok-Trace-clause-unrun : goal.returns-in-Ok-Trace-clause-unrun
returns-in-Ok-Trace-clause-unrun g c = λ unrun. absurd (played_ran _ c.trace.result.ending c.trace.ensures.cause unrun)

pub returns-in-Ok-Trace-clause-choice : goal.returns-in-Ok-Trace-clause-choice
returns-in-Ok-Trace-clause-choice g c =
    inr (c.in-Ok-Trace.program.fuel, c.in-Ok-Trace.program.clock, (has_traced _ _ _ _ _ _ c.in-Ok-Trace.field-0-is c.in-Ok-Trace.ensures.comes).made.runs, c.trace.ensures.choice)

-- ---- something is shown without a run

pub show-requires-clause-number : goal.show-requires-clause-number
show-requires-clause-number g c = has_number _ c.in-Ok-Show.asked c.in-Ok-Show.field-0-is c.in-Ok-Show.ensures.number

pub show-requires-clause-short : goal.show-requires-clause-short
show-requires-clause-short g c = is_short _ _ _ c.in-Ok-Show.asked (has_asked _ _ _ _ c.in-Ok-Show.asked c.in-Ok-Show.field-0-is c.in-Ok-Show.ensures.comes)

pub returns-in-Ok-Show-clause-cause : goal.returns-in-Ok-Show-clause-cause
returns-in-Ok-Show-clause-cause g c =
    show_due _ c.show.result.ending _ _ _ _ _ _ _ _ (asked_answers _ _ _ c.in-Ok-Show.asked (has_asked _ _ _ _ c.in-Ok-Show.asked c.in-Ok-Show.field-0-is c.in-Ok-Show.ensures.comes) _ _) c.show.ensures.tells

pub returns-in-Ok-Show-clause-complete : goal.returns-in-Ok-Show-clause-complete
returns-in-Ok-Show-clause-complete g c =
    is_expected _ _ _ _ _ c.show.result.ending
    (show_due _ c.show.result.ending _ _ _ _ _ _ _ _ (asked_answers _ _ _ c.in-Ok-Show.asked (has_asked _ _ _ _ c.in-Ok-Show.asked c.in-Ok-Show.field-0-is c.in-Ok-Show.ensures.comes) _ _) c.show.ensures.tells)

pub returns-in-Ok-Show-clause-refusal : goal.returns-in-Ok-Show-clause-refusal
returns-in-Ok-Show-clause-refusal g c =
    is_refusal _ _ _ _ _ c.show.result.ending
    (show_due _ c.show.result.ending _ _ _ _ _ _ _ _ (asked_answers _ _ _ c.in-Ok-Show.asked (has_asked _ _ _ _ c.in-Ok-Show.asked c.in-Ok-Show.field-0-is c.in-Ok-Show.ensures.comes) _ _) c.show.ensures.tells)

pub returns-in-Ok-Show-clause-verdict : goal.returns-in-Ok-Show-clause-verdict
returns-in-Ok-Show-clause-verdict g c =
    is_verdict _ _ _ _ _ c.show.result.ending
    (show_due _ c.show.result.ending _ _ _ _ _ _ _ _ (asked_answers _ _ _ c.in-Ok-Show.asked (has_asked _ _ _ _ c.in-Ok-Show.asked c.in-Ok-Show.field-0-is c.in-Ok-Show.ensures.comes) _ _) c.show.ensures.tells)

pub returns-in-Ok-Show-clause-call : goal.returns-in-Ok-Show-clause-call
returns-in-Ok-Show-clause-call g c =
    ∣ show_call _ _ _ _ c.show.result.ending c.show.result.history.list _ _
    c.in-Ok-Show.ensures.counts c.show.ensures.history (ap g.K.Clock.early_waits c.show.ensures.clock) (asked_answers _ _ _ c.in-Ok-Show.asked (has_asked _ _ _ _ c.in-Ok-Show.asked c.in-Ok-Show.field-0-is c.in-Ok-Show.ensures.comes) _ _) c.show.ensures.tells ∣₁

pub returns-in-Ok-Show-clause-written : goal.returns-in-Ok-Show-clause-written
returns-in-Ok-Show-clause-written g c = λ bytes traces left.
    absurd (asked_traces _ _ _ c.in-Ok-Show.asked (has_asked _ _ _ _ c.in-Ok-Show.asked c.in-Ok-Show.field-0-is c.in-Ok-Show.ensures.comes) traces)

pub returns-in-Ok-Show-clause-shown : goal.returns-in-Ok-Show-clause-shown
returns-in-Ok-Show-clause-shown g c =
    show_told (Unit {0}) c.show.result.ending _ _ _ _ _ _ _ _ (asked_answers _ _ _ c.in-Ok-Show.asked (has_asked _ _ _ _ c.in-Ok-Show.asked c.in-Ok-Show.field-0-is c.in-Ok-Show.ensures.comes) _ _) c.show.ensures.tells

pub returns-in-Ok-Show-clause-rose : goal.returns-in-Ok-Show-clause-rose
returns-in-Ok-Show-clause-rose g c = λ rose. absurd (never_rose _ _ c.in-Ok-Show.ensures.counts rose)

pub returns-in-Ok-Show-clause-steady : goal.returns-in-Ok-Show-clause-steady
returns-in-Ok-Show-clause-steady g c = λ none. c.in-Ok-Show.ensures.counts

pub returns-in-Ok-Show-clause-unclocked : goal.returns-in-Ok-Show-clause-unclocked
returns-in-Ok-Show-clause-unclocked g c = λ none. c.show.ensures.clock

pub returns-in-Ok-Show-clause-unrun : goal.returns-in-Ok-Show-clause-unrun
returns-in-Ok-Show-clause-unrun g c = λ unrun. c.show.ensures.clock

-- ---- nothing runs, and nothing is accepted

pub returns-in-Err-clause-cause : goal.returns-in-Err-clause-cause
returns-in-Err-clause-cause g c =
    answer_due _ _ _ _ c.in-Err.stop c.ending_of.result c.tell.result.ending _ _ _ _ _ _ c.in-Err.ensures.comes c.ending_of.ensures c.tell.ensures.tells

pub returns-in-Err-clause-complete : goal.returns-in-Err-clause-complete
returns-in-Err-clause-complete g c =
    is_expected _ _ _ _ _ c.tell.result.ending
    (answer_due _ _ _ _ c.in-Err.stop c.ending_of.result c.tell.result.ending _ _ _ _ _ _ c.in-Err.ensures.comes c.ending_of.ensures c.tell.ensures.tells)

pub returns-in-Err-clause-refusal : goal.returns-in-Err-clause-refusal
returns-in-Err-clause-refusal g c =
    is_refusal _ _ _ _ _ c.tell.result.ending
    (answer_due _ _ _ _ c.in-Err.stop c.ending_of.result c.tell.result.ending _ _ _ _ _ _ c.in-Err.ensures.comes c.ending_of.ensures c.tell.ensures.tells)

pub returns-in-Err-clause-verdict : goal.returns-in-Err-clause-verdict
returns-in-Err-clause-verdict g c =
    is_verdict _ _ _ _ _ c.tell.result.ending
    (answer_due _ _ _ _ c.in-Err.stop c.ending_of.result c.tell.result.ending _ _ _ _ _ _ c.in-Err.ensures.comes c.ending_of.ensures c.tell.ensures.tells)

pub returns-in-Err-clause-call : goal.returns-in-Err-clause-call
returns-in-Err-clause-call g c =
    ∣ answer_call _ _ _ _ _ _ _ c.in-Err.stop c.ending_of.result c.tell.result.ending c.tell.result.history.list _ _ c.in-Err.ensures.comes c.in-Err.ensures.counts c.ending_of.ensures
    c.tell.ensures.history (ap g.O.Sink.told c.tell.ensures.kept.0) (ap g.O.Sink.faults c.tell.ensures.kept.0) (ap g.K.Clock.early_waits c.tell.ensures.kept.1) c.tell.ensures.tells ∣₁

pub returns-in-Err-clause-written : goal.returns-in-Err-clause-written
returns-in-Err-clause-written g c = λ bytes traces left.
    answer_written _ c.in-Err.stop c.ending_of.result c.tell.result.ending _ _ _ _ _ _ c.ending_of.ensures (ap g.O.Sink.told c.tell.ensures.kept.0) c.tell.ensures.tells

pub returns-in-Err-clause-shown : goal.returns-in-Err-clause-shown
returns-in-Err-clause-shown g c = λ bytes left.
    shows_none _ bytes _ _ _ _ c.tell.result.ending (stopped_none c.in-Err.stop c.ending_of.result c.tell.result.ending _ _ _ _ c.ending_of.ensures c.tell.ensures.tells)

pub returns-in-Err-clause-rose : goal.returns-in-Err-clause-rose
returns-in-Err-clause-rose g c =
    answer_fault c.in-Err.stop c.ending_of.result c.tell.result.ending _ _ _ _ _ _ c.in-Err.ensures.counts c.ending_of.ensures c.tell.ensures.tells

pub returns-in-Err-clause-steady : goal.returns-in-Err-clause-steady
returns-in-Err-clause-steady g c =
    answer_steady c.in-Err.stop c.ending_of.result c.tell.result.ending _ _ _ _ _ _ c.in-Err.ensures.counts c.ending_of.ensures c.tell.ensures.tells

pub returns-in-Err-clause-unclocked : goal.returns-in-Err-clause-unclocked
returns-in-Err-clause-unclocked g c = λ none. c.tell.ensures.kept.1

pub returns-in-Err-clause-unrun : goal.returns-in-Err-clause-unrun
returns-in-Err-clause-unrun g c = λ unrun. c.tell.ensures.kept.1

use Rattle.std.proofs.Common.{◌≤◌, rules, sym, ap, subst, ◌∙◌, arith}
use Rattle.conc_top.proofs.Playing.{closing_calm, closing_cause, closing_of, closing_plays, gave_up, shown}
use Rattle.conc_top.proofs.top.play.Goals as goal

pub returns-in-Ok : goal.returns-in-Ok
returns-in-Ok g c =
    let has = c.in-Ok.ensures.run in
    let kept = c.end.ensures.kept in
    let closing = closing_of c.args.program.fuel _ c.in-Ok.closed.end c.end.result.ending c.in-Ok.closed.history.list c.end.result.history.list _ _
    (shown g.O.Sink.told g.O.Sink.faults g.E.Sink.told g.E.Sink.faults g.K.Clock.last g.K.Clock.early_waits c.end.result.out c.end.result.err c.end.result.clock)
    has (ap (λ z. z.list) c.end.ensures.history) c.end.ensures.tells
    (record { output = ap g.O.Sink.told kept.0; out_faults = ap g.O.Sink.faults kept.0; last = ap g.K.Clock.last kept.1; early = ap g.K.Clock.early_waits kept.1 }) in
    record {
      status = search rules;
      cause = closing_cause _ _ _ _ _ _ _ _ _ closing;
      plays = closing_plays _ _ _ _ _ _ _ _ _ closing;
      counts = (
        subst (λ o. g.O.Sink.faults c.args.parts.out ≤ g.O.Sink.faults o) (sym kept.0) has.out_counted,
        omega (arith, closing.err_counted, closing.line_counted),
        subst (λ k. g.K.Clock.early_waits c.args.parts.clock ≤ g.K.Clock.early_waits k) (sym kept.1) has.waited,
      );
      calm = λ other. closing_calm _ _ _ _ _ _ _ _ _ closing (λ is. other (c.end.ensures.status ∙ is));
      choice = ap g.K.Clock.choice kept.1 ∙ c.in-Ok.ensures.choice;
    }

pub returns-in-Err-clause-plays : goal.returns-in-Err-clause-plays
returns-in-Err-clause-plays g c = λ bytes accepted.
    ∣ gave_up g.O.Sink.told g.O.Sink.faults g.E.Sink.told g.E.Sink.faults g.K.Clock.last g.K.Clock.early_waits
    c.args.program.fuel bytes c.tell.result.ending c.tell.result.history.list c.args.parts.out c.tell.result.out c.args.parts.err c.in-Err.field-0.err c.tell.result.err c.args.parts.clock c.tell.result.clock
    (c.tell.ensures.kept.0 ∙ c.in-Err.ensures.err.0) c.in-Err.ensures.err.1 (ap g.K.Clock.early_waits c.tell.ensures.kept.1 ∙ c.in-Err.ensures.err.3) c.tell.ensures.history c.tell.ensures.tells ∣₁

use Rattle.std.proofs.Common.{◌≤◌, rules, sym, ap, subst, ◌∙◌}
use Rattle.conc_top.specs.Answers.{Writes}
use Rattle.conc_top.proofs.Playing.{shown}
use Rattle.conc_top.proofs.Histories.{memory_answer, unwritten, wrote, wrote_calm, wrote_cause, wrote_counts, writes}
use Rattle.conc_top.proofs.tracing.trace.Goals as goal

-- what was put is the document of the run
pub returns-in-Ok : goal.returns-in-Ok
returns-in-Ok g c =
    let has = c.in-Ok.ensures.run in
    let put = c.write_closed.ensures.writes in
    let same = c.write_closed.ensures.clock in
    let lent = shown g.O.Sink.told g.O.Sink.faults g.E.Sink.told g.E.Sink.faults g.K.Clock.last g.K.Clock.early_waits c.args.parts.out c.args.parts.err c.args.parts.clock in
    let now = shown g.O.Sink.told g.O.Sink.faults g.E.Sink.told g.E.Sink.faults g.K.Clock.last g.K.Clock.early_waits c.write_closed.result.out c.write_closed.result.err c.in-Ok.closed.parts.clock in
    let counts = wrote_counts _ _ _ _ _ _ _ _ _ _ _ _ c.in-Ok.closed.end has.ended put in
    record {
      status = search rules;
      cause = wrote_cause _ _ _ _ _ _ _ _ _ _ _ _ c.in-Ok.closed.end c.args.program.fuel _ _ _ _ _ has put;
      writes = λ accepted.
          subst (λ k. ∥ Writes c.args.program.fuel c.args.bytes.now c.write_closed.result.ending c.write_closed.result.history.list lent (shown g.O.Sink.told g.O.Sink.faults g.E.Sink.told g.E.Sink.faults g.K.Clock.last g.K.Clock.early_waits c.write_closed.result.out c.write_closed.result.err k) ∥₁) (sym same)
          (writes c.args.program.fuel _ c.args.bytes.now c.write_closed.result.ending c.in-Ok.closed.history.list c.write_closed.result.history.list lent now c.in-Ok.closed.end has accepted put);
      written = wrote _ _ _ _ _ _ _ _ _ _ _ _ c.in-Ok.closed.end has.ended put;
      counts = (counts.0, counts.1, subst (λ k. g.K.Clock.early_waits c.args.parts.clock ≤ g.K.Clock.early_waits k) (sym same) has.waited);
      calm = λ other. wrote_calm _ _ _ _ _ _ _ _ _ _ _ _ c.in-Ok.closed.end has.ended put (λ is. other (c.write_closed.ensures.status ∙ is));
      choice = ap g.K.Clock.choice same ∙ c.in-Ok.ensures.choice;
    }

pub returns-in-Err-clause-writes : goal.returns-in-Err-clause-writes
returns-in-Err-clause-writes g c = λ accepted.
    ∣ unwritten c.args.program.fuel c.args.bytes.now c.tell.result.ending c.tell.result.history.list _ _ c.tell.ensures.history
    (ap g.O.Sink.told c.tell.ensures.kept.0) (ap g.O.Sink.faults c.tell.ensures.kept.0) c.tell.ensures.tells ∣₁

pub returns-in-Err-clause-written : goal.returns-in-Err-clause-written
returns-in-Err-clause-written g c = memory_answer _ c.tell.result.ending _ _ _ _ _ _ (ap g.O.Sink.told c.tell.ensures.kept.0) c.tell.ensures.tells

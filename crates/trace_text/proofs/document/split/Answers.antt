use Rattle.std.proofs.Common.{◌∙◌, take, refl, sym, ap}
use Rattle.std.specs.List.{position}
use Rattle.std.specs.Prelude.{◌==◌}
use Rattle.plain_laws.proofs.Lists.{slice_from}
use Rattle.trace_text.specs.spelling.Traces.{script_line}
use Rattle.trace_text.proofs.ScriptLines.{searched_more, searched_all, tested}
use Rattle.trace_text.proofs.document.split.Goals as goal

pub returns-then-starts_with : goal.returns-then-starts_with
unfolding script_line
returns-then-starts_with c =
    let rest = slice_from c.args.document.now c.loop-rest.begin in
    let test = tested _ c.starts_with.result c.starts_with.ensures.value in
    let line = test.0 c.if-starts_with.true in
    (record { begins = c.loop-rest.invariant.begins; line = ap (take 7) (sym rest) ∙ line }, c.loop-rest.invariant.before, refl)

pub returns-in_err-begin : goal.returns-in_err-begin
returns-in_err-begin c =
    let rest = slice_from c.args.document.now c.loop-rest.begin in
    rw c.from_residual.ensures (searched_all c.args.document.now c.loop-rest.begin c.loop-rest.invariant (ap (position (λ b. b == 10)) (sym rest) ∙ (sym c.line_end.ensures ∙ c.in_err-begin.was)))

pub loop-rest-preserved : goal.loop-rest-preserved
unfolding script_line
loop-rest-preserved c =
    let rest = slice_from c.args.document.now c.loop-rest.begin in
    let test = tested _ c.starts_with.result c.starts_with.ensures.value in
    searched_more c.args.document.now c.loop-rest.begin c.in_ok-begin.field-0 c.loop-rest.invariant
    (λ same. test.1 c.if-starts_with.false (ap (take 7) rest ∙ same))
    (ap (position (λ b. b == 10)) (sym rest) ∙ (sym c.line_end.ensures ∙ c.in_ok-begin.was))

use Rattle.std.proofs.Common.{◌+◌, take, drop, sym, ap, ◌∙◌, subst, arith}
use Rattle.std.proofs.lemmas.Result.{err_from_is_err_and}
use Rattle.claim_lines.proofs.Numbered.{AreReadTo, line_end, line_within, line_front, adds_at, fault_at, lines_next, lines_all, lines_refused}
use Rattle.claim_lines.proofs.reading.claims_of.Goals as goal

pub front-requires : goal.front-requires
front-requires c = omega (arith, c.line_len-len.ensures, line_within c.lines.rest.now)

pub returns-in_err-add_line : goal.returns-in_err-add_line
returns-in_err-add_line c =
    let p = err_from_is_err_and c.from_residual.result c.from_residual.ensures.1 in
    rw (p.1, p.2)
    (lines_refused c.args.text.now c.lines.rest.now c.lines.claims c.lines.number c.in_err-add_line.field-0.0 c.lines.invariant
    (fault_at (take (line_end c.lines.rest.now) c.lines.rest.now) c.front.result.now c.lines.number c.in_err-add_line.field-0.0
    (line_front c.lines.rest.now c.front.result.now c.line_len-len.result c.line_len-len.ensures c.front.ensures)
    c.in_err-add_line.ensures))

pub returns-then-len-rest : goal.returns-then-len-rest
returns-then-len-rest c =
    lines_all c.args.text.now c.lines.rest.now c.lines.claims c.add_line.new.claims c.lines.number c.lines.invariant
    (adds_at (take (line_end c.lines.rest.now) c.lines.rest.now) c.front.result.now c.lines.number c.lines.claims c.add_line.new.claims
    (line_front c.lines.rest.now c.front.result.now c.line_len-len.result c.line_len-len.ensures c.front.ensures)
    c.in_ok-add_line.ensures)
    (sym c.line_len-len.ensures ∙ c.if-len-rest.true)

pub lines-preserved : goal.lines-preserved
lines-preserved c =
    subst (AreReadTo c.args.text.now c.add_line.new.claims (c.lines.number + 1)) (sym (c.past-rest.ensures ∙ ap (λ k. drop (k + 1) c.lines.rest.now) c.line_len-len.ensures))
    (lines_next c.args.text.now c.lines.rest.now c.lines.claims c.add_line.new.claims c.lines.number c.lines.invariant
    (adds_at (take (line_end c.lines.rest.now) c.lines.rest.now) c.front.result.now c.lines.number c.lines.claims c.add_line.new.claims
    (line_front c.lines.rest.now c.front.result.now c.line_len-len.result c.line_len-len.ensures c.front.ensures)
    c.in_ok-add_line.ensures)
    (omega (arith, line_within c.lines.rest.now, c.line_len-len.ensures, c.if-len-rest.false)))

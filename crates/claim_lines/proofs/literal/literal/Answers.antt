use Rattle.std.proofs.Common.{sym, subst}
use Rattle.std.specs.String.{string_bytes}
use Rattle.claim_lines.proofs.Closings.{IsMeantTo, meant_start, meant_closed, meant_next, meant_none}
use Rattle.claim_lines.proofs.literal.literal.Goals as goal

pub parts-init : goal.parts-init
parts-init c = meant_start c.args.inside.now (string_bytes c.new-text.result) c.new-text.ensures.bytes

pub returns-in-Quote : goal.returns-in-Quote
returns-in-Quote c =
    meant_closed c.args.inside.now c.parts.rest.now (string_bytes c.parts.text) c.in_ok-text-in-Quote.text c.parts.invariant c.in-Quote.ensures c.in_ok-text-in-Quote.ensures

pub parts-preserved : goal.parts-preserved
parts-preserved c =
    subst (λ z. IsMeantTo c.args.inside.now z (string_bytes c.push.new.self)) (sym c.past-rest.ensures)
    (meant_next c.args.inside.now c.parts.rest.now (string_bytes c.parts.text) (string_bytes c.push.new.self) c.in-Character.c c.in-Character.len c.parts.invariant c.in-Character.ensures
    c.in_ok-push-in-Character.ensures.bytes)

pub returns-in-Neither : goal.returns-in-Neither
returns-in-Neither c = meant_none c.args.inside.now c.parts.rest.now (string_bytes c.parts.text) c.parts.invariant c.in-Neither.ensures

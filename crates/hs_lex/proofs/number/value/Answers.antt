use Rattle.std.proofs.Common.{◌≡◌, ◌<◌, ◌≤◌, ◌+◌, ◌-◌, ◌*◌, get_or, take, sym, ap, ◌∙◌, arith}
use Rattle.rules_tokens.specs.Tokens.{number_of, greatest_number}
use Rattle.hs_lex.proofs.Cuts.{item_at}
use Rattle.hs_lex.proofs.Numbers.{number_more, number_front, digit_at, too_big, still_fits}
use Rattle.hs_lex.proofs.number.value.Goals as goal

pub returns-then-value-digit : goal.returns-then-value-digit
returns-then-value-digit c =
    let item : get_or c.args.digits.now c.loop-c.c-index 0 ≡ c.c-item.result = item_at c.args.digits.now c.loop-c.c-index c.c-item.result c.loop-c-test.true c.c-item.is in
    let next = number_more c.args.digits.now c.loop-c.c-index c.c-item.result c.loop-c-test.true item in
    let digit = digit_at c.args.digits.now c.loop-c.c-index c.c-item.result c.requires c.loop-c-test.true item in
    let big : greatest_number < 10 * c.loop-c.value + (c.c-item.result - 48) = too_big c.loop-c.value (c.c-item.result - 48) (omega arith) c.if-value-digit.true in
    let front : number_of (take (c.loop-c.c-index + 1) c.args.digits.now) ≤ number_of c.args.digits.now = number_front c.args.digits.now (c.loop-c.c-index + 1) in
    omega (arith, next, c.loop-c.invariant.0, front, big)

pub loop-c-preserved : goal.loop-c-preserved
loop-c-preserved c =
    let item : get_or c.args.digits.now c.loop-c.c-index 0 ≡ c.c-item.result = item_at c.args.digits.now c.loop-c.c-index c.c-item.result c.loop-c-test.true c.c-item.is in
    let next = number_more c.args.digits.now c.loop-c.c-index c.c-item.result c.loop-c-test.true item in
    let digit = digit_at c.args.digits.now c.loop-c.c-index c.c-item.result c.requires c.loop-c-test.true item in
    (ap (λ k. 10 * k + (c.c-item.result - 48)) c.loop-c.invariant.0 ∙ sym next, still_fits c.loop-c.value (c.c-item.result - 48) (omega arith) c.if-value-digit.false)

use Rattle.std.proofs.Common.{◌<◌, ◌++◌, ◌∷◌, [], None, ap, sym, ◌∙◌, take, length, arith}
use Rattle.hs_base.specs.declared.value.Value.{Value}
use Rattle.rules_waiting.specs.OneCell.{Cell, made}
use Rattle.trace_picture.specs.Looking.{fulls_at}
use Rattle.trace_picture.proofs.Lanes.{fulls_on}
use Rattle.trace_picture.proofs.looking.fulls.Goals as goal

pub loop-m-preserved : goal.loop-m-preserved
loop-m-preserved c =
    let cells = c.args.world.now.cells.cells in
    let m = c.loop-m.m in
    let none : Cell Value = made None in
    let many = c.len-m-end.ensures in
    let less : m < length cells = omega (arith, many, c.loop-m-test.true) in
    c.push_reserved.ensures.items
    ∙ (ap (λ z. z ++ c.in_ok-full.full ∷ []) (c.in_ok-reserve.ensures.items ∙ c.loop-m.invariant)
    ∙ (ap (λ z. fulls_at (take m cells) ++ z ∷ []) c.in_ok-full.ensures
    ∙ sym (fulls_on cells m none less)))

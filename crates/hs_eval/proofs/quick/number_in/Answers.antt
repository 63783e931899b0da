use Rattle.std.proofs.Common.{◌≡◌, IfSome, ◌+◌, ◌-◌, length, sym, ap, ◌∙◌, subst, arith}
use Rattle.rules_meaning.specs.Values.{Gives, Int}
use Rattle.rules_code.specs.Slots.{at_slot}
use Rattle.hs_eval.specs.Evaluation.{mirrored}
use Rattle.hs_eval.proofs.Steps.{outer_slot, inner_slot}
use Rattle.hs_eval.proofs.Operands.{item_is}
use Rattle.hs_eval.proofs.quick.number_in.Goals as goal

pub returns-then-k-outer : goal.returns-then-k-outer
returns-then-k-outer c =
    let outer = c.args.outer.now in
    let told = c.get.ensures.lookup in
    subst (λ z. IfSome c.number_of.result (λ m. at_slot z ≡ Gives (Int m)))
    (ap mirrored (item_is outer c.args.k c.get.result told.3 told.1) ∙ sym (outer_slot outer c.args.inner.now c.args.k c.if-k-outer.true)) c.number_of.ensures

pub returns-else-k-outer : goal.returns-else-k-outer
returns-else-k-outer c =
    let k = c.args.k in
    let outer = c.args.outer.now in
    let inner = c.args.inner.now in
    let e : k ≡ length outer + (k - length outer) = omega arith in
    let told = c.get-else-k-outer.ensures.lookup in
    subst (λ z. IfSome c.number_of-else-k-outer.result (λ m. at_slot z ≡ Gives (Int m)))
    (ap mirrored (item_is inner (k - length outer) c.get-else-k-outer.result told.3 told.1) ∙ sym (inner_slot outer inner k (k - length outer) e)) c.number_of-else-k-outer.ensures

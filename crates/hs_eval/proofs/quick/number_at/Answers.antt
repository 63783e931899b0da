use Rattle.std.proofs.Common.{◌≡◌, ◌<◌, IfSome, Some, sym, ap, ◌∙◌, subst, arith}
use Rattle.std.specs.Prelude.{slice_get}
use Rattle.rules_code.specs.declared.node.Node.TheVariants as n
use Rattle.rules_meaning.specs.Values.{Gives, Int}
use Rattle.hs_eval.specs.Evaluation.{slots}
use Rattle.hs_eval.proofs.Operands.{slot_node}
use Rattle.hs_eval.proofs.quick.number_at.Goals as goal

pub returns-in-Some-Slot : goal.returns-in-Some-Slot
returns-in-Some-Slot c =
    let ns = c.args.nodes.now in
    let id = c.args.id in
    let k = c.in-Some-Slot.k in
    let below : id.0 < c.args.above = omega arith in
    let node : slice_get ns id.0 ≡ Some (n.Slot k) = sym c.in-Some-Slot.ensures.value ∙ ap Some c.in-Some-Slot.field-0-is in
    subst (λ z. IfSome c.number_in.result (λ m. z ≡ Gives (Int m))) (sym (slot_node ns c.args.above id k (slots c.args.outer.now c.args.inner.now) below node)) c.number_in.ensures

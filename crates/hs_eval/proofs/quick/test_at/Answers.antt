use Rattle.std.proofs.Common.{◌≡◌, IfSome, Some, sym, ap, ◌∙◌, subst}
use Rattle.std.specs.Prelude.{slice_get}
use Rattle.rules_code.specs.declared.node.Node.TheVariants as n
use Rattle.rules_meaning.specs.Values.{Gives, Truth}
use Rattle.hs_eval.specs.Evaluation.{slots}
use Rattle.hs_eval.proofs.Operands.{two_node}
use Rattle.hs_eval.proofs.quick.test_at.Goals as goal

pub returns-in-Some-Binary : goal.returns-in-Some-Binary
returns-in-Some-Binary c =
    let ns = c.args.nodes.now in
    let id = c.args.id in
    let f = c.in-Some-Binary.form in
    let i = c.in-Some-Binary.i in
    let j = c.in-Some-Binary.j in
    let node : slice_get ns id.0 ≡ Some (n.Binary f i j) = sym c.in-Some-Binary.ensures.value ∙ ap Some c.in-Some-Binary.field-0-is in
    subst (λ z. IfSome c.compared_at.result (λ t. z ≡ Gives (Truth t))) (sym (two_node ns id i j f (slots c.args.outer.now c.args.inner.now) node)) c.compared_at.ensures

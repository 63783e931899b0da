use Rattle.std.proofs.Common.{◌≡◌, [], Some, None, sym, ap, ◌∙◌, subst, arith, slice_get, slice_index_or}
use Rattle.std.proofs.Math.Logic.{∥∥₁_map}
use Rattle.hs_rules.specs.Terms.{Do, term}
use Rattle.rules_code.specs.declared.act.ActId.{ActId}
use Rattle.rules_code.specs.declared.code.CodeBody.{CodeBody}
use Rattle.rules_code.specs.Codes.{body_of}
use Rattle.rules_meaning.specs.Values.{values_of}
use Rattle.hs_eval.specs.Readings.{Reading}
use Rattle.slot_laws.specs.Expressions.{nodes_evaluated}
use Rattle.lower_tests.proofs.evaluation_lemmas.FirstState.{first_stands, reading_of, first_item}
use Rattle.lower_tests.proofs.evaluation.scripts.performed.Goals as goal

pub eval-requires : goal.eval-requires
eval-requires c =
    let b = body_of c.args.code.now in
    let k = c.in-Some-Perform.field-0.now in
    let e = slice_index_or c.as_slice.result.now 0 (record { 0 = 0 }) in
    let there : slice_get b.acts b.main.0 ≡ Some k = sym (ap (λ (z : ActId). slice_get b.acts z.0) c.main.ensures) ∙ (sym (ap (λ (z : CodeBody). slice_get z.acts c.main.result.0) c.deref.ensures) ∙ sym c.in-Some-Perform.ensures.value) in
    let asked : slice_get (nodes_evaluated k) 0 ≡ Some e = ap (λ z. slice_get (nodes_evaluated z) 0) c.in-Some-Perform.field-0-is ∙ (ap (λ z. slice_get z 0) (sym c.as_slice.ensures) ∙ first_item c.as_slice.result.now (record { 0 = 0 }) (let l = c.in-len1.len_at_least in omega (arith, l))) in
    ∥∥₁_map b.stands (λ w.
    let r = c.actions_are_typed.ensures.main None b.of.value w.accepted in
    let v = c.nodes_may_be_evaluated.ensures.stands None b b.main k there [] [] (term (Do r.0 []) []) (first_stands b w r.0 r.2) 0 e asked in
    subst (Reading b e) (sym (ap values_of c.new.ensures)) (reading_of b (Do r.0 []) 0 e [] v))

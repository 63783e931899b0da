use Rattle.std.proofs.Common.{◌≡◌, ◌+◌, ◌≤◌, List, length, ap, ◌∙◌, sym, refl, arith}
use Rattle.std.specs.Prelude.{slice_get}
use Rattle.hs_base.specs.declared.value.Value.{Value}
use Rattle.rules_code.specs.declared.node.ExprId.{ExprId}
use Rattle.rules_meaning.specs.Values.{Outcome, values_of}
use Rattle.rules_code.specs.Slots.{Sx, run, trees, tree_in}
use Rattle.hs_eval.specs.Founds.{out_of}
use Rattle.hs_eval.proofs.Steps.{all_step, all_throw, all_stuck, all_end}
use Rattle.local_steps.proofs.parts.eval_all.Goals as goal

-- what was found in the values so far is found in the first ones, since they are the same
in_same : (ts : List Sx) (id : ExprId) (us vs : List Value) (o p : Outcome) → o ≡ p → p ≡ run (tree_in ts id) (values_of us) → us ≡ vs → o ≡ run (tree_in ts id) (values_of vs)
in_same ts id us vs o p e h same = e ∙ (h ∙ ap (λ z. run (tree_in ts id) (values_of z)) same)

pub each-preserved : goal.each-preserved
each-preserved c =
    let ts = trees c.args.nodes.now in
    let found = c.in_ok-exn.ensures {u = tt} in
    let id = c.id_at-id.result in
    record {
      same = found.same ∙ c.each.invariant.same;
      values = all_step ts c.args.ids.now c.each.i (c.each.i + 1) id (values_of c.args.env.now) c.each.values c.add.new.self c.in-Value.value _ refl
          (ap (λ z. slice_get z c.each.i) (sym c.as_slice.ensures) ∙ c.id_at-id.ensures) c.each.invariant.values
          (in_same ts id c.each.env c.args.env.now _ _ (ap out_of (sym c.in-Value.is)) found.value c.each.invariant.same)
          (c.in_ok-add-in-Value.ensures {u = tt}).ok;
    }

pub returns-in-Throws-clause-value : goal.returns-in-Throws-clause-value
returns-in-Throws-clause-value c =
    let ts = trees c.args.nodes.now in
    let id = c.id_at-id.result in
    all_throw ts c.args.ids.now c.each.i id (values_of c.args.env.now) c.each.values c.in-Throws.exn _
    (ap (λ z. slice_get z c.each.i) (sym c.as_slice.ensures) ∙ c.id_at-id.ensures) c.each.invariant.values
    (in_same ts id c.each.env c.args.env.now _ _ (ap out_of (sym c.in-Throws.is)) (c.in_ok-exn.ensures {u = tt}).value c.each.invariant.same)

pub returns-in-Stuck-clause-value : goal.returns-in-Stuck-clause-value
returns-in-Stuck-clause-value c =
    let ts = trees c.args.nodes.now in
    let id = c.id_at-id.result in
    all_stuck ts c.args.ids.now c.each.i id (values_of c.args.env.now) c.each.values _
    (ap (λ z. slice_get z c.each.i) (sym c.as_slice.ensures) ∙ c.id_at-id.ensures) c.each.invariant.values
    (in_same ts id c.each.env c.args.env.now _ _ (ap out_of (sym c.in-Stuck.is)) (c.in_ok-exn.ensures {u = tt}).value c.each.invariant.same)

pub returns-clause-value : goal.returns-clause-value
returns-clause-value c =
    let l : length c.args.ids.now ≤ c.each.i = omega arith in
    all_end (trees c.args.nodes.now) c.args.ids.now c.each.i (values_of c.args.env.now) c.each.values _ l c.each.invariant.values

use Rattle.std.proofs.Common.{◌+◌, ◌≤◌, length, take, ap, ◌∙◌, sym, refl, arith}
use Rattle.std.specs.Prelude.{slice_get}
use Rattle.rules_code.specs.Slots.{run, trees, tree_in}
use Rattle.hs_eval.specs.Founds.{out_of}
use Rattle.hs_eval.specs.Evaluation.{slots}
use Rattle.hs_eval.proofs.Steps.{all_step, all_throw, all_stuck, all_end}
use Rattle.hs_eval.proofs.evaluate.Evaluator.+eval.Goals as goal

pub all-each-preserved : goal.all-each-preserved
all-each-preserved t c =
    let ts = take c.args.above (trees c.args.self.nodes.now) in
    let e = c.in_ok-e.ensures {u = tt} in
    record {
      inner = e.1 ∙ c.each.invariant.inner;
      outs = all_step ts c.args.ids.now c.each.i (c.each.i + 1) c.id_at-id.result (slots c.args.self.outer.now c.args.inner.now) c.each.values c.add.new.self c.in-Value.value _ refl
          (ap (λ z. slice_get z c.each.i) (sym c.as_slice.ensures) ∙ c.id_at-id.ensures) c.each.invariant.outs
          (ap out_of (sym c.in-Value.is) ∙ (e.0 ∙ ap (λ z. run (tree_in ts c.id_at-id.result) (slots c.args.self.outer.now z)) c.each.invariant.inner))
          (c.in_ok-add-in-Value.ensures {u = tt}).ok;
    }

pub all-returns-in-Throws : goal.all-returns-in-Throws
all-returns-in-Throws t c =
    let ts = take c.args.above (trees c.args.self.nodes.now) in
    let e = c.in_ok-e.ensures {u = tt} in (
      all_throw ts c.args.ids.now c.each.i c.id_at-id.result (slots c.args.self.outer.now c.args.inner.now) c.each.values c.in-Throws.e _
          (ap (λ z. slice_get z c.each.i) (sym c.as_slice.ensures) ∙ c.id_at-id.ensures) c.each.invariant.outs
          (ap out_of (sym c.in-Throws.is) ∙ (e.0 ∙ ap (λ z. run (tree_in ts c.id_at-id.result) (slots c.args.self.outer.now z)) c.each.invariant.inner)),
      e.1 ∙ c.each.invariant.inner,
    )

pub all-returns-in-Stuck : goal.all-returns-in-Stuck
all-returns-in-Stuck t c =
    let ts = take c.args.above (trees c.args.self.nodes.now) in
    let e = c.in_ok-e.ensures {u = tt} in (
      all_stuck ts c.args.ids.now c.each.i c.id_at-id.result (slots c.args.self.outer.now c.args.inner.now) c.each.values _
          (ap (λ z. slice_get z c.each.i) (sym c.as_slice.ensures) ∙ c.id_at-id.ensures) c.each.invariant.outs
          (ap out_of (sym c.in-Stuck.is) ∙ (e.0 ∙ ap (λ z. run (tree_in ts c.id_at-id.result) (slots c.args.self.outer.now z)) c.each.invariant.inner)),
      e.1 ∙ c.each.invariant.inner,
    )

pub all-returns : goal.all-returns
all-returns t c =
    let ts = take c.args.above (trees c.args.self.nodes.now) in
    let l : length c.args.ids.now ≤ c.each.i = omega arith in
    (all_end ts c.args.ids.now c.each.i (slots c.args.self.outer.now c.args.inner.now) c.each.values _ l c.each.invariant.outs, c.each.invariant.inner)

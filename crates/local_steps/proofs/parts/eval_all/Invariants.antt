use Rattle.std.proofs.Common.{◌≡◌, drop}
use Rattle.rules_meaning.specs.Values.{values_of}
use Rattle.rules_code.specs.Slots.{run_all, trees, trees_in}
use Rattle.hs_eval.specs.Evaluation.{with_values}
use Rattle.local_steps.proofs.parts.eval_all.Given as goal

abbrev pub invariant-each : goal.invariant-each
invariant-each l = record {
  same : l.env ≡ l.fn.env;
  values : with_values (values_of l.values) (run_all (trees_in (trees l.nodes) (drop l.i l.ids)) (values_of l.fn.env)) ≡ run_all (trees_in (trees l.nodes) l.ids) (values_of l.fn.env);
}

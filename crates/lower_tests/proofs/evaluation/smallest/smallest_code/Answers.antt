use Rattle.std.proofs.Common.{◌∙◌}
use Rattle.lower_tests.proofs.evaluation_lemmas.SmallestCode.{stands_where}
use Rattle.lower_tests.proofs.evaluation.smallest.smallest_code.Goals as goal

pub invariant_of-new : goal.invariant_of-new
invariant_of-new c = record {
  stands = stands_where _ _ _ _ _ c.in_ok-nodes.ensures c.in_ok-acts.ensures c.in_ok-funs.ensures (c.of-of.ensures ∙ c.in_ok-script.ensures);
}

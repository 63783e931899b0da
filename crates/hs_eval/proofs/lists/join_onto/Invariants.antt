use Rattle.std.proofs.Common.{◌≡◌, take}
use Rattle.rules_meaning.specs.Values.{values_of}
use Rattle.hs_eval.specs.Founds.{out_of}
use Rattle.hs_eval.specs.Evaluation.{join_right}
use Rattle.hs_eval.proofs.lists.join_onto.Given as goal

abbrev pub invariant-links : goal.invariant-links
invariant-links l = join_right (take l.i l.links) (values_of l.values) (out_of l.so_far) ≡ join_right l.links (values_of l.fn.values) (out_of l.fn.last)

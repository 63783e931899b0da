use Rattle.std.proofs.Common.{◌≡◌, ◌++◌, drop}
use Rattle.hs_eval.specs.Evaluation.{operands_of}
use Rattle.hs_eval.proofs.lists.operand_ids.Given as goal

abbrev pub invariant-links : goal.invariant-links
invariant-links l = l.ids ++ operands_of (drop l.link-index l.links) ≡ operands_of l.links

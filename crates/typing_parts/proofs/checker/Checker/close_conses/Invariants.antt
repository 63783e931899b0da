use Rattle.std.proofs.Common.{◌≡◌, ◌≤◌, length, drop}
use Rattle.rules_expansion.specs.trees.Trees.{list_links_of}
use Rattle.typing_judge.specs.Judging.{folded}
use Rattle.typing_judge.specs.Least.{least}
use Rattle.typing_parts.specs.Views.{opt_ty, opts_of}
use Rattle.typing_parts.specs.Judged.{names, kept}
use Rattle.typing_parts.proofs.checker.Checker.close_conses.Given as goal

abbrev pub invariant-links : goal.invariant-links
invariant-links l = record {
  within : l.i ≤ length l.ks;
  scope : names l.types.nodes l.self ≡ names l.types.nodes l.fn.self;
  type : opt_ty l.types.nodes l.t ≡ (folded (opts_of l.types.nodes (drop l.i l.ts)) (list_links_of (drop l.i l.ks))).type;
  faults : kept l.types.nodes l.self ≡ least (kept l.types.nodes l.fn.self) (folded (opts_of l.types.nodes (drop l.i l.ts)) (list_links_of (drop l.i l.ks))).faults;
}

use Rattle.std.proofs.Common.{◌≡◌, ◌+◌, ◌*◌, ◌∷◌, ◌++◌, drop, max}
use Rattle.hs_base.specs.declared.tree.expr.Expr.{size-Expr}
use Rattle.rules_expansion.specs.trees.Trees.{exs_of, links_of, sum_links_of, list_links_of}
use Rattle.typing_judge.specs.Judging.{typed, judges, judge_links, operand_faults, operand_types}
use Rattle.typing_judge.specs.Least.{least}
use Rattle.typing_parts.specs.Views.{opt_ty, opt_tys, opts_of}
use Rattle.typing_parts.specs.Contexts.{ctx_of}
use Rattle.typing_parts.specs.Judged.{names, kept}
use Rattle.typing_parts.proofs.Noted.{all_joined}
use Rattle.typing_walk.proofs.exprs.walk.+walk.Given as goal

-- Each goes down its trees; of those that are given one whole the caller stands above.
abbrev pub decreases-type_of : goal.decreases-type_of
decreases-type_of l = 5 * goal.size-type_of l

abbrev pub decreases-unary : goal.decreases-unary
decreases-unary l = 5 * goal.size-unary l + 1

abbrev pub decreases-side : goal.decreases-side
decreases-side l = 5 * goal.size-side l + 1

abbrev pub decreases-second : goal.decreases-second
decreases-second l = 5 * goal.size-second l + 1

abbrev pub decreases-third : goal.decreases-third
decreases-third l = 5 * goal.size-third l + 1

abbrev pub decreases-given : goal.decreases-given
decreases-given l = 5 * goal.size-given l + 1

abbrev pub decreases-under : goal.decreases-under
decreases-under l = 5 * goal.size-under l + 1

abbrev pub decreases-types_of : goal.decreases-types_of
decreases-types_of l = 5 * goal.size-types_of l + 1

abbrev pub decreases-operands : goal.decreases-operands
decreases-operands l = 5 * goal.size-operands l + 1

abbrev pub decreases-under_two : goal.decreases-under_two
decreases-under_two l = 5 * goal.size-under_two l + 2

abbrev pub decreases-links : goal.decreases-links
decreases-links l = 5 * goal.size-links l + 2

abbrev pub decreases-sum_links : goal.decreases-sum_links
decreases-sum_links l = 5 * goal.size-sum_links l + 2

abbrev pub decreases-conses : goal.decreases-conses
decreases-conses l = 5 * goal.size-conses l + 2

abbrev pub decreases-call : goal.decreases-call
decreases-call l = 5 * goal.size-call l + 2

abbrev pub decreases-list : goal.decreases-list
decreases-list l = 5 * goal.size-list l + 2

abbrev pub decreases-alternatives : goal.decreases-alternatives
decreases-alternatives l = 5 * goal.size-alternatives l + 3

abbrev pub decreases-case : goal.decreases-case
decreases-case l = 5 * goal.size-case l + 4

abbrev pub decreases-two : goal.decreases-two
decreases-two l = 5 * max (goal.size-two l) (size-Expr l.b.now) + 2

abbrev pub decreases-chain : goal.decreases-chain
decreases-chain l = 5 * max (goal.size-chain l) (size-Expr l.a.now) + 3

abbrev pub invariant-types_of-parts : goal.invariant-types_of-parts
invariant-types_of-parts l = record {
  scope : names l.funs.types.nodes l.checker ≡ names l.funs.types.nodes l.fn.checker;
  types : all_joined (opt_tys l.funs.types.nodes l.ts) (judges (ctx_of l.funs) (names l.funs.types.nodes l.fn.checker) (exs_of (drop l.e-index l.es))).types ≡ (judges (ctx_of l.funs) (names l.funs.types.nodes l.fn.checker) (exs_of l.es)).types;
  faults : least (kept l.funs.types.nodes l.checker) (judges (ctx_of l.funs) (names l.funs.types.nodes l.fn.checker) (exs_of (drop l.e-index l.es))).faults ≡ least (kept l.funs.types.nodes l.fn.checker) (judges (ctx_of l.funs) (names l.funs.types.nodes l.fn.checker) (exs_of l.es)).faults;
}

abbrev pub invariant-links-links : goal.invariant-links-links
invariant-links-links l = record {
  scope : names l.funs.types.nodes l.checker ≡ names l.funs.types.nodes l.fn.checker;
  type : (judge_links (ctx_of l.funs) (names l.funs.types.nodes l.fn.checker) (typed (opt_ty l.funs.types.nodes l.t)) (links_of l.o (drop l.k-index l.ks))).type ≡ (judge_links (ctx_of l.funs) (names l.funs.types.nodes l.fn.checker) (typed (opt_ty l.funs.types.nodes l.fn.t)) (links_of l.o l.ks)).type;
  faults : least (kept l.funs.types.nodes l.checker) (judge_links (ctx_of l.funs) (names l.funs.types.nodes l.fn.checker) (typed (opt_ty l.funs.types.nodes l.t)) (links_of l.o (drop l.k-index l.ks))).faults ≡ least (kept l.funs.types.nodes l.fn.checker) (judge_links (ctx_of l.funs) (names l.funs.types.nodes l.fn.checker) (typed (opt_ty l.funs.types.nodes l.fn.t)) (links_of l.o l.ks)).faults;
}

abbrev pub invariant-sum_links-links : goal.invariant-sum_links-links
invariant-sum_links-links l = record {
  scope : names l.funs.types.nodes l.checker ≡ names l.funs.types.nodes l.fn.checker;
  type : (judge_links (ctx_of l.funs) (names l.funs.types.nodes l.fn.checker) (typed (opt_ty l.funs.types.nodes l.t)) (sum_links_of (drop l.k-index l.ks))).type ≡ (judge_links (ctx_of l.funs) (names l.funs.types.nodes l.fn.checker) (typed (opt_ty l.funs.types.nodes l.fn.t)) (sum_links_of l.ks)).type;
  faults : least (kept l.funs.types.nodes l.checker) (judge_links (ctx_of l.funs) (names l.funs.types.nodes l.fn.checker) (typed (opt_ty l.funs.types.nodes l.t)) (sum_links_of (drop l.k-index l.ks))).faults ≡ least (kept l.funs.types.nodes l.fn.checker) (judge_links (ctx_of l.funs) (names l.funs.types.nodes l.fn.checker) (typed (opt_ty l.funs.types.nodes l.fn.t)) (sum_links_of l.ks)).faults;
}

abbrev pub invariant-operands-links : goal.invariant-operands-links
invariant-operands-links l = record {
  scope : names l.funs.types.nodes l.checker ≡ names l.funs.types.nodes l.fn.checker;
  types : opts_of l.funs.types.nodes l.ts ++ operand_types (ctx_of l.funs) (names l.funs.types.nodes l.fn.checker) (list_links_of (drop l.k-index l.ks)) ≡ opt_ty l.funs.types.nodes l.fn.t ∷ operand_types (ctx_of l.funs) (names l.funs.types.nodes l.fn.checker) (list_links_of l.ks);
  faults : least (kept l.funs.types.nodes l.checker) (operand_faults (ctx_of l.funs) (names l.funs.types.nodes l.fn.checker) (list_links_of (drop l.k-index l.ks))) ≡ least (kept l.funs.types.nodes l.fn.checker) (operand_faults (ctx_of l.funs) (names l.funs.types.nodes l.fn.checker) (list_links_of l.ks));
}

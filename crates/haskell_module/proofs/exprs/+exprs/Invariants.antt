use Rattle.std.proofs.Common.{◌≡◌, ◌+◌, ◌*◌, ◌++◌, max, drop, string_bytes, codes}
use denote.Text.{Utf8}
use denote.Shadow.{shadow}
use Rattle.hs_base.specs.declared.tree.expr.Expr.{size-Expr}
use Rattle.rules_expansion.specs.trees.Trees.{exs_of, links_of, sum_links_of, list_links_of}
use Rattle.haskell_module.specs.Expressions.{arguments, listed, links_text}
use Rattle.haskell_module.proofs.exprs.+exprs.Given as goal

-- Each goes down its trees; of those that are given one whole the caller stands above.
abbrev pub decreases-write_expr : goal.decreases-write_expr
decreases-write_expr l = 8 * goal.size-write_expr l

abbrev pub decreases-write_part : goal.decreases-write_part
decreases-write_part l = 8 * goal.size-write_part l + 1

abbrev pub decreases-write_applied : goal.decreases-write_applied
decreases-write_applied l = 8 * goal.size-write_applied l + 2

abbrev pub decreases-write_applied_two : goal.decreases-write_applied_two
decreases-write_applied_two l = 8 * (max (goal.size-write_applied_two l) (size-Expr l.b.now)) + 2

abbrev pub decreases-write_infix : goal.decreases-write_infix
decreases-write_infix l = 8 * (max (goal.size-write_infix l) (size-Expr l.b.now)) + 2

abbrev pub decreases-write_side : goal.decreases-write_side
decreases-write_side l = 8 * goal.size-write_side l + 2

abbrev pub decreases-write_choice : goal.decreases-write_choice
decreases-write_choice l = 8 * (max (max (goal.size-write_choice l) (size-Expr l.a.now)) (size-Expr l.b.now)) + 2

abbrev pub decreases-write_bound : goal.decreases-write_bound
decreases-write_bound l = 8 * goal.size-write_bound l + 1

abbrev pub decreases-write_bound_two : goal.decreases-write_bound_two
decreases-write_bound_two l = 8 * goal.size-write_bound_two l + 1

abbrev pub decreases-write_given : goal.decreases-write_given
decreases-write_given l = 8 * (max (goal.size-write_given l) (size-Expr l.b.now)) + 2

abbrev pub decreases-write_arguments : goal.decreases-write_arguments
decreases-write_arguments l = 8 * goal.size-write_arguments l + 2

abbrev pub decreases-write_listed : goal.decreases-write_listed
decreases-write_listed l = 8 * goal.size-write_listed l + 2

abbrev pub decreases-write_some_call : goal.decreases-write_some_call
decreases-write_some_call l = 8 * goal.size-write_some_call l + 3

abbrev pub decreases-write_call : goal.decreases-write_call
decreases-write_call l = 8 * goal.size-write_call l + 4

abbrev pub decreases-write_items : goal.decreases-write_items
decreases-write_items l = 8 * goal.size-write_items l + 3

abbrev pub decreases-write_links : goal.decreases-write_links
decreases-write_links l = 8 * goal.size-write_links l + 2

abbrev pub decreases-write_sum_links : goal.decreases-write_sum_links
decreases-write_sum_links l = 8 * goal.size-write_sum_links l + 2

abbrev pub decreases-write_list_links : goal.decreases-write_list_links
decreases-write_list_links l = 8 * goal.size-write_list_links l + 2

abbrev pub decreases-write_chain : goal.decreases-write_chain
decreases-write_chain l = 8 * (max (goal.size-write_chain l) (size-Expr l.a.now)) + 3

abbrev pub decreases-write_sum : goal.decreases-write_sum
decreases-write_sum l = 8 * (max (goal.size-write_sum l) (size-Expr l.a.now)) + 3

abbrev pub decreases-write_conses : goal.decreases-write_conses
decreases-write_conses l = 8 * (max (goal.size-write_conses l) (size-Expr l.a.now)) + 3

abbrev pub decreases-write_arms : goal.decreases-write_arms
decreases-write_arms l = 8 * goal.size-write_arms l + 3

abbrev pub decreases-write_maybe_arms : goal.decreases-write_maybe_arms
decreases-write_maybe_arms l = 8 * (max (goal.size-write_maybe_arms l) (size-Expr l.b.now)) + 2

abbrev pub decreases-write_either_arms : goal.decreases-write_either_arms
decreases-write_either_arms l = 8 * (max (goal.size-write_either_arms l) (size-Expr l.b.now)) + 2

abbrev pub decreases-write_list_arms : goal.decreases-write_list_arms
decreases-write_list_arms l = 8 * (max (goal.size-write_list_arms l) (size-Expr l.b.now)) + 2

abbrev pub decreases-write_pair_arm : goal.decreases-write_pair_arm
decreases-write_pair_arm l = 8 * goal.size-write_pair_arm l + 2

abbrev pub decreases-write_case : goal.decreases-write_case
decreases-write_case l = 8 * (max (goal.size-write_case l) (size-Expr l.a.now)) + 4

-- what is written, and the text of what is left, are the whole
abbrev pub invariant-write_arguments-parts : goal.invariant-write_arguments-parts
invariant-write_arguments-parts l = string_bytes l.text ++ arguments (exs_of (drop l.e-index l.es)) ≡ string_bytes l.fn.text ++ arguments (exs_of l.es)

abbrev pub invariant-write_listed-parts : goal.invariant-write_listed-parts
invariant-write_listed-parts l = record {
  separator : shadow (Utf8 l.before);
  whole : string_bytes l.text ++ listed l.before (exs_of (drop l.e-index l.es)) ≡ string_bytes l.fn.text ++ listed (codes "") (exs_of l.es);
}

abbrev pub invariant-write_links-links : goal.invariant-write_links-links
invariant-write_links-links l = string_bytes l.text ++ links_text (links_of l.form (drop l.k-index l.ks)) ≡ string_bytes l.fn.text ++ links_text (links_of l.form l.ks)

abbrev pub invariant-write_sum_links-links : goal.invariant-write_sum_links-links
invariant-write_sum_links-links l = string_bytes l.text ++ links_text (sum_links_of (drop l.k-index l.ks)) ≡ string_bytes l.fn.text ++ links_text (sum_links_of l.ks)

abbrev pub invariant-write_list_links-links : goal.invariant-write_list_links-links
invariant-write_list_links-links l = string_bytes l.text ++ links_text (list_links_of (drop l.k-index l.ks)) ≡ string_bytes l.fn.text ++ links_text (list_links_of l.ks)

use Rattle.std.proofs.Common.{◌+◌, ◌*◌, drop, max, []}
use Rattle.hs_base.specs.declared.tree.expr.Expr.{size-Expr}
use Rattle.rules_expansion.specs.trees.Trees.{exs_of, links_of, sum_links_of, list_links_of}
use Rattle.rules_typing.specs.TypingSizes.{extents, link_extents}
use Rattle.typing_parts.specs.Views.{scope_of, sigs_of}
use Rattle.typing_extents.specs.Measuring.{exts_of, Sofar}
use Rattle.typing_extents.proofs.meter.Meter.+extents.Given as goal

-- Each goes down its trees; of those that are given one whole the caller stands above.
abbrev pub decreases-extent : goal.decreases-extent
decreases-extent l = 4 * goal.size-extent l

abbrev pub decreases-around : goal.decreases-around
decreases-around l = 4 * goal.size-around l + 1

abbrev pub decreases-around_two : goal.decreases-around_two
decreases-around_two l = 4 * goal.size-around_two l + 1

abbrev pub decreases-parts : goal.decreases-parts
decreases-parts l = 4 * goal.size-parts l + 1

abbrev pub decreases-links : goal.decreases-links
decreases-links l = 4 * goal.size-links l + 1

abbrev pub decreases-sum_links : goal.decreases-sum_links
decreases-sum_links l = 4 * goal.size-sum_links l + 1

abbrev pub decreases-list_links : goal.decreases-list_links
decreases-list_links l = 4 * goal.size-list_links l + 1

abbrev pub decreases-under : goal.decreases-under
decreases-under l = 4 * goal.size-under l + 1

abbrev pub decreases-under_two : goal.decreases-under_two
decreases-under_two l = 4 * goal.size-under_two l + 2

abbrev pub decreases-arms : goal.decreases-arms
decreases-arms l = 4 * goal.size-arms l + 3

abbrev pub decreases-around_both : goal.decreases-around_both
decreases-around_both l = 4 * max (goal.size-around_both l) (size-Expr l.b.now) + 2

abbrev pub decreases-chain : goal.decreases-chain
decreases-chain l = 4 * max (goal.size-chain l) (size-Expr l.a.now) + 2

abbrev pub invariant-parts-parts : goal.invariant-parts-parts
invariant-parts-parts l = Sofar l.fn.self l.self l.x
    (extents (sigs_of l.funs.types.nodes l.funs.sigs) (exts_of l.fn.self.extents) (scope_of [] l.fn.self.scope.items) (exs_of (drop l.e-index l.es)))
    (extents (sigs_of l.funs.types.nodes l.funs.sigs) (exts_of l.fn.self.extents) (scope_of [] l.fn.self.scope.items) (exs_of l.es))

abbrev pub invariant-links-links : goal.invariant-links-links
invariant-links-links l = Sofar l.fn.self l.self l.x
    (link_extents (sigs_of l.funs.types.nodes l.funs.sigs) (exts_of l.fn.self.extents) (scope_of [] l.fn.self.scope.items) (links_of l.fn.o (drop l.k-index l.ks)))
    (link_extents (sigs_of l.funs.types.nodes l.funs.sigs) (exts_of l.fn.self.extents) (scope_of [] l.fn.self.scope.items) (links_of l.fn.o l.ks))

abbrev pub invariant-sum_links-links : goal.invariant-sum_links-links
invariant-sum_links-links l = Sofar l.fn.self l.self l.x
    (link_extents (sigs_of l.funs.types.nodes l.funs.sigs) (exts_of l.fn.self.extents) (scope_of [] l.fn.self.scope.items) (sum_links_of (drop l.k-index l.ks)))
    (link_extents (sigs_of l.funs.types.nodes l.funs.sigs) (exts_of l.fn.self.extents) (scope_of [] l.fn.self.scope.items) (sum_links_of l.ks))

abbrev pub invariant-list_links-links : goal.invariant-list_links-links
invariant-list_links-links l = Sofar l.fn.self l.self l.x
    (link_extents (sigs_of l.funs.types.nodes l.funs.sigs) (exts_of l.fn.self.extents) (scope_of [] l.fn.self.scope.items) (list_links_of (drop l.k-index l.ks)))
    (link_extents (sigs_of l.funs.types.nodes l.funs.sigs) (exts_of l.fn.self.extents) (scope_of [] l.fn.self.scope.items) (list_links_of l.ks))

use Rattle.std.proofs.Common.{◌≡◌, ◌+◌, ◌*◌, ◌++◌, drop, length, max}
use Rattle.hs_base.specs.declared.tree.expr.Expr.{size-Expr}
use Rattle.rules_expansion.specs.trees.Trees.{exs_of, links_of, sum_links_of, list_links_of}
use Rattle.hs_nodes.specs.Emitting.{all_nodes, ids_of, link_nodes, node_links}
use Rattle.hs_nodes.specs.Names.{scope_of}
use Rattle.hs_nodes.proofs.emitter.Emitter.+emit.Given as goal

-- Each goes down its trees; of those that are given one whole the caller stands above.
abbrev pub decreases-expr : goal.decreases-expr
decreases-expr l = 5 * goal.size-expr l

abbrev pub decreases-part : goal.decreases-part
decreases-part l = 5 * goal.size-part l + 1

abbrev pub decreases-single : goal.decreases-single
decreases-single l = 5 * goal.size-single l + 1

abbrev pub decreases-aside : goal.decreases-aside
decreases-aside l = 5 * goal.size-aside l + 1

abbrev pub decreases-second : goal.decreases-second
decreases-second l = 5 * goal.size-second l + 1

abbrev pub decreases-third : goal.decreases-third
decreases-third l = 5 * goal.size-third l + 1

abbrev pub decreases-under : goal.decreases-under
decreases-under l = 5 * goal.size-under l + 1

abbrev pub decreases-all : goal.decreases-all
decreases-all l = 5 * goal.size-all l + 1

abbrev pub decreases-chain : goal.decreases-chain
decreases-chain l = 5 * goal.size-chain l + 1

abbrev pub decreases-sum_chain : goal.decreases-sum_chain
decreases-sum_chain l = 5 * goal.size-sum_chain l + 1

abbrev pub decreases-conses : goal.decreases-conses
decreases-conses l = 5 * goal.size-conses l + 1

abbrev pub decreases-given : goal.decreases-given
decreases-given l = 5 * goal.size-given l + 2

abbrev pub decreases-under_two : goal.decreases-under_two
decreases-under_two l = 5 * goal.size-under_two l + 2

abbrev pub decreases-call : goal.decreases-call
decreases-call l = 5 * goal.size-call l + 2

abbrev pub decreases-items : goal.decreases-items
decreases-items l = 5 * goal.size-items l + 2

abbrev pub decreases-arms : goal.decreases-arms
decreases-arms l = 5 * goal.size-arms l + 3

abbrev pub decreases-both : goal.decreases-both
decreases-both l = 5 * max (goal.size-both l) (size-Expr l.b.now) + 2

abbrev pub invariant-all-each : goal.invariant-all-each
invariant-all-each l = record {
  scope : l.self.scope ≡ l.fn.self.scope;
  nodes : l.self.nodes ++ all_nodes l.places.all (scope_of l.fn.self.scope) (length l.self.nodes) (exs_of (drop l.e-index l.es)) ≡ l.fn.self.nodes ++ all_nodes l.places.all (scope_of l.fn.self.scope) (length l.fn.self.nodes) (exs_of l.es);
  ids : l.ids ++ ids_of l.places.all (scope_of l.fn.self.scope) (length l.self.nodes) (exs_of (drop l.e-index l.es)) ≡ ids_of l.places.all (scope_of l.fn.self.scope) (length l.fn.self.nodes) (exs_of l.es);
}

abbrev pub invariant-chain-each : goal.invariant-chain-each
invariant-chain-each l = record {
  scope : l.self.scope ≡ l.fn.self.scope;
  nodes : l.self.nodes ++ link_nodes l.places.all (scope_of l.fn.self.scope) (length l.self.nodes) (links_of l.form (drop l.link-index l.links)) ≡ l.fn.self.nodes ++ link_nodes l.places.all (scope_of l.fn.self.scope) (length l.fn.self.nodes) (links_of l.form l.links);
  ids : l.ks ++ node_links l.places.all (scope_of l.fn.self.scope) (length l.self.nodes) (links_of l.form (drop l.link-index l.links)) ≡ node_links l.places.all (scope_of l.fn.self.scope) (length l.fn.self.nodes) (links_of l.form l.links);
}

abbrev pub invariant-sum_chain-each : goal.invariant-sum_chain-each
invariant-sum_chain-each l = record {
  scope : l.self.scope ≡ l.fn.self.scope;
  nodes : l.self.nodes ++ link_nodes l.places.all (scope_of l.fn.self.scope) (length l.self.nodes) (sum_links_of (drop l.link-index l.links)) ≡ l.fn.self.nodes ++ link_nodes l.places.all (scope_of l.fn.self.scope) (length l.fn.self.nodes) (sum_links_of l.links);
  ids : l.ks ++ node_links l.places.all (scope_of l.fn.self.scope) (length l.self.nodes) (sum_links_of (drop l.link-index l.links)) ≡ node_links l.places.all (scope_of l.fn.self.scope) (length l.fn.self.nodes) (sum_links_of l.links);
}

abbrev pub invariant-conses-each : goal.invariant-conses-each
invariant-conses-each l = record {
  scope : l.self.scope ≡ l.fn.self.scope;
  nodes : l.self.nodes ++ link_nodes l.places.all (scope_of l.fn.self.scope) (length l.self.nodes) (list_links_of (drop l.link-index l.links)) ≡ l.fn.self.nodes ++ link_nodes l.places.all (scope_of l.fn.self.scope) (length l.fn.self.nodes) (list_links_of l.links);
  ids : l.ks ++ node_links l.places.all (scope_of l.fn.self.scope) (length l.self.nodes) (list_links_of (drop l.link-index l.links)) ≡ node_links l.places.all (scope_of l.fn.self.scope) (length l.fn.self.nodes) (list_links_of l.links);
}

use Rattle.std.proofs.Common.{◌≡◌, ◌+◌, ◌≤◌, min, drop}
use Rattle.rules_expansion.specs.trees.Trees.{exs_of, links_of, sum_links_of, list_links_of}
use Rattle.rules_expansion.specs.Sizes.{exs_size, links_size}
use Rattle.typing_extents.proofs.sizes.nodes.+nodes.Given as goal

abbrev pub invariant-exs_nodes-parts : goal.invariant-exs_nodes-parts
invariant-exs_nodes-parts l = record { sum : min (l.n + exs_size (exs_of (drop l.e-index l.es))) 1000001 ≡ min (exs_size (exs_of l.es)) 1000001; within : l.n ≤ 1000001 }

abbrev pub invariant-link_nodes-links : goal.invariant-link_nodes-links
invariant-link_nodes-links l = record { sum : min (l.n + links_size (links_of l.fn.o (drop l.k-index l.ks))) 1000001 ≡ min (links_size (links_of l.fn.o l.ks)) 1000001; within : l.n ≤ 1000001 }

abbrev pub invariant-sum_link_nodes-links : goal.invariant-sum_link_nodes-links
invariant-sum_link_nodes-links l = record { sum : min (l.n + links_size (sum_links_of (drop l.k-index l.ks))) 1000001 ≡ min (links_size (sum_links_of l.ks)) 1000001; within : l.n ≤ 1000001 }

abbrev pub invariant-list_link_nodes-links : goal.invariant-list_link_nodes-links
invariant-list_link_nodes-links l = record { sum : min (l.n + links_size (list_links_of (drop l.k-index l.ks))) 1000001 ≡ min (links_size (list_links_of l.ks)) 1000001; within : l.n ≤ 1000001 }

use Rattle.std.proofs.Common.{◌≡◌, ◌+◌, min, drop}
use Rattle.rules_expansion.specs.trees.Programs.{rest_of}
use Rattle.rules_expansion.specs.Expansion.{block_core}
use Rattle.rules_expansion.specs.Sizes.{core_size}
use Rattle.typing_extents.proofs.sizes.nodes.+actions.Given as goal

abbrev pub invariant-bl_nodes-stmts : goal.invariant-bl_nodes-stmts
invariant-bl_nodes-stmts l = min (l.n + core_size (block_core (rest_of (drop l.st-index l.b.stmts) l.b.last))) 1000001 ≡ min (core_size (block_core (rest_of l.b.stmts l.b.last))) 1000001

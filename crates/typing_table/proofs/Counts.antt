-- Each type has a node.
use Rattle.std.proofs.Common.{◌<◌, arith}
use Rattle.rules_expansion.specs.trees.Trees.{T, unit, int, bool, text, thread, exn, pair, maybe, either, list, cell, async}
use Rattle.rules_typing.specs.Typing.{nodes}

pub nodes_some : (a : T) → 0 < nodes a
nodes_some unit = omega arith
nodes_some int = omega arith
nodes_some bool = omega arith
nodes_some text = omega arith
nodes_some thread = omega arith
nodes_some exn = omega arith
nodes_some (pair a b) = omega arith
nodes_some (maybe a) = omega arith
nodes_some (either a b) = omega arith
nodes_some (list a) = omega arith
nodes_some (cell a) = omega arith
nodes_some (async a) = omega arith

-- The trees of actions: as many as there are actions.
use Rattle.std.proofs.Common.{◌≡◌, ◌+◌, List, [], ◌∷◌, ◌++◌, length, arith, length-append}
use Rattle.rules_code.specs.declared.node.Node.{Node}
use Rattle.rules_code.specs.declared.act.Act.{Act}
use Rattle.rules_code.specs.Slots.{Sx, trees}
use Rattle.rules_code.specs.CodeTrees.{Sa, act_decode, act_trees_onto, act_trees}

pub onto-length : (ts : List Sx) (ks : List Act) (us : List Sa) → length (act_trees_onto ts ks us) ≡ length us + length ks
onto-length ts [] us = omega arith
onto-length ts (k ∷ ks) us = let h = onto-length ts ks (us ++ act_decode ts us k ∷ []) in let l = length-append us (act_decode ts us k ∷ []) in omega (arith, h, l)

pub act_trees-length : (ns : List Node) (ks : List Act) → length (act_trees ns ks) ≡ length ks
act_trees-length ns ks = let h = onto-length (trees ns) ks [] in omega (arith, h)

-- Nodes that stand for trees: with all nodes before them, and whatever nodes come after.
use Rattle.std.specs.Prelude.{◌≡◌, ◌<◌, List, [], ◌∷◌, length}
use Rattle.rules_code.specs.declared.node.ExprId.{ExprId}
use Rattle.rules_code.specs.declared.node.Node.{Node}
use Rattle.rules_code.specs.Slots.{Sx, Sxs, s_none, s_more, Root, tree_at}
use Rattle.hs_nodes.specs.declared.places.Place.{Place}

pub record Stands (ns : List Node) (i : ExprId) (t : Sx) : Type 0 where
  pub below : i.0 < length ns
  pub is : tree_at ns i ≡ t

-- the places of pure functions, each with the tree of its body
abbrev pub Known : List Node → List Place → List Root → Type 0
Known ns [] [] = Unit {0}
Known ns [] (b ∷ bs) = ⊥
Known ns (r ∷ rs) [] = ⊥
Known ns (r ∷ rs) (b ∷ bs) = (r.text ≡ b.text) × (r.params ≡ b.params) × Stands ns r.node b.tree × Known ns rs bs

-- numbers in a row
abbrev pub AllStand : List Node → List ExprId → Sxs → Type 0
AllStand ns [] s_none = Unit {0}
AllStand ns [] (s_more t ts) = ⊥
AllStand ns (i ∷ is) s_none = ⊥
AllStand ns (i ∷ is) (s_more t ts) = Stands ns i t × AllStand ns is ts

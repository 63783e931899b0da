-- What the parts of the evaluator compute.
use Rattle.std.specs.Prelude.{◌≡◌, ℕ, List, [], ◌∷◌, ◌++◌, take, cond, Option, Some, None}
use Rattle.hs_base.specs.declared.value.Value.{Value}
use Rattle.rules_code.specs.declared.node.ExprId.{ExprId}
use Rattle.rules_code.specs.declared.node.NodeLink.{NodeLink}
use Rattle.rules_code.specs.declared.node.Node.{Node}
use Rattle.rules_code.specs.declared.node.Node.TheVariants as n
use Rattle.rules_meaning.specs.Values.{V, Nil, Cons, value_of, values_of, Outcome, Gives, Stuck, Outcomes, AllGive, OneThrows, OneStuck, and_one}
use Rattle.rules_meaning.specs.Meaning.{then, binary_of, side_of, unary_of, on_truth, on_maybe, on_either, on_list, on_pair}
use Rattle.rules_code.specs.Slots.{Sx, run, tree_in, trees}
use Rattle.hs_eval.specs.declared.found.FoundAll.{FoundAll}
use Rattle.hs_eval.specs.declared.found.FoundAll.TheVariants as a
use Rattle.hs_eval.specs.declared.lists.Parted.{Parted}
use Rattle.hs_eval.specs.declared.lists.Parted.TheVariants as p

abbrev pub outs_of : FoundAll → Outcomes
outs_of (a.Values vs) = AllGive (values_of vs)
outs_of (a.Throws e) = OneThrows e
outs_of a.Stuck = OneStuck

-- the tree of a part of a node: its number is lower than the node's
abbrev pub part_of : List Node → ℕ → ExprId → Sx
part_of ns above i = tree_in (take above (trees ns)) i

-- the values of the slots: those that were there, and those that the expression bound
abbrev pub slots : List Value → List Value → List V
slots outer inner = values_of (outer ++ inner)

-- the mirror of what a slot holds
abbrev pub mirrored : Option Value → Option V
mirrored None = None
mirrored (Some v) = Some (value_of v)

-- what follows the value of a node's first part
abbrev pub after : List Sx → Node → List V → V → Outcome
after ts (n.Unary f i) vs v = unary_of f v
after ts (n.Side f i) vs v = Gives (side_of f v)
after ts (n.Binary f i j) vs v = then (run (tree_in ts j) vs) (binary_of f v)
after ts (n.If h i j) vs v = on_truth (λ t. cond t (run (tree_in ts i) vs) (run (tree_in ts j) vs)) v
after ts (n.Let i j) vs v = run (tree_in ts j) (vs ++ v ∷ [])
after ts (n.CaseMaybe h i j) vs v = on_maybe (run (tree_in ts i) vs) (λ w. run (tree_in ts j) (vs ++ w ∷ [])) v
after ts (n.CaseEither h i j) vs v = on_either (λ w. run (tree_in ts i) (vs ++ w ∷ [])) (λ w. run (tree_in ts j) (vs ++ w ∷ [])) v
after ts (n.CaseList h i j) vs v = on_list (run (tree_in ts i) vs) (λ w u. run (tree_in ts j) ((vs ++ w ∷ []) ++ u ∷ [])) v
after ts (n.CasePair h i) vs v = on_pair (λ w u. run (tree_in ts i) ((vs ++ w ∷ []) ++ u ∷ [])) v
after ts _ vs v = Stuck

-- the operands of links
abbrev pub operands_of : List NodeLink → List ExprId
operands_of [] = []
operands_of (k ∷ ks) = k.operand ∷ operands_of ks

-- these values, and then what the others give
abbrev pub with_values : List V → Outcomes → Outcomes
with_values [] o = o
with_values (v ∷ vs) o = and_one v (with_values vs o)

-- a chain that groups from the right, at the values of all its operands but the last, and what the last gives
abbrev pub join_right : List NodeLink → List V → Outcome → Outcome
join_right [] [] o = o
join_right [] (v ∷ vs) o = Stuck
join_right (k ∷ ks) [] o = Stuck
join_right (k ∷ ks) (v ∷ vs) o = then (join_right ks vs o) (binary_of k.form v)

-- the same, at the values of all its operands
abbrev pub join_all : List NodeLink → List V → Outcome
join_all [] [] = Stuck
join_all [] (v ∷ []) = Gives v
join_all [] (v ∷ w ∷ vs) = Stuck
join_all (k ∷ ks) [] = Stuck
join_all (k ∷ ks) (v ∷ vs) = then (join_all ks vs) (binary_of k.form v)

-- a list by its first item and the rest
abbrev pub PartedAs : Parted → V → Type 0
PartedAs p.Empty v = v ≡ Nil
PartedAs (p.Of a c) v = v ≡ Cons (value_of a) (value_of c)
PartedAs p.NoList v = (o : Outcome) (f : V → V → Outcome) → on_list o f v ≡ Stuck

-- Nodes of numbers and of forms with two parts, and the items of slices.
use Rattle.std.proofs.Common.{◌≡◌, ℕ, ℤ, ◌<◌, ◌≤◌, List, length, get_or, Bor, Option, Some, None, IfSome, MatchOption, HoldsAt, ap, ◌∙◌, refl, sym, arith, ⊎_elim}
use Rattle.std.specs.Prelude.{slice_get}
use Rattle.std.specs.Option.{option_copied}
use Rattle.std.proofs.lemmas.Option.{slice_get_cases, slice_get_read}
use Rattle.rules_code.specs.declared.node.ExprId.{ExprId}
use Rattle.rules_code.specs.declared.node.Node.{Node}
use Rattle.rules_code.specs.declared.node.Node.TheVariants as n
use Rattle.hs_base.specs.declared.tree.forms.BinaryForm.{BinaryForm}
use Rattle.rules_meaning.specs.Values.{V, Int, Gives}
use Rattle.rules_meaning.specs.Meaning.{then, binary_of}
use Rattle.rules_code.specs.Slots.{run, trees, tree_at, at_slot}
use Rattle.rules_code.proofs.Arena.{tree_at-is, tree_in-below}
use Rattle.hs_eval.specs.Evaluation.{part_of}

part_is : (ns : List Node) (above : ℕ) (i : ExprId) (vs : List V) → i.0 < above → run (part_of ns above i) vs ≡ run (tree_at ns i) vs
part_is ns above i vs h = ap (λ t. run t vs) (tree_in-below (trees ns) above i h)

pub int_node : (ns : List Node) (above : ℕ) (i : ExprId) (m : ℤ) (vs : List V) → i.0 < above → slice_get ns i.0 ≡ Some (n.Int m) → run (part_of ns above i) vs ≡ Gives (Int m)
int_node ns above i m vs h e = part_is ns above i vs h ∙ ap (λ t. run t vs) (tree_at-is ns i (n.Int m) e)

pub slot_node : (ns : List Node) (above : ℕ) (i : ExprId) (k : ℕ) (vs : List V) → i.0 < above → slice_get ns i.0 ≡ Some (n.Slot k) → run (part_of ns above i) vs ≡ at_slot (slice_get vs k)
slot_node ns above i k vs h e = part_is ns above i vs h ∙ ap (λ t. run t vs) (tree_at-is ns i (n.Slot k) e)

pub two_node : (ns : List Node) (i a b : ExprId) (f : BinaryForm) (vs : List V) → slice_get ns i.0 ≡ Some (n.Binary f a b)
    → run (tree_at ns i) vs ≡ then (run (part_of ns i.0 a) vs) (λ v. then (run (part_of ns i.0 b) vs) (binary_of f v))
two_node ns i a b f vs e = ap (λ t. run t vs) (tree_at-is ns i (n.Binary f a b) e)

pub ruleset node_rules = (int_node, slot_node, two_node)

-- what `get` of a slice answers
pub item_is : {X : Type 0} (xs : List X) (k : ℕ) (o : Option (Bor X)) → MatchOption o (length xs ≤ k) (λ x. k < length xs × HoldsAt (λ y. x.now ≡ y) xs k) → IfSome o (λ x. x.now ≡ get_or xs k x.now)
    → option_copied o ≡ slice_get xs k
item_is xs k None h g = ⊎_elim (λ w. absurd (let l = w.1 in omega (arith, h, l))) (λ w. sym w.1) (slice_get_cases xs k).1
item_is xs k (Some x) h g = sym (slice_get_read xs (length xs) k x.now refl h.0 g)

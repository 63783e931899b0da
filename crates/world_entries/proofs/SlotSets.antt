-- Equations of terms with slots are propositions: each type of their parts is a set.
use Rattle.std.proofs.Common.{◌≡◌, Option}
use Rattle.std.proofs.Math.Bool.{Bool-set}
use Rattle.std.proofs.Math.IntN.{ℤ_set}
use Rattle.std.proofs.Math.Logic.{∥∥₁_elim}
use Rattle.std.proofs.Math.Nat.{ℕ_set}
use Rattle.std.specs.Coded.{Coded-set}
use mathlib.Core.List.{is_set}
use mathlib.Core.Sum.{⊎_set}
use Rattle.hs_base.specs.contracts.exn.Exn as exn
use Rattle.hs_base.specs.declared.exn.Exn.{Exn}
use Rattle.hs_base.specs.declared.mask.Mask.{Mask}
use Rattle.hs_base.specs.declared.tree.forms.UnaryForm.{UnaryForm}
use Rattle.hs_base.specs.declared.tree.forms.BinaryForm.{BinaryForm}
use Rattle.hs_base.specs.declared.tree.forms.EmptyForm.{EmptyForm}
use Rattle.hs_base.specs.declared.tree.forms.SideForm.{SideForm}
use Rattle.rules_expansion.specs.trees.Trees.{Lit}
use Rattle.rules_expansion.specs.declared.primitive.Primitive.{Primitive}
use Rattle.rules_meaning.specs.Values as values
use Rattle.rules_meaning.specs.Values.{V}
use Rattle.rules_code.specs.Slots as slots
use Rattle.rules_code.specs.Slots.{Sx, Sxs}
use Rattle.rules_code.specs.CodeTrees as trees
use Rattle.rules_code.specs.CodeTrees.{Sa}
use Rattle.slot_laws.specs.SlotRules.{SlotOp, SlotPart, SlotFrame, SlotTerm}

-- ---- what they are made of
mask_set : IsSet Mask
mask_set = hlevel ⊎_set

exn_set : IsSet Exn
exn_set = Coded-set exn.the_row.coded

unary_set : IsSet UnaryForm
unary_set = hlevel ⊎_set

binary_set : IsSet BinaryForm
binary_set = hlevel ⊎_set

empty_set : IsSet EmptyForm
empty_set = hlevel ⊎_set

side_set : IsSet SideForm
side_set = hlevel ⊎_set

primitive_set : IsSet Primitive
primitive_set = hlevel ⊎_set

lit_set : IsSet Lit
lit_set = hlevel (⊎_set, is_set, ℕ_set, ℤ_set, Bool-set, exn_set)

-- ---- values, expressions and actions
pub value_set : IsSet V
value_set = values.value_set ℤ_set Bool-set (is_set ℕ_set) ℕ_set exn_set mask_set

ex_set : IsSet Sx
ex_set = slots.ex_set lit_set empty_set ℕ_set unary_set side_set binary_set

exs_set : IsSet Sxs
exs_set = slots.exs_set lit_set empty_set ℕ_set unary_set side_set binary_set

pub action_set : IsSet Sa
action_set = trees.action_set ex_set ℕ_set exs_set primitive_set

-- ---- terms
op_set : IsSet SlotOp
op_set = hlevel (⊎_set, is_set, value_set, action_set, primitive_set)

part_set : IsSet SlotPart
part_set = hlevel (⊎_set, is_set, value_set, action_set, op_set, exn_set)

frame_set : IsSet SlotFrame
frame_set = hlevel (⊎_set, is_set, value_set, action_set, mask_set)

pub term_set : IsSet SlotTerm
term_set = hlevel (is_set, part_set, frame_set)

some_set : IsSet (Option SlotTerm)
some_set = hlevel (⊎_set, term_set)

-- so what is known of such an equation without being shown is shown
pub term_shown : (x y : Option SlotTerm) → ∥ x ≡ y ∥₁ → x ≡ y
term_shown x y h = ∥∥₁_elim h (some_set x y) (λ e. e)

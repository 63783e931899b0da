-- Core actions with slots in place of names, and the nodes that stand for them: what the code of a script is (own).
--
-- A binder takes the next slot in what it binds; what nothing reads takes none. A call names an action function by its
-- place among the action functions of the script. As with expressions, a node is read with the trees of the nodes before
-- it.
use Rattle.std.specs.Prelude.{◌≡◌, ℕ, ◌+◌, pos, List, [], ◌∷◌, ◌++◌, length, Bool, cond, Option, Some, None, slice_index_or, bytes_eq}
use Rattle.hs_base.specs.declared.exn.Exn.TheVariants as x
use Rattle.hs_base.specs.declared.tree.script.Script.{Script}
use Rattle.hs_base.specs.declared.tree.forms.UnaryForm.TheVariants as u
use Rattle.hs_base.specs.declared.tree.forms.BinaryForm.TheVariants as b
use Rattle.hs_base.specs.declared.tree.forms.EmptyForm.TheVariants as n
use Rattle.hs_base.specs.declared.tree.forms.SideForm.TheVariants as d
use Rattle.rules_code.specs.declared.node.Node.{Node}
use Rattle.rules_code.specs.declared.act.ActId.{ActId}
use Rattle.rules_code.specs.declared.act.Act.{Act}
use Rattle.rules_code.specs.declared.act.Act.TheVariants as a
use Rattle.rules_code.specs.declared.code.Fun.{Fun}
use Rattle.rules_expansion.specs.trees.Trees.{number, nothing_more, exception}
use Rattle.rules_expansion.specs.trees.Programs.{Fn, script_of}
use Rattle.rules_expansion.specs.Names.{Name, Added, same_name, Unread}
use Rattle.rules_expansion.specs.Core.{CoreEx, OfScript, Read, JustRead, NoValue, BelowZero, IsZero, SameExn, Killed, Nil, LeftRead, RightRead, RightLeft, RightRight, RightNil, PairRead, FirstOf, SecondOf, Core, Return, ThrowIo, Let, Bind, If, CaseMaybe, CaseEither, CaseList, CasePair, Call, Perform, Fork, ForkUnmask, Catch, MaskWith, MaskHard, Restore, ActionFunction}
use Rattle.rules_expansion.specs.declared.primitive.Primitive.{Primitive}
use Rattle.rules_expansion.specs.Expansion.{actions_of}
use Rattle.rules_expansion.specs.Expansion.{main_of}
use Rattle.rules_code.specs.Slots.{Sx, Sxs, s_literal, s_empty, s_slot, s_unary, s_side, s_binary, s_none, s_more, Scope, slot_of, Root, slotted, slotted_all, roots_of, tree_in, trees_in, trees}
use Rattle.rules_typing.specs.TypingScripts.{Accepted}

-- a core action with slots
pub data Sa : Type 0 where
  -- return e
  a_return : Sx → Sa
  -- throwIO e
  a_throw : Sx → Sa
  -- let x = e; A
  a_let : Sx → Sa → Sa
  -- x <- A; B, where x takes a slot
  a_bind : Sa → Sa → Sa
  -- A; B, where what A gives takes none
  a_then : Sa → Sa → Sa
  -- if e then A else B
  a_if : Sx → Sa → Sa → Sa
  -- case e of { Nothing -> A; Just x -> B }
  a_maybe : Sx → Sa → Sa → Sa
  -- case e of { Left x -> A; Right y -> B }
  a_either : Sx → Sa → Sa → Sa
  -- case e of { [] -> A; x : y -> B }
  a_list : Sx → Sa → Sa → Sa
  -- case e of { (x, y) -> A }
  a_pair : Sx → Sa → Sa
  -- f e .., with the number of f
  a_call : ℕ → Sxs → Sa
  a_perform : Primitive → Sxs → Sa
  -- forkIO A
  a_fork : Sa → Sa
  -- forkIOWithUnmask r A
  a_fork_unmask : Sa → Sa
  -- catch A x B
  a_catch : Sa → Sa → Sa
  -- mask r A
  a_mask : Sa → Sa
  -- uninterruptibleMask r A
  a_mask_hard : Sa → Sa
  -- restore r A, with the slot of r
  a_restore : ℕ → Sa → Sa
  -- what no node stands for
  a_bad : Sa
  deriving IsSet as action_set

-- ---- from names to slots

-- whether this is the name that nothing reads
abbrev pub is_unread : Name → Bool
is_unread y = same_name y Unread

-- the scope with one more name
abbrev pub with_slot : Name → Scope → Scope
with_slot y s = cond (is_unread y) s (y ∷ s)

-- the slot of a name; that of a name which isn't there is behind the last one, where no value stands
abbrev pub slot_or_end : Option ℕ → Scope → ℕ
slot_or_end None s = length s
slot_or_end (Some k) s = k

-- the value of a name
abbrev pub slot_read : Scope → Name → Sx
slot_read s y = s_slot (slot_or_end (slot_of s y) s)

-- an expression of a core action
abbrev pub slotted_core_ex : List Root → Scope → CoreEx → Sx
slotted_core_ex rs s (OfScript e) = slotted rs s e
slotted_core_ex rs s (Read y) = slot_read s y
slotted_core_ex rs s (JustRead y) = s_unary u.Just (slot_read s y)
slotted_core_ex rs s NoValue = s_empty n.Nothing
slotted_core_ex rs s (BelowZero y) = s_binary b.Less (slot_read s y) (s_literal (number (pos 0)))
slotted_core_ex rs s (IsZero y) = s_binary b.Equal (slot_read s y) (s_literal (number (pos 0)))
slotted_core_ex rs s (SameExn y z) = s_binary b.Equal (slot_read s y) (slot_read s z)
slotted_core_ex rs s Killed = s_literal (exception x.ThreadKilled)
slotted_core_ex rs s Nil = s_literal nothing_more
slotted_core_ex rs s (LeftRead y) = s_side d.Left (slot_read s y)
slotted_core_ex rs s (RightRead y) = s_side d.Right (slot_read s y)
slotted_core_ex rs s (RightLeft y) = s_side d.Right (s_side d.Left (slot_read s y))
slotted_core_ex rs s (RightRight y) = s_side d.Right (s_side d.Right (slot_read s y))
slotted_core_ex rs s RightNil = s_side d.Right (s_literal nothing_more)
slotted_core_ex rs s (PairRead y z) = s_binary b.Pair (slot_read s y) (slot_read s z)
slotted_core_ex rs s (FirstOf y) = s_unary u.Fst (slot_read s y)
slotted_core_ex rs s (SecondOf y) = s_unary u.Snd (slot_read s y)

-- the expressions of a primitive
abbrev pub slotted_core_exs : List Root → Scope → List CoreEx → Sxs
slotted_core_exs rs s [] = s_none
slotted_core_exs rs s (e ∷ es) = s_more (slotted_core_ex rs s e) (slotted_core_exs rs s es)

-- the place of the first action function of a name
abbrev pub place_among : List ActionFunction → List ℕ → ℕ
place_among [] f = 0
place_among (d ∷ ds) f = cond (bytes_eq f d.name) 0 (1 + place_among ds f)

-- a core action in a scope, with the pure functions and the action functions of its script
abbrev pub slotted_core : List Root → List ActionFunction → Scope → Core → Sa
slotted_core rs fs s (Return e) = a_return (slotted_core_ex rs s e)
slotted_core rs fs s (ThrowIo e) = a_throw (slotted_core_ex rs s e)
slotted_core rs fs s (Let y e a) = a_let (slotted_core_ex rs s e) (slotted_core rs fs (y ∷ s) a)
slotted_core rs fs s (Bind y a c) = cond (is_unread y) (a_then (slotted_core rs fs s a) (slotted_core rs fs s c)) (a_bind (slotted_core rs fs s a) (slotted_core rs fs (y ∷ s) c))
slotted_core rs fs s (If e a c) = a_if (slotted_core_ex rs s e) (slotted_core rs fs s a) (slotted_core rs fs s c)
slotted_core rs fs s (CaseMaybe e a y c) = a_maybe (slotted_core_ex rs s e) (slotted_core rs fs s a) (slotted_core rs fs (y ∷ s) c)
slotted_core rs fs s (CaseEither e y a z c) = a_either (slotted_core_ex rs s e) (slotted_core rs fs (y ∷ s) a) (slotted_core rs fs (z ∷ s) c)
slotted_core rs fs s (CaseList e a y z c) = a_list (slotted_core_ex rs s e) (slotted_core rs fs s a) (slotted_core rs fs (z ∷ y ∷ s) c)
slotted_core rs fs s (CasePair e y z a) = a_pair (slotted_core_ex rs s e) (slotted_core rs fs (z ∷ y ∷ s) a)
slotted_core rs fs s (Call f es) = a_call (place_among fs f) (slotted_all rs s es)
slotted_core rs fs s (Perform p es) = a_perform p (slotted_core_exs rs s es)
slotted_core rs fs s (Fork a) = a_fork (slotted_core rs fs s a)
slotted_core rs fs s (ForkUnmask y a) = a_fork_unmask (slotted_core rs fs (y ∷ s) a)
slotted_core rs fs s (Catch a y c) = a_catch (slotted_core rs fs s a) (slotted_core rs fs (y ∷ s) c)
slotted_core rs fs s (MaskWith y a) = a_mask (slotted_core rs fs (y ∷ s) a)
slotted_core rs fs s (MaskHard y a) = a_mask_hard (slotted_core rs fs (y ∷ s) a)
slotted_core rs fs s (Restore y a) = a_restore (slot_or_end (slot_of s y) s) (slotted_core rs fs s a)

-- an action function with slots: how many parameters it has, which are its first slots, and its body
pub record SlottedFunction : Type 0 where
  pub params : ℕ
  pub body : Sa

-- the scope of parameters
abbrev pub scope_of_names : Scope → List Name → Scope
scope_of_names s [] = s
scope_of_names s (y ∷ ys) = scope_of_names (y ∷ s) ys

abbrev pub slotted_function : List Root → List ActionFunction → ActionFunction → SlottedFunction
slotted_function rs fs d = record { params = length d.params; body = slotted_core rs fs (scope_of_names [] d.params) d.body }

abbrev pub slotted_functions : List Root → List ActionFunction → List ActionFunction → List SlottedFunction
slotted_functions rs fs [] = []
slotted_functions rs fs (d ∷ ds) = slotted_function rs fs d ∷ slotted_functions rs fs ds

-- what the code of a script stands for: its action functions in order
abbrev pub code_trees : List Fn → List SlottedFunction
code_trees script = slotted_functions (roots_of script) (actions_of script) (actions_of script)

abbrev pub tree_or_bad : List Fn → Option Core → Sa
tree_or_bad script None = a_bad
tree_or_bad script (Some c) = slotted_core (roots_of script) (actions_of script) [] c

-- the body of `main`
abbrev pub main_tree : List Fn → Sa
main_tree script = tree_or_bad script (main_of script)

-- ---- numbered nodes

abbrev pub act_in : List Sa → ActId → Sa
act_in us i = slice_index_or us i.0 a_bad

-- a node, with the trees of the expressions and those of the actions before it
abbrev pub act_decode : List Sx → List Sa → Act → Sa
act_decode ts us (a.Return e) = a_return (tree_in ts e)
act_decode ts us (a.Throw e) = a_throw (tree_in ts e)
act_decode ts us (a.Let e i) = a_let (tree_in ts e) (act_in us i)
act_decode ts us (a.Bind i j) = a_bind (act_in us i) (act_in us j)
act_decode ts us (a.Then i j) = a_then (act_in us i) (act_in us j)
act_decode ts us (a.If e i j) = a_if (tree_in ts e) (act_in us i) (act_in us j)
act_decode ts us (a.CaseMaybe e i j) = a_maybe (tree_in ts e) (act_in us i) (act_in us j)
act_decode ts us (a.CaseEither e i j) = a_either (tree_in ts e) (act_in us i) (act_in us j)
act_decode ts us (a.CaseList e i j) = a_list (tree_in ts e) (act_in us i) (act_in us j)
act_decode ts us (a.CasePair e i) = a_pair (tree_in ts e) (act_in us i)
act_decode ts us (a.Call f es) = a_call f (trees_in ts es)
act_decode ts us (a.Perform p es) = a_perform p (trees_in ts es)
act_decode ts us (a.Fork i) = a_fork (act_in us i)
act_decode ts us (a.ForkUnmask i) = a_fork_unmask (act_in us i)
act_decode ts us (a.Catch i j) = a_catch (act_in us i) (act_in us j)
act_decode ts us (a.Mask i) = a_mask (act_in us i)
act_decode ts us (a.UninterruptibleMask i) = a_mask_hard (act_in us i)
act_decode ts us (a.Restore k i) = a_restore k (act_in us i)

abbrev pub act_trees_onto : List Sx → List Act → List Sa → List Sa
act_trees_onto ts [] us = us
act_trees_onto ts (k ∷ ks) us = act_trees_onto ts ks (us ++ act_decode ts us k ∷ [])

-- the trees of action nodes, beside nodes of expressions
abbrev pub act_trees : List Node → List Act → List Sa
act_trees ns ks = act_trees_onto (trees ns) ks []

abbrev pub act_tree_at : List Node → List Act → ActId → Sa
act_tree_at ns ks i = act_in (act_trees ns ks) i

-- what the functions of a code stand for
abbrev pub functions_at : List Node → List Act → List Fun → List SlottedFunction
functions_at ns ks [] = []
functions_at ns ks (f ∷ fs) = record { params = f.params; body = act_tree_at ns ks f.body } ∷ functions_at ns ks fs

-- The nodes, the functions and the number of `main`'s body stand for the expansion of a script, which is accepted.
pub record StandsFor (nodes : List Node) (acts : List Act) (funs : List Fun) (main : ActId) (script : Script) : Type 0 where
  pub accepted : Accepted script
  pub functions : functions_at nodes acts funs ≡ code_trees (script_of script)
  pub main_is : act_tree_at nodes acts main ≡ main_tree (script_of script)

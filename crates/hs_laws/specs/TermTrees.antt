-- Terms as trees of the seven forms, and the local rules on them.
--
-- The active part of a term is found by going into the term of each bind, catch and masking scope ("Asynchronous
-- Exceptions in Haskell": evaluation contexts).
use Rattle.std.specs.Prelude.{ℕ, zero, suc, List, [], ◌∷◌, Option, Some, None}
use Rattle.hs_base.specs.declared.mask.Mask.{Mask}
use Rattle.hs_base.specs.declared.mask.Mask.TheVariants.{Unmasked, Masked}
use Rattle.hs_base.specs.declared.exn.Exn.{Exn}
use Rattle.hs_base.specs.Masks.{join_of}
use Rattle.rules_expansion.specs.Names.{Name}
use Rattle.rules_meaning.specs.Values.{V, Exception, Env, with_name}
use Rattle.rules_expansion.specs.Core.{Core}
use Rattle.rules_meaning.specs.CoreMeaning.{Code}
use Rattle.hs_rules.specs.Terms.{Operation, Part, Ret, Throw, Do, Performs, Frame, BindTo, CatchBy, MaskIn, Term}
use Rattle.hs_rules.specs.LocalRules.{first_step}

pub data Tree : Type 0 where
  TreeRet : V → Tree
  TreeThrow : Exn → Tree
  TreeDo : Core → Env → Tree
  TreeOp : Operation → Tree
  -- the rest of a block waits for the value of a term
  TreeBind : Tree → Name → Core → Env → Tree
  -- a handler waits for an exception of a term
  TreeCatch : Tree → Name → Core → Env → Tree
  TreeMask : Mask → Tree → Tree

-- ---- a part in its frames as a tree

abbrev pub leaf : Part → Tree
leaf (Ret u) = TreeRet u
leaf (Throw e) = TreeThrow e
leaf (Do a env) = TreeDo a env
leaf (Performs p) = TreeOp p

-- a tree in a context, the innermost frame first
abbrev pub around : List Frame → Tree → Tree
around [] t = t
around (BindTo x b env ∷ fs) t = around fs (TreeBind t x b env)
around (CatchBy x b env ∷ fs) t = around fs (TreeCatch t x b env)
around (MaskIn m ∷ fs) t = around fs (TreeMask m t)

abbrev pub tree_of : Term → Tree
tree_of t = around t.frames (leaf t.part)

-- ---- the active part, its masking state, and what stands in its place

abbrev pub active : Tree → Part
active (TreeRet u) = Ret u
active (TreeThrow e) = Throw e
active (TreeDo a env) = Do a env
active (TreeOp p) = Performs p
active (TreeBind t x b env) = active t
active (TreeCatch t x b env) = active t
active (TreeMask m t) = active t

-- the state of the innermost masking scope on the way to the active part, or else s
abbrev pub mask_within : Mask → Tree → Mask
mask_within s (TreeRet u) = s
mask_within s (TreeThrow e) = s
mask_within s (TreeDo a env) = s
mask_within s (TreeOp p) = s
mask_within s (TreeBind t x b env) = mask_within s t
mask_within s (TreeCatch t x b env) = mask_within s t
mask_within s (TreeMask m t) = mask_within m t

-- the masking state at the active part
abbrev pub mask_of : Tree → Mask
mask_of t = mask_within Unmasked t

-- u in the place of the active part
abbrev pub replace : Tree → Tree → Tree
replace (TreeRet w) u = u
replace (TreeThrow e) u = u
replace (TreeDo a env) u = u
replace (TreeOp p) u = u
replace (TreeBind t x b env) u = TreeBind (replace t u) x b env
replace (TreeCatch t x b env) u = TreeCatch (replace t u) x b env
replace (TreeMask m t) u = TreeMask m (replace t u)

-- ---- one local rule

abbrev pub map_tree : {A : Type 0} → (A → Tree) → Option A → Option Tree
map_tree {A} f None = None
map_tree {A} f (Some t) = Some (f t)

-- One local rule where the masking state round the tree is s: at an action one of return to restore, directly round a
-- value or an exception one of give to escape, and else further inside.
abbrev pub tree_step : Code → Tree → Mask → Option Tree
tree_step code (TreeRet u) s = None
tree_step code (TreeThrow e) s = None
tree_step code (TreeOp p) s = None
tree_step code (TreeDo a env) s = map_tree tree_of (first_step code s a env)
tree_step code (TreeBind (TreeRet u) x b env) s = Some (TreeDo b (with_name x u env))
tree_step code (TreeBind (TreeThrow e) x b env) s = Some (TreeThrow e)
tree_step code (TreeBind t x b env) s = map_tree (λ u. TreeBind u x b env) (tree_step code t s)
tree_step code (TreeCatch (TreeRet u) x b env) s = Some (TreeRet u)
tree_step code (TreeCatch (TreeThrow e) x b env) s = Some (TreeMask (join_of Masked s) (TreeDo b (with_name x (Exception e) env)))
tree_step code (TreeCatch t x b env) s = map_tree (λ u. TreeCatch u x b env) (tree_step code t s)
tree_step code (TreeMask m (TreeRet u)) s = Some (TreeRet u)
tree_step code (TreeMask m (TreeThrow e)) s = Some (TreeThrow e)
tree_step code (TreeMask m t) s = map_tree (TreeMask m) (tree_step code t m)

abbrev pub tree_local : Code → Tree → Option Tree
tree_local code t = tree_step code t Unmasked

abbrev pub on_tree : Option Tree → (Tree → Option Tree) → Option Tree
on_tree None k = None
on_tree (Some t) k = k t

-- this many local rules in turn
abbrev pub tree_locals : Code → ℕ → Tree → Option Tree
tree_locals code zero t = Some t
tree_locals code (suc k) t = on_tree (tree_local code t) (λ u. tree_locals code k u)

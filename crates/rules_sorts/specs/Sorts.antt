-- Scopes of core actions (own): names with what each stands for.
use Rattle.std.specs.Prelude.{List, [], ◌∷◌, Option, Some, None, cond}
use Rattle.rules_expansion.specs.trees.Trees.{T}
use Rattle.rules_expansion.specs.Names.{Name, same_name}

-- what a name of a scope stands for
pub data Sort : Type 0 where
  a_value : T → Sort
  -- bound by `mask`, `uninterruptibleMask` or `forkIOWithUnmask`
  a_masking_name : Sort
  -- the number of one use of `bracket`, which an expansion binds
  an_instance : Sort
  -- the cell in which the thread of an async scope leaves how its action, which gives this type, ended: an expansion binds it too
  a_scope_cell : T → Sort

-- a scope: names with their sorts, the last bound first
pub record SortedName : Type 0 where
  pub name : Name
  pub sort : Sort

abbrev pub sort_at : Name → List SortedName → Option Sort
sort_at y [] = None
sort_at y (c ∷ cs) = cond (same_name y c.name) (Some c.sort) (sort_at y cs)

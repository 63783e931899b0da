-- The type that a type of the checker stands for, by a table of types.
use Rattle.std.specs.Prelude.{◌≡◌, ℕ, suc, ◌≤◌, max, List, [], ◌∷◌, ◌++◌, get_or, slice_get, Some}
use Rattle.rules_expansion.specs.trees.Trees.{T, unit, int, bool, text, thread, exn, pair, maybe, either, list, cell, async}
use Rattle.typing_table.specs.declared.base.Base.{Base}
use Rattle.typing_table.specs.declared.base.Base.TheVariants as b
use Rattle.typing_table.specs.declared.kind.TypeKind.{TypeKind}
use Rattle.typing_table.specs.declared.kind.TypeKind.TheVariants as k
use Rattle.typing_table.specs.declared.table.TypeNode.{TypeNode}
use Rattle.typing_table.specs.declared.table.TypeNode.TheVariants as n
use Rattle.typing_table.specs.declared.ty.TypeTerm.{TypeTerm}
use Rattle.typing_table.specs.declared.ty.TypeTerm.TheOpen.{TypeTerm-F}
use Rattle.typing_table.specs.declared.ty.TypeTerm.TheFolds.{fold-TypeTerm}

abbrev pub base_of : Base → T
base_of b.Unit = unit
base_of b.Int = int
base_of b.Bool = bool
base_of b.Text = text
base_of b.Thread = thread
base_of b.Exn = exn

-- the outermost form of a type
abbrev pub kind_of : T → TypeKind
kind_of unit = k.Base b.Unit
kind_of int = k.Base b.Int
kind_of bool = k.Base b.Bool
kind_of text = k.Base b.Text
kind_of thread = k.Base b.Thread
kind_of exn = k.Base b.Exn
kind_of (pair s t) = k.Pair
kind_of (maybe t) = k.Maybe
kind_of (either s t) = k.Either
kind_of (list t) = k.List
kind_of (cell t) = k.Cell
kind_of (async t) = k.Async

-- ---- the table

-- the type at a place; behind the end stands ()
abbrev pub item : List T → ℕ → T
item ts i = get_or ts i unit

-- the type of a node over the types at its parts' places
abbrev pub node_type : List T → TypeNode → T
node_type ts (n.Base o) = base_of o
node_type ts (n.Pair i j) = pair (item ts i) (item ts j)
node_type ts (n.Maybe i) = maybe (item ts i)
node_type ts (n.Either i j) = either (item ts i) (item ts j)
node_type ts (n.List i) = list (item ts i)
node_type ts (n.Cell i) = cell (item ts i)
node_type ts (n.Async i) = async (item ts i)

-- the types at the places of a table, after those that stand before it
abbrev pub types_after : List T → List TypeNode → List T
types_after ts [] = ts
types_after ts (m ∷ ms) = types_after (ts ++ node_type ts m ∷ []) ms

abbrev pub types_at : List TypeNode → List T
types_at ms = types_after [] ms

-- the type at a place of a table
abbrev pub known : List TypeNode → ℕ → T
known ms i = item (types_at ms) i

-- how many places of a table a node's parts need
abbrev pub reach : TypeNode → ℕ
reach (n.Base o) = 0
reach (n.Pair i j) = max (suc i) (suc j)
reach (n.Maybe i) = suc i
reach (n.Either i j) = max (suc i) (suc j)
reach (n.List i) = suc i
reach (n.Cell i) = suc i
reach (n.Async i) = suc i

-- a node's parts stand before a place
abbrev pub Below : TypeNode → ℕ → Type 0
Below m i = reach m ≤ i

-- each node stands behind its parts
abbrev pub Ordered : List TypeNode → Type 0
Ordered ms = (i : ℕ) (m : TypeNode) → slice_get ms i ≡ Some m → Below m i

-- more nodes stand behind those of a table
abbrev pub Grows : List TypeNode → List TypeNode → Type 0
Grows old new = (more : List TypeNode) × (new ≡ old ++ more)

-- ---- types of the checker

abbrev pub type_step : List TypeNode → TypeTerm-F T → T
type_step ms (TypeTerm-F.Base o) = base_of o
type_step ms (TypeTerm-F.Pair s t) = pair s t
type_step ms (TypeTerm-F.Maybe t) = maybe t
type_step ms (TypeTerm-F.Either s t) = either s t
type_step ms (TypeTerm-F.List t) = list t
type_step ms (TypeTerm-F.Cell t) = cell t
type_step ms (TypeTerm-F.Async t) = async t
type_step ms (TypeTerm-F.Known i) = known ms i

-- the type that a type of the checker stands for
abbrev pub type_in : List TypeNode → TypeTerm → T
type_in ms = fold-TypeTerm T (type_step ms)

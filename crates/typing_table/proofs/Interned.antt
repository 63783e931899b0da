-- What the place of a node says of the node's type, where its parts were read before the node was put.
use Rattle.std.proofs.Common.{◌≡◌, ℕ, ◌<◌, List, length, Result, Some, ◌∙◌, arith}
use Rattle.std.proofs.lemmas.Option.{slice_get_within}
use Rattle.std.proofs.lemmas.Result.{IfOk-weaker}
use Rattle.std.specs.List.{slice_get}
use Rattle.std.specs.Result.{IfOk}
use Rattle.hs_base.specs.declared.no_memory.NoMemory.{NoMemory}
use Rattle.rules_expansion.specs.trees.Trees.{T}
use Rattle.typing_table.specs.declared.table.TypeNode.{TypeNode}
use Rattle.typing_table.specs.Meaning.{node_type, types_at, known, Below, Ordered, Grows}
use Rattle.typing_table.proofs.Tables.{known-node, node_type-within, known-grows, grows_length, grows_more}

placed : (first old new : List TypeNode) (m : TypeNode) (u : T) (place : ℕ)
    → Ordered new → Below m (length old) → node_type (types_at old) m ≡ u → Grows first old
    → Grows old new × (slice_get new place ≡ Some m)
    → Grows first new × (place < length new) × (known new place ≡ u)
placed first old new m u place o b e g h = (
  grows_more first old new g h.0,
  slice_get_within new place m h.1,
  known-node new place m o h.1
      ∙ node_type-within (types_at new) (types_at old) m (λ i k. known-grows old new i h.0 (omega (arith, b)))
      ∙ e,
)

pub interned : (r : Result ℕ NoMemory) (first old new : List TypeNode) (m : TypeNode) (u : T)
    → Ordered new → Below m (length old) → node_type (types_at old) m ≡ u → Grows first old
    → IfOk r (λ place. Grows old new × (slice_get new place ≡ Some m))
    → IfOk r (λ place. Grows first new × (place < length new) × (known new place ≡ u))
interned r first old new m u o b e g =
    IfOk-weaker r (λ place. Grows old new × (slice_get new place ≡ Some m))
    (λ place. Grows first new × (place < length new) × (known new place ≡ u))
    (λ place. placed first old new m u place o b e g)

-- what a first part's place says still holds after the second part
pub kept : (first mid old : List TypeNode) (i : ℕ) (u : T)
    → Grows first mid × (i < length mid) × (known mid i ≡ u) → Grows mid old
    → Grows first old × (i < length old) × (known old i ≡ u)
kept first mid old i u h g = (
  grows_more first mid old h.0 g,
  omega (arith, h.1, grows_length mid old g),
  known-grows mid old i g h.1 ∙ h.2,
)

-- Tables of types: what stands at a place, and what stays there as the table grows.
use Rattle.std.proofs.Common.{◌≡◌, ℕ, zero, suc, ◌+◌, ◌<◌, ◌≤◌, List, [], ◌∷◌, ◌++◌, length, Some, refl, sym, ap, ◌∙◌, subst, arith, append_assoc, append-nil, length-append, None}
use Rattle.std.proofs.lemmas.List.{get_or_past}
use Rattle.std.proofs.Math.ListN.{get_or-append}
use Rattle.std.proofs.Math.Seq.{get_or-append_seam}
use Rattle.std.specs.List.{slice_get}
use Rattle.rules_expansion.specs.trees.Trees.{T, unit, pair, maybe, either, list, cell, async}
use Rattle.typing_table.specs.declared.table.TypeNode.{TypeNode}
use Rattle.typing_table.specs.declared.table.TypeNode.TheVariants as n
use Rattle.typing_table.specs.Meaning.{item, node_type, types_after, types_at, known, reach, Ordered, Grows}

-- ---- the types of a table

after-append : (ts : List T) (ms more : List TypeNode) → types_after ts (ms ++ more) ≡ types_after (types_after ts ms) more
after-append ts [] more = refl
after-append ts (m ∷ ms) more = after-append (ts ++ node_type ts m ∷ []) ms more

length-after : (ts : List T) (ms : List TypeNode) → length (types_after ts ms) ≡ length ts + length ms
length-after ts [] = omega arith
length-after ts (m ∷ ms) =
    omega (arith, length-after (ts ++ node_type ts m ∷ []) ms, length-append ts (node_type ts m ∷ []))

-- what stood before stays
item-after : (ts : List T) (ms : List TypeNode) (i : ℕ) → i < length ts → item (types_after ts ms) i ≡ item ts i
item-after ts [] i h = refl
item-after ts (m ∷ ms) i h =
    item-after (ts ++ node_type ts m ∷ []) ms i (omega (arith, length-append ts (node_type ts m ∷ [])))
    ∙ get_or-append ts (node_type ts m ∷ []) unit i h

pub length-types_at : (ms : List TypeNode) → length (types_at ms) ≡ length ms
length-types_at ms = omega (arith, length-after [] ms)

-- ---- a place of a table

pub known-append : (ms more : List TypeNode) (i : ℕ) → i < length ms → known (ms ++ more) i ≡ known ms i
known-append ms more i h =
    ap (λ ts. item ts i) (after-append [] ms more) ∙ item-after (types_at ms) more i (omega (arith, length-types_at ms))

pub known-past : (ms : List TypeNode) (i : ℕ) → length ms ≤ i → known ms i ≡ unit
known-past ms i h = get_or_past (types_at ms) i unit (omega (arith, length-types_at ms))

slice_get-none : (ms : List TypeNode) (i : ℕ) → slice_get ms i ≡ None → length ms ≤ i
slice_get-none [] i e = omega arith
slice_get-none (m ∷ ms) zero e = cc
slice_get-none (m ∷ ms) (suc i) e = omega (arith, slice_get-none ms i e)

pub known-none : (ms : List TypeNode) (i : ℕ) → slice_get ms i ≡ None → known ms i ≡ unit
known-none ms i e = known-past ms i (slice_get-none ms i e)

-- a node's type depends on no places but its parts'
pub node_type-within : (ts us : List T) (m : TypeNode) → ((i : ℕ) → i < reach m → item ts i ≡ item us i) → node_type ts m ≡ node_type us m
node_type-within ts us (n.Base o) h = refl
node_type-within ts us (n.Pair i j) h = ap (λ z. pair z (item ts j)) (h i (omega arith)) ∙ ap (pair (item us i)) (h j (omega arith))
node_type-within ts us (n.Maybe i) h = ap maybe (h i (omega arith))
node_type-within ts us (n.Either i j) h = ap (λ z. either z (item ts j)) (h i (omega arith)) ∙ ap (either (item us i)) (h j (omega arith))
node_type-within ts us (n.List i) h = ap list (h i (omega arith))
node_type-within ts us (n.Cell i) h = ap cell (h i (omega arith))
node_type-within ts us (n.Async i) h = ap async (h i (omega arith))

-- the first node after some types
head-after : (ts : List T) (m : TypeNode) (ms : List TypeNode) → reach m ≤ length ts
    → item (types_after ts (m ∷ ms)) (length ts) ≡ node_type (types_after ts (m ∷ ms)) m
head-after ts m ms h =
    item-after (ts ++ node_type ts m ∷ []) ms (length ts) (omega (arith, length-append ts (node_type ts m ∷ [])))
    ∙ get_or-append_seam ts (node_type ts m) [] unit
    ∙ node_type-within ts (types_after ts (m ∷ ms)) m (λ i k. sym (item-after ts (m ∷ ms) i (omega arith)))

node-after : (ts : List T) (ms : List TypeNode) (i k : ℕ) (m : TypeNode) → k ≡ length ts + i → slice_get ms i ≡ Some m
    → reach m ≤ k
    → item (types_after ts ms) k ≡ node_type (types_after ts ms) m
node-after ts [] i k m e f h = cc
node-after ts (x ∷ ms) zero k m e f h =
    let same : x ≡ m = cc in
    let at : length ts ≡ k = omega arith in
    let less : reach x ≤ length ts = subst (λ z. reach z ≤ length ts) (sym same) (omega arith) in
    ap (item (types_after ts (x ∷ ms))) (sym at) ∙ head-after ts x ms less ∙ ap (node_type (types_after ts (x ∷ ms))) same
node-after ts (x ∷ ms) (suc i) k m e f h =
    node-after (ts ++ node_type ts x ∷ []) ms i k m (omega (arith, length-append ts (node_type ts x ∷ []))) f h

-- the parts of a node stand before it, so its type can be read in the whole table
pub known-node : (ms : List TypeNode) (i : ℕ) (m : TypeNode) → Ordered ms → slice_get ms i ≡ Some m → known ms i ≡ node_type (types_at ms) m
known-node ms i m o e = node-after [] ms i i m (omega arith) e (o i m e)

-- ---- tables that grow

pub grows_self : (ms : List TypeNode) → Grows ms ms
grows_self ms = ([], sym (append-nil ms))

pub grows_more : (a b c : List TypeNode) → Grows a b → Grows b c → Grows a c
grows_more a b c (x, p) (y, q) = (x ++ y, q ∙ ap (λ z. z ++ y) p ∙ append_assoc a x y)

pub grows_length : (old new : List TypeNode) → Grows old new → length old ≤ length new
grows_length old new (x, p) = omega (arith, ap length p, length-append old x)

pub known-grows : (old new : List TypeNode) (i : ℕ) → Grows old new → i < length old → known new i ≡ known old i
known-grows old new i (x, p) h = ap (λ z. known z i) p ∙ known-append old x i h

-- Nodes that are read with the trees before them.
use Rattle.std.proofs.Common.{◌≡◌, ℕ, zero, suc, ◌+◌, ◌<◌, ◌≤◌, List, [], ◌∷◌, ◌++◌, length, take, get_or, Some, None, refl, ap, ◌∙◌, sym, arith, append_assoc, length-append, length-take, ⊎_elim}
use Rattle.std.proofs.lemmas.List.{append-nil, get_or-take, get_or_append_left, get_or_past}
use Rattle.std.proofs.Math.Seq.{get_or-append_seam, take-append_seam}
use Rattle.std.specs.Prelude.{slice_get}
use Rattle.std.proofs.lemmas.Option.{slice_get_cases}
use Rattle.rules_code.specs.declared.node.ExprId.{ExprId}
use Rattle.rules_code.specs.declared.node.Node.{Node}
use Rattle.rules_code.specs.Slots.{Sx, s_bad, tree_in, decode, trees_onto, trees, tree_at}

-- the trees of the nodes before stay
onto-prefix : (ns : List Node) (ts : List Sx) → (more : List Sx) × (trees_onto ns ts ≡ ts ++ more)
onto-prefix [] ts = ([], sym (append-nil ts))
onto-prefix (k ∷ ns) ts =
    let r = onto-prefix ns (ts ++ decode ts k ∷ []) in (decode ts k ∷ r.0, r.1 ∙ append_assoc ts (decode ts k ∷ []) r.0)

onto-length : (ns : List Node) (ts : List Sx) → length (trees_onto ns ts) ≡ length ts + length ns
onto-length [] ts = omega arith
onto-length (k ∷ ns) ts = let h = onto-length ns (ts ++ decode ts k ∷ []) in let l = length-append ts (decode ts k ∷ []) in omega (arith, h, l)

onto-push : (ns : List Node) (k : Node) (ts : List Sx) → trees_onto (ns ++ k ∷ []) ts ≡ trees_onto ns ts ++ decode (trees_onto ns ts) k ∷ []
onto-push [] k ts = refl
onto-push (x ∷ ns) k ts = onto-push ns k (ts ++ decode ts x ∷ [])

pub trees-push : (ns : List Node) (k : Node) → trees (ns ++ k ∷ []) ≡ trees ns ++ decode (trees ns) k ∷ []
trees-push ns k = onto-push ns k []

pub trees-length : (ns : List Node) → length (trees ns) ≡ length ns
trees-length ns = let h = onto-length ns [] in omega (arith, h)

-- a node's tree is read with the trees of the nodes before it
onto-at : (ns : List Node) (ts : List Sx) (j : ℕ) (k : Node) → slice_get ns j ≡ Some k
    → get_or (trees_onto ns ts) (length ts + j) s_bad ≡ decode (take (length ts + j) (trees_onto ns ts)) k
onto-at [] ts j k h = let z : None ≡ Some k = h in cc
onto-at (x ∷ ns) ts zero k h =
    let xk : x ≡ k = cc in
    let r = onto-prefix ns (ts ++ decode ts x ∷ []) in
    let e : trees_onto ns (ts ++ decode ts x ∷ []) ≡ ts ++ decode ts x ∷ r.0 = r.1 ∙ append_assoc ts (decode ts x ∷ []) r.0 in
    let n : length ts + 0 ≡ length ts = omega arith in
    ap (λ z. get_or z (length ts + 0) s_bad) e ∙ (ap (λ i. get_or (ts ++ decode ts x ∷ r.0) i s_bad) n ∙ (get_or-append_seam ts (decode ts x) r.0 s_bad
    ∙ (ap (decode ts) xk ∙ sym (ap (λ z. decode (take (length ts + 0) z) k) e ∙ (ap (λ i. decode (take i (ts ++ decode ts x ∷ r.0)) k) n ∙ ap (λ z. decode z k) (take-append_seam ts (decode ts x ∷ r.0)))))))
onto-at (x ∷ ns) ts (suc j) k h =
    let w = onto-at ns (ts ++ decode ts x ∷ []) j k h in
    let l = length-append ts (decode ts x ∷ []) in
    let e : length (ts ++ decode ts x ∷ []) + j ≡ length ts + suc j = omega (arith, l) in
    ap (λ i. get_or (trees_onto ns (ts ++ decode ts x ∷ [])) i s_bad) (sym e) ∙ (w ∙ ap (λ i. decode (take i (trees_onto ns (ts ++ decode ts x ∷ []))) k) e)

pub tree_at-is : (ns : List Node) (i : ExprId) (k : Node) → slice_get ns i.0 ≡ Some k → tree_at ns i ≡ decode (take i.0 (trees ns)) k
tree_at-is ns i k h =
    let e : 0 + i.0 ≡ i.0 = omega arith in ap (λ j. get_or (trees ns) j s_bad) (sym e) ∙ (onto-at ns [] i.0 k h ∙ ap (λ j. decode (take j (trees ns)) k) e)

pub tree_in-below : (ts : List Sx) (n : ℕ) (i : ExprId) → i.0 < n → tree_in (take n ts) i ≡ tree_in ts i
tree_in-below ts n i h = get_or-take n ts i.0 s_bad h

pub tree_in-past : (ts : List Sx) (i : ExprId) → length ts ≤ i.0 → tree_in ts i ≡ s_bad
tree_in-past ts i h = get_or_past ts i.0 s_bad h

pub part-past : (ts : List Sx) (n : ℕ) (i : ExprId) → n ≤ i.0 → tree_in (take n ts) i ≡ s_bad
part-past ts n i h = tree_in-past (take n ts) i (let l = length-take n ts in grind (arith, l))

tree_at-none : (ns : List Node) (i : ExprId) → length ns ≤ i.0 → tree_at ns i ≡ s_bad
tree_at-none ns i h = tree_in-past (trees ns) i (let l = trees-length ns in omega (arith, l))

pub tree_none_get : (ns : List Node) (i : ExprId) → slice_get ns i.0 ≡ None → tree_at ns i ≡ s_bad
tree_none_get ns i h = ⊎_elim (λ w. let e = w.2 in cc) (λ w. tree_at-none ns i w.0) (slice_get_cases ns i.0).1

-- more nodes change no tree of the earlier ones
pub tree_at-more : (ns ms : List Node) (i : ExprId) → i.0 < length ns → tree_at (ns ++ ms) i ≡ tree_at ns i
tree_at-more ns [] i h = ap (λ z. tree_at z i) (let e : ns ++ [] ≡ ns = append-nil ns in e)
tree_at-more ns (k ∷ ms) i h =
    let l = length-append ns (k ∷ []) in
    let r = tree_at-more (ns ++ k ∷ []) ms i (omega (arith, l)) in
    let t = trees-length ns in
    ap (λ z. tree_at z i) (sym (append_assoc ns (k ∷ []) ms)) ∙ (r ∙ (ap (λ z. get_or z i.0 s_bad) (trees-push ns k) ∙ get_or_append_left (trees ns) (decode (trees ns) k ∷ []) s_bad i.0 (omega (arith, t))))

-- the last node is read with the trees before it
pub tree_at-last : (ns : List Node) (k : Node) (i : ExprId) → i.0 ≡ length ns → tree_at (ns ++ k ∷ []) i ≡ decode (trees ns) k
tree_at-last ns k i e =
    let t = trees-length ns in
    ap (λ z. get_or z i.0 s_bad) (trees-push ns k) ∙ (ap (λ j. get_or (trees ns ++ decode (trees ns) k ∷ []) j s_bad) (let z : i.0 ≡ length (trees ns) = omega (arith, t, e) in z) ∙ get_or-append_seam (trees ns) (decode (trees ns) k) [] s_bad)

pub ruleset arena_rules = (tree_at-is, tree_none_get, tree_in-below, part-past)

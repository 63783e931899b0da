-- The last of the nodes of an expression stands for the expression with slots.
use Rattle.std.proofs.Common.{◌≡◌, ℕ, ◌+◌, ◌-◌, ◌==◌, ◌<◌, ◌≤◌, List, [], ◌∷◌, ◌++◌, length, true, false, cond, Option, Some, None, refl, ap, ◌∙◌, sym, subst, arith, append_assoc, length-append}
use Rattle.std.proofs.lemmas.List.{append-nil}
use Rattle.std.specs.Prelude.{bytes_eq}
use Rattle.rules_code.specs.declared.node.ExprId.{ExprId}
use Rattle.rules_code.specs.declared.node.NodeLink.{NodeLink}
use Rattle.rules_code.specs.declared.node.Node.{Node}
use Rattle.rules_code.specs.declared.node.Node.TheVariants as n
use Rattle.rules_expansion.specs.trees.Trees.{Ex, Exs, Links, Arms, Lit, number, letters, truth, nothing_more, exception, lit, name, unary, binary, chain, conses, choose, items, empty, side, given, case, none, more, end, link, maybe_arms, either_arms, list_arms, pair_arms}
use Rattle.rules_expansion.specs.Names.{Written}
use Rattle.rules_code.specs.Slots.{Sx, Sxs, Slinks, s_literal, s_empty, s_slot, s_unary, s_side, s_binary, s_chain, s_conses, s_items, s_choose, s_given, s_maybe, s_either, s_list, s_pair, s_call, s_bad, s_none, s_more, s_end, s_link, Scope, slot_of, Root, body_of, read_or, count, slotted, slotted_all, slotted_links, slotted_arms, decode, trees, tree_at, tree_in, trees_in, links_in}
use Rattle.rules_code.proofs.Arena.{trees-length, tree_at-more, tree_at-last, tree_in-past}
use Rattle.hs_nodes.specs.declared.places.Place.{Place}
use Rattle.hs_nodes.specs.Standing.{Stands, Known, AllStand}
use Rattle.hs_nodes.specs.Emitting.{place_of, last_at, own1, own2, own3, literal_node, read_nodes, nodes_of, all_nodes, ids_of, link_nodes, node_links, arm_nodes}

-- ---- numbers that stand for trees

pub stands_more : (ns ms : List Node) (i : ExprId) (t : Sx) → Stands ns i t → Stands (ns ++ ms) i t
stands_more ns ms i t h = record { below = (let l = length-append ns ms in let b = h.below in omega (arith, l, b)); is = tree_at-more ns ms i h.below ∙ h.is }

pub known_more : (ns ms : List Node) (rs : List Place) (bs : List Root) → Known ns rs bs → Known (ns ++ ms) rs bs
known_more ns ms [] [] h = tt
known_more ns ms [] (b ∷ bs) h = absurd h
known_more ns ms (r ∷ rs) [] h = absurd h
known_more ns ms (r ∷ rs) (b ∷ bs) h = (h.0, h.1, stands_more ns ms r.node b.tree h.2, known_more ns ms rs bs h.3)

place_found : (ns : List Node) (r : Place) (b : Root) (k : ℕ) (d : ExprId) → r.params ≡ b.params → Stands ns r.node b.tree → length ns ≤ d.0 → tree_at ns (cond (r.params == k) r.node d) ≡ cond (b.params == k) b.tree s_bad
place_found ns r b k d e h l =
    elim (r.params == k) as (λ t. tree_at ns (cond t r.node d) ≡ cond t b.tree s_bad) [ true ↦ h.is | false ↦ tree_in-past (trees ns) d (let z = trees-length ns in omega (arith, z, l)) ]
    ∙ ap (λ m. cond (m == k) b.tree s_bad) e

place_is : (ns : List Node) (rs : List Place) (bs : List Root) (f : List ℕ) (k : ℕ) (d : ExprId) → Known ns rs bs → length ns ≤ d.0 → tree_at ns (place_of rs f k d) ≡ body_of bs f k
place_is ns [] [] f k d h l = tree_in-past (trees ns) d (let z = trees-length ns in omega (arith, z, l))
place_is ns [] (b ∷ bs) f k d h l = absurd h
place_is ns (r ∷ rs) [] f k d h l = absurd h
place_is ns (r ∷ rs) (b ∷ bs) f k d h l =
    elim (bytes_eq r.text f) as (λ t. tree_at ns (cond t (cond (r.params == k) r.node d) (place_of rs f k d)) ≡ cond t (cond (b.params == k) b.tree s_bad) (body_of bs f k)) [
      | true ↦ place_found ns r b k d h.1 h.2 l
      | false ↦ place_is ns rs bs f k d h.3 l
    ]
    ∙ ap (λ z. cond (bytes_eq z f) (cond (b.params == k) b.tree s_bad) (body_of bs f k)) h.0

-- ---- nodes that end with a tree

pub record Ends (ns ms : List Node) (t : Sx) : Type 0 where
  pub some : 0 < length ms
  pub is : tree_at (ns ++ ms) (last_at (length ns) ms) ≡ t

-- the number of the last
pub at_end : (ns ms : List Node) (t : Sx) (i : ℕ) → i ≡ length ns → Ends ns ms t → Stands (ns ++ ms) (last_at i ms) t
at_end ns ms t i e h = record {
  below = (let l = length-append ns ms in let s = h.some in omega (arith, l, s, e));
  is = ap (λ z. tree_at (ns ++ ms) (last_at z ms)) e ∙ h.is;
}

pub ends_by : (ns front : List Node) (k : Node) (t : Sx) → decode (trees (ns ++ front)) k ≡ t → Ends ns (front ++ k ∷ []) t
ends_by ns front k t e =
    let l = length-append front (k ∷ []) in
    let g = length-append ns front in
    record {
      some = omega (arith, l);
      is = ap (λ z. tree_at z (last_at (length ns) (front ++ k ∷ []))) (sym (append_assoc ns front (k ∷ [])))
          ∙ (tree_at-last (ns ++ front) k (last_at (length ns) (front ++ k ∷ [])) (omega (arith, l, g)) ∙ e);
    }

pub ends_one : (ns : List Node) (k : Node) (t : Sx) → decode (trees ns) k ≡ t → Ends ns (k ∷ []) t
ends_one ns k t e = ends_by ns [] k t (ap (λ z. decode (trees z) k) (let z : ns ++ [] ≡ ns = append-nil ns in z) ∙ e)

-- the first of two groups of nodes, and the second, in both together
first_in : (ns xs ys : List Node) (i : ExprId) (t : Sx) → Stands (ns ++ xs) i t → Stands (ns ++ (xs ++ ys)) i t
first_in ns xs ys i t h = subst (λ z. Stands z i t) (append_assoc ns xs ys) (stands_more (ns ++ xs) ys i t h)

second_in : (ns xs ys : List Node) (i : ExprId) (t : Sx) → Stands ((ns ++ xs) ++ ys) i t → Stands (ns ++ (xs ++ ys)) i t
second_in ns xs ys i t h = subst (λ z. Stands z i t) (append_assoc ns xs ys) h

base : (ns xs : List Node) (i : ℕ) → i ≡ length ns → i + length xs ≡ length (ns ++ xs)
base ns xs i e = let l = length-append ns xs in omega (arith, l, e)

ends_own1 : (ns xs : List Node) (a : Sx) (k : ExprId → Node) (kt : Sx → Sx) (i : ℕ) → ((ts : List Sx) (x : ExprId) → decode ts (k x) ≡ kt (tree_in ts x)) → i ≡ length ns → Ends ns xs a → Ends ns (own1 i xs k) (kt a)
ends_own1 ns xs a k kt i dk e p =
    ends_by ns xs (k (last_at i xs)) (kt a) (dk (trees (ns ++ xs)) (last_at i xs) ∙ ap kt (at_end ns xs a i e p).is)

ends_own2 : (ns xs ys : List Node) (a b : Sx) (k : ExprId → ExprId → Node) (kt : Sx → Sx → Sx) (i : ℕ) → ((ts : List Sx) (x y : ExprId) → decode ts (k x y) ≡ kt (tree_in ts x) (tree_in ts y))
    → i ≡ length ns → Ends ns xs a → Ends (ns ++ xs) ys b → Ends ns (own2 i xs ys k) (kt a b)
ends_own2 ns xs ys a b k kt i dk e p q =
    let f = first_in ns xs ys (last_at i xs) a (at_end ns xs a i e p) in
    let g = second_in ns xs ys (last_at (i + length xs) ys) b (at_end (ns ++ xs) ys b (i + length xs) (base ns xs i e) q) in
    ends_by ns (xs ++ ys) (k (last_at i xs) (last_at (i + length xs) ys)) (kt a b)
    (dk (trees (ns ++ (xs ++ ys))) (last_at i xs) (last_at (i + length xs) ys) ∙ (ap (λ z. kt z (tree_at (ns ++ (xs ++ ys)) (last_at (i + length xs) ys))) f.is ∙ ap (kt a) g.is))

ends_own3 : (ns xs ys zs : List Node) (a b c : Sx) (k : ExprId → ExprId → ExprId → Node) (kt : Sx → Sx → Sx → Sx) (i : ℕ)
    → ((ts : List Sx) (x y z : ExprId) → decode ts (k x y z) ≡ kt (tree_in ts x) (tree_in ts y) (tree_in ts z))
    → i ≡ length ns → Ends ns xs a → Ends (ns ++ xs) ys b → Ends ((ns ++ xs) ++ ys) zs c → Ends ns (own3 i xs ys zs k) (kt a b c)
ends_own3 ns xs ys zs a b c k kt i dk e p q r =
    let ix = last_at i xs in
    let iy = last_at (i + length xs) ys in
    let iz = last_at (i + length xs + length ys) zs in
    let f = first_in ns (xs ++ ys) zs ix a (first_in ns xs ys ix a (at_end ns xs a i e p)) in
    let g = first_in ns (xs ++ ys) zs iy b (second_in ns xs ys iy b (at_end (ns ++ xs) ys b (i + length xs) (base ns xs i e) q)) in
    let s = at_end ((ns ++ xs) ++ ys) zs c (i + length xs + length ys) (base (ns ++ xs) ys (i + length xs) (base ns xs i e)) r in
    let h = second_in ns (xs ++ ys) zs iz c (subst (λ z. Stands (z ++ zs) iz c) (append_assoc ns xs ys) s) in
    let whole = ns ++ ((xs ++ ys) ++ zs) in
    ends_by ns ((xs ++ ys) ++ zs) (k ix iy iz) (kt a b c)
    (dk (trees whole) ix iy iz ∙ (ap (λ z. kt z (tree_at whole iy) (tree_at whole iz)) f.is ∙ (ap (λ z. kt a z (tree_at whole iz)) g.is ∙ ap (kt a b) h.is)))

-- nodes before those that end with a tree
ends_after : (ns xs ys : List Node) (t : Sx) → Ends (ns ++ xs) ys t → Ends ns (xs ++ ys) t
ends_after ns xs ys t h =
    let l = length-append xs ys in
    let g = length-append ns xs in
    let s = h.some in
    record {
      some = omega (arith, l, s);
      is = ap (λ z. tree_at z (last_at (length ns) (xs ++ ys))) (sym (append_assoc ns xs ys))
          ∙ (ap (tree_at ((ns ++ xs) ++ ys)) (let e : last_at (length ns) (xs ++ ys) ≡ last_at (length (ns ++ xs)) ys = ap (λ m. record { 0 = m }) (let z : length ns + length (xs ++ ys) - 1 ≡ length (ns ++ xs) + length ys - 1 = omega (arith, l, g) in z) in e) ∙ h.is);
    }

-- arms, which look at what an earlier node gives
arms_two : (ns xs ys : List Node) (c a b : Sx) (j : ExprId) (k : ExprId → ExprId → ExprId → Node) (kt : Sx → Sx → Sx → Sx) (i : ℕ)
    → ((ts : List Sx) (x y z : ExprId) → decode ts (k x y z) ≡ kt (tree_in ts x) (tree_in ts y) (tree_in ts z))
    → i ≡ length ns → Stands ns j c → Ends ns xs a → Ends (ns ++ xs) ys b → Ends ns (own2 i xs ys (k j)) (kt c a b)
arms_two ns xs ys c a b j k kt i dk e w p q =
    let ix = last_at i xs in
    let iy = last_at (i + length xs) ys in
    let whole = ns ++ (xs ++ ys) in
    let d = stands_more ns (xs ++ ys) j c w in
    let f = first_in ns xs ys ix a (at_end ns xs a i e p) in
    let g = second_in ns xs ys iy b (at_end (ns ++ xs) ys b (i + length xs) (base ns xs i e) q) in
    ends_by ns (xs ++ ys) (k j ix iy) (kt c a b)
    (dk (trees whole) j ix iy ∙ (ap (λ z. kt z (tree_at whole ix) (tree_at whole iy)) d.is ∙ (ap (λ z. kt c z (tree_at whole iy)) f.is ∙ ap (kt c a) g.is)))

arms_one : (ns xs : List Node) (c a : Sx) (j : ExprId) (k : ExprId → ExprId → Node) (kt : Sx → Sx → Sx) (i : ℕ)
    → ((ts : List Sx) (x y : ExprId) → decode ts (k x y) ≡ kt (tree_in ts x) (tree_in ts y))
    → i ≡ length ns → Stands ns j c → Ends ns xs a → Ends ns (own1 i xs (k j)) (kt c a)
arms_one ns xs c a j k kt i dk e w p =
    let ix = last_at i xs in
    let whole = ns ++ xs in
    let d = stands_more ns xs j c w in
    ends_by ns xs (k j ix) (kt c a) (dk (trees whole) j ix ∙ (ap (λ z. kt z (tree_at whole ix)) d.is ∙ ap (kt c) (at_end ns xs a i e p).is))

-- ---- lists

pub all_trees : (ns : List Node) (is : List ExprId) (ts : Sxs) → AllStand ns is ts → trees_in (trees ns) is ≡ ts
all_trees ns [] s_none h = refl
all_trees ns [] (s_more t ts) h = absurd h
all_trees ns (i ∷ is) s_none h = absurd h
all_trees ns (i ∷ is) (s_more t ts) h = ap (λ z. s_more z (trees_in (trees ns) is)) h.0.is ∙ ap (s_more t) (all_trees ns is ts h.1)

abbrev LinksStand : List Node → List NodeLink → Slinks → Type 0
LinksStand ns [] s_end = Unit {0}
LinksStand ns [] (s_link f t ts) = ⊥
LinksStand ns (k ∷ ks) s_end = ⊥
LinksStand ns (k ∷ ks) (s_link f t ts) = (k.form ≡ f) × Stands ns k.operand t × LinksStand ns ks ts

links_trees : (ns : List Node) (ks : List NodeLink) (ts : Slinks) → LinksStand ns ks ts → links_in (trees ns) ks ≡ ts
links_trees ns [] s_end h = refl
links_trees ns [] (s_link f t ts) h = absurd h
links_trees ns (k ∷ ks) s_end h = absurd h
links_trees ns (k ∷ ks) (s_link f t ts) h =
    ap (λ z. s_link z (tree_at ns k.operand) (links_in (trees ns) ks)) h.0 ∙ (ap (λ z. s_link f z (links_in (trees ns) ks)) h.1.is ∙ ap (s_link f t) (links_trees ns ks ts h.2))

literal_is : (ns : List Node) (l : Lit) → Ends ns (literal_node l ∷ []) (s_literal l)
literal_is ns (number m) = ends_one ns (n.Int m) (s_literal (number m)) refl
literal_is ns (letters t) = ends_one ns (n.Text t) (s_literal (letters t)) refl
literal_is ns (truth t) = ends_one ns (n.Bool t) (s_literal (truth t)) refl
literal_is ns nothing_more = ends_one ns n.Unit (s_literal nothing_more) refl
literal_is ns (exception e) = ends_one ns (n.Exn e) (s_literal (exception e)) refl

read_is : (ns ms : List Node) (k : Option ℕ) (t : Sx) → Ends ns ms t → Ends ns (read_nodes k ms) (read_or k t)
read_is ns ms None t h = h
read_is ns ms (Some k) t h = ends_one ns (n.Slot k) (s_slot k) refl

module _ (rs : List Place) (bs : List Root) where
  mutual
    pub emitted : (s : Scope) (ns : List Node) (i : ℕ) → i ≡ length ns → Known ns rs bs → (e : Ex) → Ends ns (nodes_of rs s i e) (slotted bs s e)
    emitted s ns i q h (lit p l) = literal_is ns l
    emitted s ns i q h (name f es) =
        let xs = all_nodes rs s i es in
        let d : ExprId = record { 0 = i + length xs } in
        let b : i + length xs ≡ length (ns ++ xs) = base ns xs i q in
        read_is ns (xs ++ n.Call (place_of rs f.text (count es) d) (ids_of rs s i es) ∷ []) (slot_of s (Written f.text)) (s_call (body_of bs f.text (count es)) (slotted_all bs s es))
        (ends_by ns xs (n.Call (place_of rs f.text (count es) d) (ids_of rs s i es)) (s_call (body_of bs f.text (count es)) (slotted_all bs s es))
        (ap (λ z. s_call z (trees_in (trees (ns ++ xs)) (ids_of rs s i es))) (place_is (ns ++ xs) rs bs f.text (count es) d (known_more ns xs rs bs h) (omega (arith, b)))
        ∙ ap (s_call (body_of bs f.text (count es))) (all_trees (ns ++ xs) (ids_of rs s i es) (slotted_all bs s es) (emitted_all s ns i q h es))))
    emitted s ns i q h (unary f p e) = ends_own1 ns (nodes_of rs s i e) (slotted bs s e) (n.Unary f) (s_unary f) i (λ ts x. refl) q (emitted s ns i q h e)
    emitted s ns i q h (binary f p e g) = ends_own2 ns (nodes_of rs s i e) _ (slotted bs s e) (slotted bs s g) (n.Binary f) (s_binary f) i (λ ts x y. refl) q (emitted s ns i q h e) (emitted s (ns ++ (nodes_of rs s i e)) (i + length (nodes_of rs s i e)) (base ns (nodes_of rs s i e) i q) (known_more ns (nodes_of rs s i e) rs bs h) g)
    emitted s ns i q h (chain e ks) =
        let xs = nodes_of rs s i e in
        let ys = link_nodes rs s (i + length xs) ks in
        let f = first_in ns xs ys (last_at i xs) (slotted bs s e) (at_end ns xs (slotted bs s e) i q (emitted s ns i q h e)) in
        let g = links_trees (ns ++ (xs ++ ys)) (node_links rs s (i + length xs) ks) (slotted_links bs s ks)
        (subst (λ z. LinksStand z (node_links rs s (i + length xs) ks) (slotted_links bs s ks)) (append_assoc ns xs ys) (emitted_links s (ns ++ xs) (i + length xs) (base ns xs i q) (known_more ns xs rs bs h) ks)) in
        ends_by ns (xs ++ ys) (n.Chain (last_at i xs) (node_links rs s (i + length xs) ks)) (s_chain (slotted bs s e) (slotted_links bs s ks))
        (ap (λ z. s_chain z (links_in (trees (ns ++ (xs ++ ys))) (node_links rs s (i + length xs) ks))) f.is ∙ ap (s_chain (slotted bs s e)) g)
    emitted s ns i q h (conses e ks) =
        let xs = nodes_of rs s i e in
        let ys = link_nodes rs s (i + length xs) ks in
        let f = first_in ns xs ys (last_at i xs) (slotted bs s e) (at_end ns xs (slotted bs s e) i q (emitted s ns i q h e)) in
        let g = links_trees (ns ++ (xs ++ ys)) (node_links rs s (i + length xs) ks) (slotted_links bs s ks)
        (subst (λ z. LinksStand z (node_links rs s (i + length xs) ks) (slotted_links bs s ks)) (append_assoc ns xs ys) (emitted_links s (ns ++ xs) (i + length xs) (base ns xs i q) (known_more ns xs rs bs h) ks)) in
        ends_by ns (xs ++ ys) (n.Conses (last_at i xs) (node_links rs s (i + length xs) ks)) (s_conses (slotted bs s e) (slotted_links bs s ks))
        (ap (λ z. s_conses z (links_in (trees (ns ++ (xs ++ ys))) (node_links rs s (i + length xs) ks))) f.is ∙ ap (s_conses (slotted bs s e)) g)
    emitted s ns i q h (choose p e f g) =
        let xs = nodes_of rs s i e in
        let ys = nodes_of rs s (i + length xs) f in
        ends_own3 ns xs ys _ (slotted bs s e) (slotted bs s f) (slotted bs s g) n.If s_choose i (λ ts x y z. refl) q (emitted s ns i q h e) (emitted s (ns ++ xs) (i + length xs) (base ns xs i q) (known_more ns xs rs bs h) f)
        (emitted s ((ns ++ xs) ++ ys) (i + length xs + length ys) (base (ns ++ xs) ys (i + length xs) (base ns xs i q)) (known_more (ns ++ xs) ys rs bs (known_more ns xs rs bs h)) g)
    emitted s ns i q h (items p es) =
        let xs = all_nodes rs s i es in
        ends_by ns xs (n.List (ids_of rs s i es)) (s_items (slotted_all bs s es)) (ap s_items (all_trees (ns ++ xs) (ids_of rs s i es) (slotted_all bs s es) (emitted_all s ns i q h es)))
    emitted s ns i q h (empty f p w) = ends_one ns (n.Empty f) (s_empty f) refl
    emitted s ns i q h (side f p w v e) = ends_own1 ns (nodes_of rs s i e) (slotted bs s e) (n.Side f) (s_side f) i (λ ts x. refl) q (emitted s ns i q h e)
    emitted s ns i q h (given y e f) = ends_own2 ns (nodes_of rs s i e) _ (slotted bs s e) (slotted bs (Written y.text ∷ s) f) n.Let s_given i (λ ts x z. refl) q (emitted s ns i q h e) (emitted (Written y.text ∷ s) (ns ++ (nodes_of rs s i e)) (i + length (nodes_of rs s i e)) (base ns (nodes_of rs s i e) i q) (known_more ns (nodes_of rs s i e) rs bs h) f)
    emitted s ns i q h (case p e arms) =
        let xs = nodes_of rs s i e in
        ends_after ns xs (arm_nodes rs s (i + length xs) (last_at i xs) arms) (slotted_arms bs s (slotted bs s e) arms)
        (emitted_arms s (ns ++ xs) (i + length xs) (base ns xs i q) (known_more ns xs rs bs h) (last_at i xs) (slotted bs s e) (at_end ns xs (slotted bs s e) i q (emitted s ns i q h e)) arms)

    pub emitted_all : (s : Scope) (ns : List Node) (i : ℕ) → i ≡ length ns → Known ns rs bs → (es : Exs) → AllStand (ns ++ all_nodes rs s i es) (ids_of rs s i es) (slotted_all bs s es)
    emitted_all s ns i q h none = tt
    emitted_all s ns i q h (more e es) =
        let xs = nodes_of rs s i e in
        let ys = all_nodes rs s (i + length xs) es in (
          first_in ns xs ys (last_at i xs) (slotted bs s e) (at_end ns xs (slotted bs s e) i q (emitted s ns i q h e)),
          subst (λ z. AllStand z (ids_of rs s (i + length xs) es) (slotted_all bs s es)) (append_assoc ns xs ys) (emitted_all s (ns ++ xs) (i + length xs) (base ns xs i q) (known_more ns xs rs bs h) es),
        )

    emitted_links : (s : Scope) (ns : List Node) (i : ℕ) → i ≡ length ns → Known ns rs bs → (ks : Links) → LinksStand (ns ++ link_nodes rs s i ks) (node_links rs s i ks) (slotted_links bs s ks)
    emitted_links s ns i q h end = tt
    emitted_links s ns i q h (link f p e ks) =
        let xs = nodes_of rs s i e in
        let ys = link_nodes rs s (i + length xs) ks in (
          refl,
          first_in ns xs ys (last_at i xs) (slotted bs s e) (at_end ns xs (slotted bs s e) i q (emitted s ns i q h e)),
          subst (λ z. LinksStand z (node_links rs s (i + length xs) ks) (slotted_links bs s ks)) (append_assoc ns xs ys) (emitted_links s (ns ++ xs) (i + length xs) (base ns xs i q) (known_more ns xs rs bs h) ks),
        )

    emitted_arms : (s : Scope) (ns : List Node) (i : ℕ) → i ≡ length ns → Known ns rs bs → (j : ExprId) (c : Sx) → Stands ns j c → (arms : Arms) → Ends ns (arm_nodes rs s i j arms) (slotted_arms bs s c arms)
    emitted_arms s ns i q h j c w (maybe_arms e y f) = arms_two ns (nodes_of rs s i e) _ c (slotted bs s e) (slotted bs (Written y.text ∷ s) f) j n.CaseMaybe s_maybe i (λ ts x z u. refl) q w (emitted s ns i q h e) (emitted (Written y.text ∷ s) (ns ++ (nodes_of rs s i e)) (i + length (nodes_of rs s i e)) (base ns (nodes_of rs s i e) i q) (known_more ns (nodes_of rs s i e) rs bs h) f)
    emitted_arms s ns i q h j c w (either_arms y e z f) = arms_two ns (nodes_of rs (Written y.text ∷ s) i e) _ c (slotted bs (Written y.text ∷ s) e) (slotted bs (Written z.text ∷ s) f) j n.CaseEither s_either i (λ ts x v u. refl) q w (emitted (Written y.text ∷ s) ns i q h e) (emitted (Written z.text ∷ s) (ns ++ (nodes_of rs (Written y.text ∷ s) i e)) (i + length (nodes_of rs (Written y.text ∷ s) i e)) (base ns (nodes_of rs (Written y.text ∷ s) i e) i q) (known_more ns (nodes_of rs (Written y.text ∷ s) i e) rs bs h) f)
    emitted_arms s ns i q h j c w (list_arms e y z f) = arms_two ns (nodes_of rs s i e) _ c (slotted bs s e) (slotted bs (Written z.text ∷ Written y.text ∷ s) f) j n.CaseList s_list i (λ ts x v u. refl) q w (emitted s ns i q h e) (emitted (Written z.text ∷ Written y.text ∷ s) (ns ++ (nodes_of rs s i e)) (i + length (nodes_of rs s i e)) (base ns (nodes_of rs s i e) i q) (known_more ns (nodes_of rs s i e) rs bs h) f)
    emitted_arms s ns i q h j c w (pair_arms y z e) = arms_one ns (nodes_of rs (Written z.text ∷ Written y.text ∷ s) i e) c (slotted bs (Written z.text ∷ Written y.text ∷ s) e) j n.CasePair s_pair i (λ ts x u. refl) q w (emitted (Written z.text ∷ Written y.text ∷ s) ns i q h e)

-- Nodes of actions, which are read with the trees of those before them.
use Rattle.std.proofs.Common.{◌≡◌, ◌+◌, ◌<◌, List, [], ◌∷◌, ◌++◌, length, get_or, refl, ap, ◌∙◌, sym, subst, arith, append_assoc, length-append}
use Rattle.std.proofs.lemmas.List.{append-nil, get_or_append_left}
use Rattle.std.proofs.Math.Seq.{get_or-append_seam}
use Rattle.rules_code.specs.declared.node.Node.{Node}
use Rattle.rules_code.specs.declared.node.ExprId.{ExprId}
use Rattle.rules_code.specs.declared.act.ActId.{ActId}
use Rattle.rules_code.specs.declared.act.Act.{Act}
use Rattle.rules_code.specs.Slots.{Sx, Sxs, s_none, s_more, trees}
use Rattle.rules_code.specs.CodeTrees.{Sa, a_bad, act_decode, act_trees_onto, act_trees, act_tree_at}
use Rattle.rules_code.proofs.ActTrees.{act_trees-length}
use Rattle.hs_nodes.specs.Standing.{Stands, AllStand, Known}
use Rattle.hs_nodes.proofs.Emitted.{stands_more, known_more}
use Rattle.hs_core.specs.declared.defs.Defs.{Defs}
use Rattle.hs_core.specs.Defining.{Knows, roots}
use Rattle.hs_core.specs.Emits.{Grows, Done}

onto-push : (ts : List Sx) (ks : List Act) (k : Act) (us : List Sa) → act_trees_onto ts (ks ++ k ∷ []) us ≡ act_trees_onto ts ks us ++ act_decode ts (act_trees_onto ts ks us) k ∷ []
onto-push ts [] k us = refl
onto-push ts (x ∷ ks) k us = onto-push ts ks k (us ++ act_decode ts us x ∷ [])

pub act_trees-push : (ns : List Node) (ks : List Act) (k : Act) → act_trees ns (ks ++ k ∷ []) ≡ act_trees ns ks ++ act_decode (trees ns) (act_trees ns ks) k ∷ []
act_trees-push ns ks k = onto-push (trees ns) ks k []

-- more nodes change no tree of the earlier ones
pub act_tree_at-more : (ns : List Node) (ks ls : List Act) (i : ActId) → i.0 < length ks → act_tree_at ns (ks ++ ls) i ≡ act_tree_at ns ks i
act_tree_at-more ns ks [] i h = ap (λ z. act_tree_at ns z i) (let e : ks ++ [] ≡ ks = append-nil ks in e)
act_tree_at-more ns ks (k ∷ ls) i h =
    let l = length-append ks (k ∷ []) in
    let r = act_tree_at-more ns (ks ++ k ∷ []) ls i (omega (arith, l)) in
    let t = act_trees-length ns ks in
    ap (λ z. act_tree_at ns z i) (sym (append_assoc ks (k ∷ []) ls)) ∙ (r ∙ (ap (λ z. get_or z i.0 a_bad) (act_trees-push ns ks k) ∙ get_or_append_left (act_trees ns ks) (act_decode (trees ns) (act_trees ns ks) k ∷ []) a_bad i.0 (omega (arith, t))))

-- the last node is read with the trees before it
pub act_tree_at-last : (ns : List Node) (ks : List Act) (k : Act) (i : ActId) → i.0 ≡ length ks → act_tree_at ns (ks ++ k ∷ []) i ≡ act_decode (trees ns) (act_trees ns ks) k
act_tree_at-last ns ks k i e =
    let t = act_trees-length ns ks in
    ap (λ z. get_or z i.0 a_bad) (act_trees-push ns ks k) ∙ (ap (λ j. get_or (act_trees ns ks ++ act_decode (trees ns) (act_trees ns ks) k ∷ []) j a_bad) (let z : i.0 ≡ length (act_trees ns ks) = omega (arith, t, e) in z) ∙ get_or-append_seam (act_trees ns ks) (act_decode (trees ns) (act_trees ns ks) k) [] a_bad)

-- ---- lists that grow

pub grows_same : {A : Type 0} {xs ys : List A} → ys ≡ xs → Grows A xs ys
grows_same {xs = u} {ys = v} e = record { more = []; is = e ∙ sym (let z : u ++ [] ≡ u = append-nil u in z) }

pub grows_by : {A : Type 0} {xs ys : List A} (zs : List A) → ys ≡ xs ++ zs → Grows A xs ys
grows_by zs e = record { more = zs; is = e }

pub grows_on : {A : Type 0} {xs ys zs : List A} → Grows A xs ys → Grows A ys zs → Grows A xs zs
grows_on {xs = u} g h = record { more = g.more ++ h.more; is = h.is ∙ (ap (λ z. z ++ h.more) g.is ∙ append_assoc u g.more h.more) }

-- ---- what stands, stands on

pub stands_on : {ns ms : List Node} {i : ExprId} {t : Sx} → Grows Node ns ms → Stands ns i t → Stands ms i t
stands_on {ns = n} {i = j} {t = u} g h = subst (λ z. Stands z j u) (sym g.is) (stands_more n g.more j u h)

pub all_stand_on : {ns ms : List Node} (is : List ExprId) (ts : Sxs) → Grows Node ns ms → AllStand ns is ts → AllStand ms is ts
all_stand_on [] s_none g h = tt
all_stand_on [] (s_more t ts) g h = absurd h
all_stand_on (i ∷ is) s_none g h = absurd h
all_stand_on (i ∷ is) (s_more t ts) g h = (stands_on g h.0, all_stand_on is ts g h.1)

pub done_on : {ns ms : List Node} {ks ls : List Act} {i : ActId} {t : Sa} → Grows Node ns ms → Grows Act ks ls → Done ns ks i t → Done ms ls i t
done_on {ns = n} {ks = k} {ls = l'} {i = j} {t = u} g w h =
    subst (λ z. Done z l' j u) (sym g.is)
    (subst (λ z. Done (n ++ g.more) z j u) (sym w.is)
    (record {
      below = (let l = length-append k w.more in let b = h.below in omega (arith, l, b));
      is = (λ more. ap (λ z. act_tree_at z (k ++ w.more) j) (append_assoc n g.more more) ∙ (act_tree_at-more (n ++ (g.more ++ more)) k w.more j h.below ∙ h.is (g.more ++ more)));
    }))

pub knows_on : {ns ms : List Node} {d : Defs} → Grows Node ns ms → Knows ns d → Knows ms d
knows_on {ns = n} {d = f} g h = record {
  places = subst (λ z. Known z f.places.all (roots f)) (sym g.is) (known_more n g.more f.places.all (roots f) h.places);
  names = h.names;
}

-- Nodes of actions, which are read with the trees of those before them; functions of a code; values.
use Rattle.std.proofs.Common.{◌≡◌, ℕ, zero, suc, ◌+◌, ◌<◌, ◌≤◌, List, [], ◌∷◌, ◌++◌, length, take, get_or, Option, Some, None, refl, ap, ◌∙◌, sym, arith, append_assoc, length-append, length-take, ⊎_elim}
use Rattle.std.proofs.lemmas.List.{append-nil, get_or-take, get_or_past}
use Rattle.std.proofs.Math.Seq.{get_or-append_seam, take-append_seam}
use Rattle.std.specs.Prelude.{slice_get}
use Rattle.std.proofs.lemmas.Option.{slice_get_cases}
use Rattle.hs_base.specs.declared.value.Value.{Value}
use Rattle.rules_code.specs.declared.node.Node.{Node}
use Rattle.rules_code.specs.declared.act.ActId.{ActId}
use Rattle.rules_code.specs.declared.act.Act.{Act}
use Rattle.rules_code.specs.declared.code.Fun.{Fun}
use Rattle.rules_meaning.specs.Values.{value_of, values_of}
use Rattle.rules_code.specs.Slots.{Sx, trees}
use Rattle.rules_code.specs.CodeTrees.{Sa, a_bad, act_decode, act_in, act_trees_onto, act_trees, act_tree_at, SlottedFunction, functions_at}
use Rattle.rules_code.proofs.ActTrees.{act_trees-length}

onto-prefix : (ts : List Sx) (ks : List Act) (us : List Sa) → (more : List Sa) × (act_trees_onto ts ks us ≡ us ++ more)
onto-prefix ts [] us = ([], sym (append-nil us))
onto-prefix ts (k ∷ ks) us =
    let r = onto-prefix ts ks (us ++ act_decode ts us k ∷ []) in (act_decode ts us k ∷ r.0, r.1 ∙ append_assoc us (act_decode ts us k ∷ []) r.0)

onto-at : (ts : List Sx) (ks : List Act) (us : List Sa) (j : ℕ) (k : Act) → slice_get ks j ≡ Some k
    → get_or (act_trees_onto ts ks us) (length us + j) a_bad ≡ act_decode ts (take (length us + j) (act_trees_onto ts ks us)) k
onto-at ts [] us j k h = let z : None ≡ Some k = h in cc
onto-at ts (x ∷ ks) us zero k h =
    let xk : x ≡ k = cc in
    let r = onto-prefix ts ks (us ++ act_decode ts us x ∷ []) in
    let e : act_trees_onto ts ks (us ++ act_decode ts us x ∷ []) ≡ us ++ act_decode ts us x ∷ r.0 = r.1 ∙ append_assoc us (act_decode ts us x ∷ []) r.0 in
    let n : length us + 0 ≡ length us = omega arith in
    ap (λ z. get_or z (length us + 0) a_bad) e ∙ (ap (λ i. get_or (us ++ act_decode ts us x ∷ r.0) i a_bad) n ∙ (get_or-append_seam us (act_decode ts us x) r.0 a_bad
    ∙ (ap (act_decode ts us) xk ∙ sym (ap (λ z. act_decode ts (take (length us + 0) z) k) e ∙ (ap (λ i. act_decode ts (take i (us ++ act_decode ts us x ∷ r.0)) k) n ∙ ap (λ z. act_decode ts z k) (take-append_seam us (act_decode ts us x ∷ r.0)))))))
onto-at ts (x ∷ ks) us (suc j) k h =
    let w = onto-at ts ks (us ++ act_decode ts us x ∷ []) j k h in
    let l = length-append us (act_decode ts us x ∷ []) in
    let e : length (us ++ act_decode ts us x ∷ []) + j ≡ length us + suc j = omega (arith, l) in
    ap (λ i. get_or (act_trees_onto ts ks (us ++ act_decode ts us x ∷ [])) i a_bad) (sym e) ∙ (w ∙ ap (λ i. act_decode ts (take i (act_trees_onto ts ks (us ++ act_decode ts us x ∷ []))) k) e)

pub act_is : (ns : List Node) (ks : List Act) (i : ActId) (k : Act) → slice_get ks i.0 ≡ Some k → act_tree_at ns ks i ≡ act_decode (trees ns) (take i.0 (act_trees ns ks)) k
act_is ns ks i k h =
    let e : 0 + i.0 ≡ i.0 = omega arith in ap (λ j. get_or (act_trees ns ks) j a_bad) (sym e) ∙ (onto-at (trees ns) ks [] i.0 k h ∙ ap (λ j. act_decode (trees ns) (take j (act_trees ns ks)) k) e)

act_past : (ns : List Node) (ks : List Act) (i : ActId) → length ks ≤ i.0 → act_tree_at ns ks i ≡ a_bad
act_past ns ks i h = get_or_past (act_trees ns ks) i.0 a_bad (let l = act_trees-length ns ks in omega (arith, l))

pub act_none : (ns : List Node) (ks : List Act) (i : ActId) → slice_get ks i.0 ≡ None → act_tree_at ns ks i ≡ a_bad
act_none ns ks i h = ⊎_elim (λ w. let e = w.2 in cc) (λ w. act_past ns ks i w.0) (slice_get_cases ks i.0).1

pub act_below : (ns : List Node) (ks : List Act) (n : ℕ) (i : ActId) → i.0 < n → act_tree_at ns ks i ≡ act_in (take n (act_trees ns ks)) i
act_below ns ks n i h = sym (get_or-take n (act_trees ns ks) i.0 a_bad h)

pub act_not_below : (ns : List Node) (ks : List Act) (n : ℕ) (i j : ActId) → n ≤ i.0 → j.0 ≡ length ks → act_tree_at ns ks j ≡ act_in (take n (act_trees ns ks)) i
act_not_below ns ks n i j h e =
    act_past ns ks j (omega (arith, e)) ∙ sym (get_or_past (take n (act_trees ns ks)) i.0 a_bad (let l = length-take n (act_trees ns ks) in grind (arith, l)))

-- ---- functions of a code

abbrev fun_or : List Node → List Act → Option Fun → Option SlottedFunction
fun_or ns ks None = None
fun_or ns ks (Some f) = Some (record { params = f.params; body = act_tree_at ns ks f.body })

fun_step : (ns : List Node) (ks : List Act) (fs : List Fun) (i : ℕ) (o : Option Fun) → slice_get fs i ≡ o → slice_get (functions_at ns ks fs) i ≡ fun_or ns ks o
fun_step ns ks [] i o e = ap (fun_or ns ks) e
fun_step ns ks (f ∷ fs) zero o e = ap (fun_or ns ks) e
fun_step ns ks (f ∷ fs) (suc i) o e = fun_step ns ks fs i o e

pub fun_some : (ns : List Node) (ks : List Act) (fs : List Fun) (i : ℕ) (f : Fun) → slice_get fs i ≡ Some f → slice_get (functions_at ns ks fs) i ≡ Some (record { params = f.params; body = act_tree_at ns ks f.body })
fun_some ns ks fs i f e = fun_step ns ks fs i (Some f) e

pub fun_none : (ns : List Node) (ks : List Act) (fs : List Fun) (i : ℕ) → slice_get fs i ≡ None → slice_get (functions_at ns ks fs) i ≡ None
fun_none ns ks fs i e = fun_step ns ks fs i None e

-- ---- values

pub values_push : (vs : List Value) (v : Value) → values_of (vs ++ v ∷ []) ≡ values_of vs ++ value_of v ∷ []
values_push [] v = refl
values_push (u ∷ vs) v = ap (λ z. value_of u ∷ z) (values_push vs v)

pub values_count : (vs : List Value) → length (values_of vs) ≡ length vs
values_count [] = refl
values_count (v ∷ vs) = ap suc (values_count vs)

pub value_some : (vs : List Value) (k : ℕ) (v : Value) → slice_get vs k ≡ Some v → slice_get (values_of vs) k ≡ Some (value_of v)
value_some [] k v h = let z : None ≡ Some v = h in absurd (cc z)
value_some (u ∷ vs) zero v h = let z : u ≡ v = cc in ap (λ w. Some (value_of w)) z
value_some (u ∷ vs) (suc k) v h = value_some vs k v h

pub value_none : (vs : List Value) (k : ℕ) → slice_get vs k ≡ None → slice_get (values_of vs) k ≡ None
value_none [] k h = refl
value_none (u ∷ vs) zero h = let z : Some u ≡ None = h in absurd (cc z)
value_none (u ∷ vs) (suc k) h = value_none vs k h

pub ruleset act_rules = (act_is, act_none, act_below, act_not_below)

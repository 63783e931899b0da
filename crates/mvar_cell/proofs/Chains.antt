-- What writes of single nodes do to chains.
use Rattle.std.proofs.Common.{◌≡◌, ◌≢◌, ℕ, zero, suc, ◌≤◌, List, [], ◌∷◌, ◌++◌, Option, Some, None, refl, ap, sym, subst, ◌∙◌, arith, inl, inr, Bool, true, false, cond, IsSome, eq-eqb}
use Rattle.std.proofs.lemmas.Bool.{cases_eq, ne_eqb}
use Rattle.plain_laws.proofs.Booleans.{both_false}
use Rattle.hs_base.specs.declared.value.Value.{Value}
use Rattle.rules_waiting.specs.OneCell.{Place}
use Rattle.slab.specs.Slab.{Slab, get}
use Rattle.mvar_cell.specs.declared.lines.LineNode.{LineNode}
use Rattle.mvar_cell.specs.declared.lines.Sought.{Sought}
use Rattle.mvar_cell.specs.Nodes.{place, place_of, next_of, places, IsOn, IsTail, IsChain, is_sought, any_sought, walk, last_after_leaving, Unlinks}

-- from a node there is one way to the last
pub tail_once : (s : Slab LineNode) (k a b i z : ℕ) → IsTail s k a i z → IsTail s k b i z → a ≡ b
tail_once s k zero zero i z p q = refl
tail_once s k zero (suc b) i z p q = absurd (q.0 p)
tail_once s k (suc a) zero i z p q = absurd (p.0 q)
tail_once s k (suc a) (suc b) i z p q = ap suc (tail_once s k a b (next_of (get s i)) z p.2 q.2)

-- the nodes of a chain are as they were
pub record Keeps (s u : Slab LineNode) (k n z : ℕ) : Type 0 where
  pub same : (j d : ℕ) → d ≤ n → IsOn k (get s j) → IsTail s k d j z → get u j ≡ get s j

pub shorter : {s u : Slab LineNode} {k n z : ℕ} → Keeps s u k (suc n) z → Keeps s u k n z
shorter h = record { same = λ j d le. h.same j d (omega arith) }

pub record Kept (s u : Slab LineNode) (k n i z : ℕ) : Type 0 where
  pub tail : IsTail u k n i z
  pub places : places u (suc n) i ≡ places s (suc n) i

pub tail_kept : (s u : Slab LineNode) (k n i z : ℕ) → Keeps s u k n z → IsOn k (get s i) → IsTail s k n i z → Kept s u k n i z
tail_kept s u k zero i z h on t =
    record { tail = t; places = ap (λ o. place_of o ∷ []) (h.same i 0 (omega arith) on t) }
tail_kept s u k (suc n) i z h on t =
    let e = h.same i (suc n) (omega arith) on t in
    let r = tail_kept s u k n (next_of (get s i)) z (shorter h) t.1 t.2 in
    let at : get u (next_of (get s i)) ≡ get s (next_of (get s i)) = h.same (next_of (get s i)) n (omega arith) t.1 t.2 in
    record {
      tail = subst (λ o. (i ≢ z) × IsOn k (get u (next_of o)) × IsTail u k n (next_of o) z) (sym e) (t.0, subst (IsOn k) (sym at) t.1, r.tail);
      places = ap (λ o. place_of o ∷ places u (suc n) (next_of o)) e ∙ ap (λ ps. place_of (get s i) ∷ ps) r.places;
    }

-- a node is added behind the last one
pub record Extends (s u : Slab LineNode) (k z key : ℕ) (last new : LineNode) : Type 0 where
  pub was : get s z ≡ Some last
  pub linked : get u z ≡ Some (record last { next = key })
  pub vacant : get s key ≡ None
  pub added : get u key ≡ Some new
  pub on : new.line ≡ k
  pub others : (j : ℕ) → j ≢ z → j ≢ key → get u j ≡ get s j

pub record Longer (s u : Slab LineNode) (k n i key : ℕ) (new : LineNode) : Type 0 where
  pub on : IsOn k (get u i)
  pub tail : IsTail u k (suc n) i key
  pub places : places u (suc (suc n)) i ≡ places s (suc n) i ++ place new.thread new.want ∷ []

pub vacant_is_not_on : (k : ℕ) (o : Option LineNode) → o ≡ None → IsOn k o → ⊥
vacant_is_not_on k o e on = subst (IsOn k) e on

pub tail_longer : (s u : Slab LineNode) (k n i z key : ℕ) (last new : LineNode) → Extends s u k z key last new → IsOn k (get s i) → IsTail s k n i z → Longer s u k n i key new
tail_longer s u k zero i z key last new h on t =
    let away : i ≢ key = λ e. vacant_is_not_on k _ (ap (get s) e ∙ h.vacant) on in
    let e : get u i ≡ Some (record last { next = key }) = ap (get u) t ∙ h.linked in
    let was : get s i ≡ Some last = ap (get s) t ∙ h.was in
    let fresh : IsOn k (get u key) = subst (IsOn k) (sym h.added) h.on in
    record {
      on = subst (IsOn k) (sym e) (subst (IsOn k) was on);
      tail = subst (λ o. (i ≢ key) × IsOn k (get u (next_of o)) × (next_of o ≡ key)) (sym e) (away, fresh, refl);
      places = ap (λ o. place_of o ∷ place_of (get u (next_of o)) ∷ []) e ∙ ap (λ o. place last.thread last.want ∷ place_of o ∷ []) h.added ∙ ap (λ o. place_of o ∷ place new.thread new.want ∷ []) (sym was);
    }
tail_longer s u k (suc n) i z key last new h on t =
    let away : i ≢ key = λ e. vacant_is_not_on k _ (ap (get s) e ∙ h.vacant) on in
    let e : get u i ≡ get s i = h.others i t.0 away in
    let r = tail_longer s u k n (next_of (get s i)) z key last new h t.1 t.2 in
    record {
      on = subst (IsOn k) (sym e) on;
      tail = subst (λ o. (i ≢ key) × IsOn k (get u (next_of o)) × IsTail u k (suc n) (next_of o) key) (sym e) (away, r.on, r.tail);
      places = ap (λ o. place_of o ∷ places u (suc (suc n)) (next_of o)) e ∙ ap (λ ps. place_of (get s i) ∷ ps) r.places;
    }

-- a node is of one line
pub on_one : (k m : ℕ) (o : Option LineNode) → IsOn k o → IsOn m o → k ≡ m
on_one k m None p q = absurd p
on_one k m (Some n) p q = sym p ∙ q

-- the last node is of the line too
pub last_is_on : (s : Slab LineNode) (k n i z : ℕ) → IsOn k (get s i) → IsTail s k n i z → IsOn k (get s z)
last_is_on s k zero i z on t = subst (λ j. IsOn k (get s j)) t on
last_is_on s k (suc n) i z on t = last_is_on s k n (next_of (get s i)) z t.1 t.2

pub on_is_there : (k : ℕ) (o : Option LineNode) → IsOn k o → (n : LineNode) × (o ≡ Some n)
on_is_there k None on = absurd on
on_is_there k (Some n) on = (n, refl)

-- the first node leaves
pub record Shorter (s u : Slab LineNode) (k n i z : ℕ) (node : LineNode) : Type 0 where
  pub chain : IsChain u k n node.next z
  pub places : places s (suc n) i ≡ place node.thread node.want ∷ places u n node.next

pub chain_shorter : (s u : Slab LineNode) (k n i z : ℕ) (node : LineNode) → get s i ≡ Some node → ((j : ℕ) → j ≢ i → get u j ≡ get s j) → IsChain s k (suc n) i z → Shorter s u k n i z node
chain_shorter s u k zero i z node was others c =
    record { chain = tt; places = ap (λ o. place_of o ∷ []) was }
chain_shorter s u k (suc n) i z node was others c =
    let t : IsTail s k (suc n) i z = c.1 in
    let next_is : next_of (get s i) ≡ node.next = ap next_of was in
    let keeps : Keeps s u k n z = record { same = λ j d le on r. others j (λ e. (let more : d ≡ suc n = tail_once s k d (suc n) i z (subst (λ x. IsTail s k d x z) e r) t in let no : ⊥ = omega (arith, more, le) in no)) } in
    let on : IsOn k (get s node.next) = subst (λ x. IsOn k (get s x)) next_is t.1 in
    let rest : IsTail s k n node.next z = subst (λ x. IsTail s k n x z) next_is t.2 in
    let r = tail_kept s u k n node.next z keeps on rest in
    record {
      chain = (subst (IsOn k) (sym (keeps.same node.next n (omega arith) on rest)) on, r.tail);
      places = ap (λ o. place_of o ∷ places s (suc n) (next_of o)) was ∙ ap (λ ps. place node.thread node.want ∷ ps) (sym r.places);
    }

-- a chain whose nodes are as they were is that chain, with the same places
pub record Same (s u : Slab LineNode) (k n i z : ℕ) : Type 0 where
  pub chain : IsChain u k n i z
  pub places : places u n i ≡ places s n i

pub chain_same : (s u : Slab LineNode) (k n i z : ℕ) → ((j : ℕ) → IsOn k (get s j) → get u j ≡ get s j) → IsChain s k n i z → Same s u k n i z
chain_same s u k zero i z h c = record { chain = tt; places = refl }
chain_same s u k (suc n) i z h c =
    let r = tail_kept s u k n i z (record { same = λ j d le on t. h j on }) c.0 c.1 in
    record { chain = (subst (IsOn k) (sym (h i c.0)) c.0, r.tail); places = r.places }

-- ---- a node in the middle leaves
pub record Without (s u : Slab LineNode) (k a n i z p j : ℕ) (gone : LineNode) : Type 0 where
  pub on : IsOn k (get u i)
  pub tail : IsTail u k n i (last_after_leaving p j z)
  pub back : List (Place Value)
  pub was : places s (suc (suc n)) i ≡ places s (suc a) i ++ place gone.thread gone.want ∷ back
  pub now : places u (suc n) i ≡ places s (suc a) i ++ back

-- a walk of no more than m of m + 1 nodes ends before the last
pub walk_far : (s : Slab LineNode) (k a m i z : ℕ) → a ≤ m → IsTail s k (suc m) i z → (d : ℕ) × (d ≤ m) × IsTail s k (suc d) (walk s a i) z
walk_far s k zero m i z le t = (m, omega arith, t)
walk_far s k (suc a) zero i z le t = let no : ⊥ = omega arith in absurd no
walk_far s k (suc a) (suc m) i z le t =
    let r = walk_far s k a m (next_of (get s i)) z (omega arith) t.2 in
    (r.0, omega (arith, r.1), r.2)

pub at_last : (p j z : ℕ) → j ≡ z → last_after_leaving p j z ≡ p
at_last p j z e = ap (λ b. cond b p z) (eq-eqb j z e)

pub not_last : (p j z : ℕ) → (j ≡ z → ⊥) → last_after_leaving p j z ≡ z
not_last p j z ne = ap (λ b. cond b p z) (ne_eqb j z ne)

-- neither of the two that change
is_neither : (i p j z : ℕ) → i ≢ z → i ≢ p → i ≢ last_after_leaving p j z
is_neither i p j z a b = elim (cases_eq j z) [ inl e ↦ λ q. b (q ∙ at_last p j z e) | inr ne ↦ λ q. a (q ∙ not_last p j z ne) ]

pub tail_without : (s u : Slab LineNode) (k a m i z p j : ℕ) (before gone : LineNode) → Unlinks s u p j before gone → p ≡ walk s a i → a ≤ m → IsOn k (get s i) → IsTail s k (suc m) i z → Without s u k a m i z p j gone
tail_without s u k zero zero i z p j before gone h e le on t =
    let was : get s i ≡ Some before = ap (get s) (sym e) ∙ h.was in
    let linked : get u i ≡ Some (record before { next = gone.next }) = ap (get u) (sym e) ∙ h.linked in
    let next : next_of (get s i) ≡ j = ap next_of was ∙ h.follows in
    record {
      on = subst (IsOn k) (sym linked) (subst (IsOn k) was on);
      tail = sym e ∙ sym (at_last p j z (sym next ∙ t.2));
      back = [];
      was = ap (λ x. place_of (get s i) ∷ place_of (get s x) ∷ []) next ∙ ap (λ o. place_of (get s i) ∷ place_of o ∷ []) h.left;
      now = ap (λ o. place_of o ∷ []) linked ∙ ap (λ o. place_of o ∷ []) (sym was);
    }
tail_without s u k zero (suc m) i z p j before gone h e le on t =
    let was : get s i ≡ Some before = ap (get s) (sym e) ∙ h.was in
    let linked : get u i ≡ Some (record before { next = gone.next }) = ap (get u) (sym e) ∙ h.linked in
    let next : next_of (get s i) ≡ j = ap next_of was ∙ h.follows in
    let at_j : IsTail s k (suc m) j z = subst (λ x. IsTail s k (suc m) x z) next t.2 in
    let far : next_of (get s j) ≡ gone.next = ap next_of h.left in
    let on2 : IsOn k (get s gone.next) = subst (λ x. IsOn k (get s x)) far at_j.1 in
    let tail2 : IsTail s k m gone.next z = subst (λ x. IsTail s k m x z) far at_j.2 in
    let keeps : Keeps s u k m z = record {
      same = λ x d le2 onx tx.
          h.others x
          (λ q. (let w = tail_once s k d (suc (suc m)) i z (subst (λ y. IsTail s k d y z) (q ∙ e) tx) t in let no : ⊥ = omega (arith, w, le2) in no))
          (λ q. (let w = tail_once s k d (suc m) j z (subst (λ y. IsTail s k d y z) q tx) at_j in let no : ⊥ = omega (arith, w, le2) in no));
    } in
    let kept = tail_kept s u k m gone.next z keeps on2 tail2 in
    let on_u : IsOn k (get u gone.next) = subst (IsOn k) (sym (keeps.same gone.next m (omega arith) on2 tail2)) on2 in
    record {
      on = subst (IsOn k) (sym linked) (subst (IsOn k) was on);
      tail = subst (IsTail u k (suc m) i) (sym (not_last p j z at_j.0)) (subst (λ o. (i ≢ z) × IsOn k (get u (next_of o)) × IsTail u k m (next_of o) z) (sym linked) (t.0, on_u, kept.tail));
      back = places s (suc m) gone.next;
      was = ap (λ x. place_of (get s i) ∷ places s (suc (suc m)) x) next ∙ ap (λ o. place_of (get s i) ∷ place_of o ∷ places s (suc m) (next_of o)) h.left;
      now = ap (λ o. place_of o ∷ places u (suc m) (next_of o)) linked ∙ ap (λ ps. place before.thread before.want ∷ ps) kept.places ∙ ap (λ o. place_of o ∷ places s (suc m) gone.next) (sym was);
    }
tail_without s u k (suc a) zero i z p j before gone h e le on t = let no : ⊥ = omega arith in absurd no
tail_without s u k (suc a) (suc m) i z p j before gone h e le on t =
    let le2 : a ≤ m = omega arith in
    let far = walk_far s k a m (next_of (get s i)) z le2 t.2 in
    let at_p : IsTail s k (suc far.0) p z = subst (λ x. IsTail s k (suc far.0) x z) (sym e) far.2 in
    let next : next_of (get s p) ≡ j = ap next_of h.was ∙ h.follows in
    let at_j : IsTail s k far.0 j z = subst (λ x. IsTail s k far.0 x z) next at_p.2 in
    let not_p : i ≢ p = λ q. (let w = tail_once s k (suc far.0) (suc (suc m)) i z (subst (λ y. IsTail s k (suc far.0) y z) (sym q) at_p) t in let no : ⊥ = omega (arith, w, far.1) in no) in
    let not_j : i ≢ j = λ q. (let w = tail_once s k far.0 (suc (suc m)) i z (subst (λ y. IsTail s k far.0 y z) (sym q) at_j) t in let no : ⊥ = omega (arith, w, far.1) in no) in
    let same : get u i ≡ get s i = h.others i not_p not_j in
    let r = tail_without s u k a m (next_of (get s i)) z p j before gone h e le2 t.1 t.2 in
    record {
      on = subst (IsOn k) (sym same) on;
      tail = subst (λ o. (i ≢ last_after_leaving p j z) × IsOn k (get u (next_of o)) × IsTail u k m (next_of o) (last_after_leaving p j z)) (sym same) (is_neither i p j z t.0 not_p, r.on, r.tail);
      back = r.back;
      was = ap (λ ps. place_of (get s i) ∷ ps) r.was;
      now = ap (λ o. place_of o ∷ places u (suc m) (next_of o)) same ∙ ap (λ ps. place_of (get s i) ∷ ps) r.now;
    }

-- ---- a walk
pub walk_next : (s : Slab LineNode) (a i : ℕ) → walk s (suc a) i ≡ next_of (get s (walk s a i))
walk_next s zero i = refl
walk_next s (suc a) i = walk_next s a (next_of (get s i))

pub walk_on : (s : Slab LineNode) (k a m i z : ℕ) → a ≤ m → IsOn k (get s i) → IsTail s k m i z → IsOn k (get s (walk s a i))
walk_on s k zero m i z le on t = on
walk_on s k (suc a) zero i z le on t = let no : ⊥ = omega arith in absurd no
walk_on s k (suc a) (suc m) i z le on t = walk_on s k a m (next_of (get s i)) z (omega arith) t.1 t.2

pub places_more : (s : Slab LineNode) (n i : ℕ) → places s (suc n) i ≡ places s n i ++ place_of (get s (walk s n i)) ∷ []
places_more s zero i = refl
places_more s (suc n) i = ap (λ ps. place_of (get s i) ∷ ps) (places_more s n (next_of (get s i)))

pub none_append : (sought : Sought) (ps qs : List (Place Value)) → any_sought sought ps ≡ false → any_sought sought qs ≡ false → any_sought sought (ps ++ qs) ≡ false
none_append sought [] qs h g = g
none_append sought (p ∷ ps) qs h g =
    let r = both_false (is_sought sought p) (any_sought sought ps) h in
    ap (λ b. cond b true (any_sought sought (ps ++ qs))) r.0 ∙ none_append sought ps qs r.1 g

pub none_alone : (sought : Sought) (p : Place Value) → is_sought sought p ≡ false → any_sought sought (p ∷ []) ≡ false
none_alone sought p h = ap (λ b. cond b true false) h

pub found_later : (b c : Bool) → cond b true c ≡ true → b ≡ false → c ≡ true
found_later true c h e = let no : ⊥ = cc in absurd no
found_later false c h e = h

pub is_there : (k : ℕ) (o : Option LineNode) → IsOn k o → IsSome o
is_there k None on = absurd on
is_there k (Some n) on = refl

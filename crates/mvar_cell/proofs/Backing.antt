-- What writes of nodes and of the table do to the links back.
use Rattle.std.proofs.Common.{◌≡◌, ◌≢◌, ℕ, zero, suc, ◌<◌, ◌≤◌, ◌==◌, List, [], length, map, get_or, set, Option, Some, None, refl, ap, sym, subst, ◌∙◌, arith, inl, inr, ◌+◌, ◌-◌, true, false, cond, IsSome, eq-eqb}
use Rattle.std.proofs.lemmas.Bool.{cases_eq, ne_eqb, eqb-true}
use Rattle.std.proofs.lemmas.List.{get_or-set_same, get_or-set_other, length-set, get_or-map}
use Rattle.plain_laws.proofs.Booleans.{both_false}
use Rattle.rules_waiting.specs.OneCell.{stands_in}
use Rattle.slab.specs.Slab.{Slab, get, Updates}
use Rattle.mvar_cell.specs.declared.lines.LineNode.{LineNode}
use Rattle.mvar_cell.specs.declared.lines.Ends.{Ends}
use Rattle.mvar_cell.specs.declared.lines.Sought.{Sought}
use Rattle.mvar_cell.specs.declared.lines.Sought.TheVariants.{Thread}
use Rattle.mvar_cell.specs.Nodes.{place_of, next_of, places, line_at, IsOn, IsTail, IsChain, IsSound, is_sought, any_sought, walk, behind, StandsBefore, Unlinks, Unlinked, last_after_leaving, ends_after_leaving}
use Rattle.mvar_cell.specs.Befores.{IsPut, thread_of, HasBefores, IsBacked, AreBacked, IsFirstNow, StoodBehind, IsClosed}
use Rattle.mvar_cell.proofs.Chains.{tail_once, Keeps, shorter, Extends, vacant_is_not_on, on_one, walk_far, walk_on, chain_shorter, is_there, at_last, not_last}
use Rattle.mvar_cell.proofs.Writes.{long_chain_of, last_of, last_after}

some_once : (a b : ℕ) (o : Option ℕ) → o ≡ Some a → o ≡ Some b → a ≡ b
some_once a b o p q = let e : Some a ≡ Some b = sym p ∙ q in cc

differs : (a b : ℕ) → a == b ≡ false → a ≢ b
differs a b h e = let t = eq-eqb a b e in let no : ⊥ = cc in no

one_less : (n : ℕ) → n ≡ suc n - 1
one_less n = omega arith

-- ---- one put
pub put_here : (f g : ℕ → Option ℕ) (t : ℕ) (o : Option ℕ) → IsPut f g t o → g t ≡ o
put_here f g t o h = h t ∙ ap (λ b. cond b o (f t)) (eq-eqb t t refl)

pub put_else : (f g : ℕ → Option ℕ) (t : ℕ) (o : Option ℕ) → IsPut f g t o → (q : ℕ) → q ≢ t → g q ≡ f q
put_else f g t o h q ne = h q ∙ ap (λ b. cond b o (f q)) (ne_eqb t q (λ e. ne (sym e)))

-- the same table, read another way
pub befores_agree : (f g : ℕ → Option ℕ) (s : Slab LineNode) (n i : ℕ) → ((q : ℕ) → g q ≡ f q) → HasBefores f s n i → HasBefores g s n i
befores_agree f g s zero i h b = tt
befores_agree f g s (suc n) i h b = (h _ ∙ b.0, befores_agree f g s n (next_of (get s i)) h b.1)

-- nodes of a chain are as they were, and so is what their threads have
pub befores_kept : (f g : ℕ → Option ℕ) (s u : Slab LineNode) (k n i z : ℕ) → Keeps s u k n z → ((x j d : ℕ) → suc d ≤ n → IsOn k (get s j) → IsTail s k (suc d) j z → f x ≡ Some j → g x ≡ Some j) → IsOn k (get s i) → IsTail s k n i z → HasBefores f s n i → HasBefores g u n i
befores_kept f g s u k zero i z h had on t b = tt
befores_kept f g s u k (suc n) i z h had on t b =
    let e : get u i ≡ get s i = h.same i (suc n) (omega arith) on t in
    let at : get u (next_of (get s i)) ≡ get s (next_of (get s i)) = h.same (next_of (get s i)) n (omega arith) t.1 t.2 in
    let head : g (thread_of (get s (next_of (get s i)))) ≡ Some i = had _ i n (omega arith) on t b.0 in
    let rest : HasBefores g u n (next_of (get s i)) = befores_kept f g s u k n (next_of (get s i)) z (shorter h) (λ x j d le. had x j d (omega (arith, le))) t.1 t.2 b.1 in
    subst (λ o. (g (thread_of (get u (next_of o))) ≡ Some i) × HasBefores g u n (next_of o)) (sym e) (subst (λ o. g (thread_of o) ≡ Some i) (sym at) head, rest)

-- ---- a thread joins
-- it stands nowhere on this chain
pub befores_apart : (f g : ℕ → Option ℕ) (s u : Slab LineNode) (k n i z t : ℕ) → Keeps s u k n z → ((q : ℕ) → q ≢ t → g q ≡ f q) → stands_in t (places s (suc n) i) ≡ false → IsOn k (get s i) → IsTail s k n i z → HasBefores f s n i → HasBefores g u n i
befores_apart f g s u k zero i z t h else absent on tail b = tt
befores_apart f g s u k (suc n) i z t h else absent on tail b =
    let e : get u i ≡ get s i = h.same i (suc n) (omega arith) on tail in
    let at : get u (next_of (get s i)) ≡ get s (next_of (get s i)) = h.same (next_of (get s i)) n (omega arith) tail.1 tail.2 in
    let later : stands_in t (places s (suc n) (next_of (get s i))) ≡ false = (both_false _ _ absent).1 in
    let other : thread_of (get s (next_of (get s i))) ≢ t = differs _ _ (both_false _ _ later).0 in
    let head : g (thread_of (get s (next_of (get s i)))) ≡ Some i = else _ other ∙ b.0 in
    let rest : HasBefores g u n (next_of (get s i)) = befores_apart f g s u k n (next_of (get s i)) z t (shorter h) else later tail.1 tail.2 b.1 in
    subst (λ o. (g (thread_of (get u (next_of o))) ≡ Some i) × HasBefores g u n (next_of o)) (sym e) (subst (λ o. g (thread_of o) ≡ Some i) (sym at) head, rest)

-- it stands behind the last
pub befores_longer : (f g : ℕ → Option ℕ) (s u : Slab LineNode) (k n i z key : ℕ) (last new : LineNode) → Extends s u k z key last new → ((q : ℕ) → q ≢ new.thread → g q ≡ f q) → g new.thread ≡ Some z → stands_in new.thread (places s (suc n) i) ≡ false → IsOn k (get s i) → IsTail s k n i z → HasBefores f s n i → HasBefores g u (suc n) i
befores_longer f g s u k zero i z key last new h else here absent on t b =
    let e : get u i ≡ Some (record last { next = key }) = ap (get u) t ∙ h.linked in
    subst (λ o. (g (thread_of (get u (next_of o))) ≡ Some i) × Unit {0}) (sym e) (ap (λ o. g (thread_of o)) h.added ∙ here ∙ ap (λ x. Some x) (sym t), tt)
befores_longer f g s u k (suc n) i z key last new h else here absent on t b =
    let later : stands_in new.thread (places s (suc n) (next_of (get s i))) ≡ false = (both_false _ _ absent).1 in
    let other : thread_of (get s (next_of (get s i))) ≢ new.thread = differs _ _ (both_false _ _ later).0 in
    let away : (j : ℕ) → IsOn k (get s j) → j ≢ key = λ j there q. vacant_is_not_on k _ (ap (get s) q ∙ h.vacant) there in
    let e : get u i ≡ get s i = h.others i t.0 (away i on) in
    let same : thread_of (get u (next_of (get s i))) ≡ thread_of (get s (next_of (get s i))) =
    elim (cases_eq (next_of (get s i)) z) [
      | inl q ↦ ap (λ x. thread_of (get u x)) q ∙ ap thread_of h.linked ∙ ap thread_of (sym h.was) ∙ ap (λ x. thread_of (get s x)) (sym q)
      | inr ne ↦ ap thread_of (h.others (next_of (get s i)) ne (away (next_of (get s i)) t.1))
    ] in
    let head : g (thread_of (get u (next_of (get s i)))) ≡ Some i = ap g same ∙ else _ other ∙ b.0 in
    let rest : HasBefores g u (suc n) (next_of (get s i)) = befores_longer f g s u k n (next_of (get s i)) z key last new h else here later t.1 t.2 b.1 in
    subst (λ o. (g (thread_of (get u (next_of o))) ≡ Some i) × HasBefores g u (suc n) (next_of o)) (sym e) (head, rest)

-- ---- a node leaves
-- what the table keeps as the first leaves
pub befores_shorter : (f g : ℕ → Option ℕ) (s u : Slab LineNode) (k n i z : ℕ) (node : LineNode) → get s i ≡ Some node → ((j : ℕ) → j ≢ i → get u j ≡ get s j) → ((x j : ℕ) → f x ≡ Some j → j ≢ i → g x ≡ Some j) → IsChain s k (suc n) i z → HasBefores f s n i → HasBefores g u (n - 1) node.next
befores_shorter f g s u k zero i z node was others had c b = tt
befores_shorter f g s u k (suc n) i z node was others had c b =
    let t : IsTail s k (suc n) i z = c.1 in
    let next_is : next_of (get s i) ≡ node.next = ap next_of was in
    let apart : (j d : ℕ) → d ≤ n → IsTail s k d j z → j ≢ i = λ j d le r e. (let more : d ≡ suc n = tail_once s k d (suc n) i z (subst (λ x. IsTail s k d x z) e r) t in let no : ⊥ = omega (arith, more, le) in no) in
    let keeps : Keeps s u k n z = record { same = λ j d le on r. others j (apart j d le r) } in
    let on : IsOn k (get s node.next) = subst (λ x. IsOn k (get s x)) next_is t.1 in
    let rest : IsTail s k n node.next z = subst (λ x. IsTail s k n x z) next_is t.2 in
    let left : HasBefores f s n node.next = subst (HasBefores f s n) next_is b.1 in
    let all : HasBefores g u n node.next = befores_kept f g s u k n node.next z keeps (λ x j d le there r e. had x j e (apart j (suc d) le r)) on rest left in
    subst (λ x. HasBefores g u x node.next) (one_less n) all

-- what the table keeps as node j leaves from behind node p, z being the last
pub record Closing (f g : ℕ → Option ℕ) (u : Slab LineNode) (p j z : ℕ) (gone : LineNode) : Type 0 where
  pub kept : (x y : ℕ) → f x ≡ Some y → y ≢ p → y ≢ j → g x ≡ Some y
  pub moved : j ≢ z → g (thread_of (get u gone.next)) ≡ Some p

pub befores_without : (f g : ℕ → Option ℕ) (s u : Slab LineNode) (k a m i z p j : ℕ) (before gone : LineNode) → Unlinks s u p j before gone → Closing f g u p j z gone → p ≡ walk s a i → a ≤ m → IsOn k (get s i) → IsTail s k (suc m) i z → HasBefores f s (suc m) i → HasBefores g u m i
befores_without f g s u k zero zero i z p j before gone h c e le on t b = tt
befores_without f g s u k zero (suc m) i z p j before gone h c e le on t b =
    let was : get s i ≡ Some before = ap (get s) (sym e) ∙ h.was in
    let linked : get u i ≡ Some (record before { next = gone.next }) = ap (get u) (sym e) ∙ h.linked in
    let next : next_of (get s i) ≡ j = ap next_of was ∙ h.follows in
    let at_j : IsTail s k (suc m) j z = subst (λ x. IsTail s k (suc m) x z) next t.2 in
    let far : next_of (get s j) ≡ gone.next = ap next_of h.left in
    let on2 : IsOn k (get s gone.next) = subst (λ x. IsOn k (get s x)) far at_j.1 in
    let tail2 : IsTail s k m gone.next z = subst (λ x. IsTail s k m x z) far at_j.2 in
    let not_p : (x d : ℕ) → d ≤ m → IsTail s k d x z → x ≢ p = λ x d le2 tx q. (let w = tail_once s k d (suc (suc m)) i z (subst (λ y. IsTail s k d y z) (q ∙ e) tx) t in let no : ⊥ = omega (arith, w, le2) in no) in
    let not_j : (x d : ℕ) → d ≤ m → IsTail s k d x z → x ≢ j = λ x d le2 tx q. (let w = tail_once s k d (suc m) j z (subst (λ y. IsTail s k d y z) q tx) at_j in let no : ⊥ = omega (arith, w, le2) in no) in
    let keeps : Keeps s u k m z = record { same = λ x d le2 onx tx. h.others x (not_p x d le2 tx) (not_j x d le2 tx) } in
    let b1 : HasBefores f s (suc m) j = subst (HasBefores f s (suc m)) next b.1 in
    let b2 : HasBefores f s m gone.next = subst (HasBefores f s m) far b1.1 in
    let rest : HasBefores g u m gone.next = befores_kept f g s u k m gone.next z keeps (λ x y d le2 there r fx. c.kept x y fx (not_p y (suc d) le2 r) (not_j y (suc d) le2 r)) on2 tail2 b2 in
    let head : g (thread_of (get u gone.next)) ≡ Some i = c.moved at_j.0 ∙ ap (λ x. Some x) e in
    subst (λ o. (g (thread_of (get u (next_of o))) ≡ Some i) × HasBefores g u m (next_of o)) (sym linked) (head, rest)
befores_without f g s u k (suc a) zero i z p j before gone h c e le on t b = let no : ⊥ = omega arith in absurd no
befores_without f g s u k (suc a) (suc m) i z p j before gone h c e le on t b =
    let le2 : a ≤ m = omega arith in
    let far = walk_far s k a m (next_of (get s i)) z le2 t.2 in
    let at_p : IsTail s k (suc far.0) p z = subst (λ x. IsTail s k (suc far.0) x z) (sym e) far.2 in
    let next : next_of (get s p) ≡ j = ap next_of h.was ∙ h.follows in
    let at_j : IsTail s k far.0 j z = subst (λ x. IsTail s k far.0 x z) next at_p.2 in
    let not_p : i ≢ p = λ q. (let w = tail_once s k (suc far.0) (suc (suc m)) i z (subst (λ y. IsTail s k (suc far.0) y z) (sym q) at_p) t in let no : ⊥ = omega (arith, w, far.1) in no) in
    let not_j : i ≢ j = λ q. (let w = tail_once s k far.0 (suc (suc m)) i z (subst (λ y. IsTail s k far.0 y z) (sym q) at_j) t in let no : ⊥ = omega (arith, w, far.1) in no) in
    let later : next_of (get s i) ≢ j = λ q. (let w = tail_once s k far.0 (suc m) (next_of (get s i)) z (subst (λ y. IsTail s k far.0 y z) (sym q) at_j) t.2 in let no : ⊥ = omega (arith, w, far.1) in no) in
    let same : get u i ≡ get s i = h.others i not_p not_j in
    let thread : thread_of (get u (next_of (get s i))) ≡ thread_of (get s (next_of (get s i))) =
    elim (cases_eq (next_of (get s i)) p) [
      | inl q ↦ ap (λ x. thread_of (get u x)) q ∙ ap thread_of h.linked ∙ ap thread_of (sym h.was) ∙ ap (λ x. thread_of (get s x)) (sym q)
      | inr ne ↦ ap thread_of (h.others (next_of (get s i)) ne later)
    ] in
    let head : g (thread_of (get u (next_of (get s i)))) ≡ Some i = ap g thread ∙ c.kept _ i b.0 not_p not_j in
    let rest : HasBefores g u m (next_of (get s i)) = befores_without f g s u k a m (next_of (get s i)) z p j before gone h c e le2 t.1 t.2 b.1 in
    subst (λ o. (g (thread_of (get u (next_of o))) ≡ Some i) × HasBefores g u m (next_of o)) (sym same) (head, rest)

-- ---- all lines
-- another line, whose nodes and whose links back are as they were
pub backed_other : (f g : ℕ → Option ℕ) (s u : Slab LineNode) (k n i z : ℕ) → ((j : ℕ) → IsOn k (get s j) → get u j ≡ get s j) → ((x j : ℕ) → IsOn k (get s j) → f x ≡ Some j → g x ≡ Some j) → IsChain s k n i z → HasBefores f s (n - 1) i → HasBefores g u (n - 1) i
backed_other f g s u k zero i z h had c b = tt
backed_other f g s u k (suc n) i z h had c b =
    let all : HasBefores g u n i = befores_kept f g s u k n i z (record { same = λ j d le on t. h j on }) (λ x j d le on t. had x j on) c.0 c.1 (subst (λ x. HasBefores f s x i) (sym (one_less n)) b) in
    subst (λ x. HasBefores g u x i) (one_less n) all

-- another line than the one that a thread joins
pub backed_apart : (f g : ℕ → Option ℕ) (s u : Slab LineNode) (k n i z t : ℕ) → ((j : ℕ) → IsOn k (get s j) → get u j ≡ get s j) → ((q : ℕ) → q ≢ t → g q ≡ f q) → stands_in t (places s n i) ≡ false → IsChain s k n i z → HasBefores f s (n - 1) i → HasBefores g u (n - 1) i
backed_apart f g s u k zero i z t h else absent c b = tt
backed_apart f g s u k (suc n) i z t h else absent c b =
    let all : HasBefores g u n i = befores_apart f g s u k n i z t (record { same = λ j d le on r. h j on }) else absent c.0 c.1 (subst (λ x. HasBefores f s x i) (sym (one_less n)) b) in
    subst (λ x. HasBefores g u x i) (one_less n) all

-- one line is written
pub backed_write : (f g : ℕ → Option ℕ) (es : List Ends) (s u : Slab LineNode) (m : ℕ) (e : Ends) → m < length es → ((k : ℕ) (d : Ends) → k ≢ m → k < length es → IsBacked g u (get_or es k d)) → IsBacked g u e → AreBacked g (set es m e) u
backed_write f g es s u m e lt others here k d kt =
    elim (cases_eq k m) [
      | inl same ↦ subst (λ x. IsBacked g u (get_or (set es m e) x d)) (sym same) (subst (IsBacked g u) (sym (get_or-set_same es m e d lt)) here)
      | inr differs ↦ subst (IsBacked g u) (sym (get_or-set_other es m k e d differs)) (others k d differs (omega (arith, kt, length-set es m e)))
    ]

-- ---- the node before a thread's
pub record Found (f : ℕ → Option ℕ) (s : Slab LineNode) (n i t : ℕ) : Type 0 where
  pub steps : ℕ
  pub within : steps < n
  pub had : f t ≡ Some (walk s steps i)
  pub found : is_sought (Thread t) (place_of (get s (next_of (get s (walk s steps i))))) ≡ true
  pub clear : any_sought (Thread t) (places s (suc steps) i) ≡ false

pub finds : (f : ℕ → Option ℕ) (s : Slab LineNode) (n i t : ℕ) → HasBefores f s n i → is_sought (Thread t) (place_of (get s i)) ≡ false → any_sought (Thread t) (places s n (next_of (get s i))) ≡ true → Found f s n i t
finds f s zero i t b first stands = let no : ⊥ = cc in absurd no
finds f s (suc n) i t b first stands =
    elim (thread_of (get s (next_of (get s i))) == t) as (λ x. thread_of (get s (next_of (get s i))) == t ≡ x → cond x true (any_sought (Thread t) (places s n (next_of (get s (next_of (get s i)))))) ≡ true → Found f s (suc n) i t) [
      | true ↦ λ here _.
          record {
            steps = 0;
            within = omega arith;
            had = ap f (sym (eqb-true _ _ here)) ∙ b.0;
            found = here;
            clear = ap (λ x. cond x true false) first;
          }
      | false ↦ λ other rest.
          (let r = finds f s n (next_of (get s i)) t b.1 other rest in
          record {
            steps = suc r.steps;
            within = omega (arith, r.within);
            had = r.had;
            found = r.found;
            clear = ap (λ x. cond x true (any_sought (Thread t) (places s (suc r.steps) (next_of (get s i))))) first ∙ r.clear;
          })
    ] refl stands

pub finds_before : (f : ℕ → Option ℕ) (s : Slab LineNode) (e : Ends) (t p : ℕ) → IsBacked f s e → 0 < e.len → is_sought (Thread t) (place_of (get s e.first)) ≡ false → any_sought (Thread t) (behind s e) ≡ true → f t ≡ Some p → StandsBefore s e (Thread t) p
finds_before f s e t p b some first stands had =
    let r = finds f s (e.len - 1) e.first t b first stands in
    let is : p ≡ walk s r.steps e.first = some_once p (walk s r.steps e.first) (f t) had r.had in
    record {
      steps = r.steps;
      within = omega (arith, r.within, some);
      is = is;
      found = subst (λ x. is_sought (Thread t) (place_of (get s (next_of (get s x)))) ≡ true) (sym is) r.found;
      clear = r.clear;
    }

pub finds_some : (f : ℕ → Option ℕ) (s : Slab LineNode) (e : Ends) (t : ℕ) → IsBacked f s e → is_sought (Thread t) (place_of (get s e.first)) ≡ false → any_sought (Thread t) (behind s e) ≡ true → f t ≡ None → ⊥
finds_some f s e t b first stands none =
    let r = finds f s (e.len - 1) e.first t b first stands in
    let q : None ≡ Some (walk s r.steps e.first) = sym none ∙ r.had in
    let no : ⊥ = cc in no

-- ---- the calls
-- the first place of a line
pub joins_first : (f : ℕ → Option ℕ) (es : List Ends) (s u : Slab LineNode) (m key : ℕ) (new : LineNode) → IsSound es s → AreBacked f es s → m < length es → get s key ≡ None → Updates s u key (Some new) → AreBacked f (set es m (record { first = key; last = key; len = 1; cursor = None })) u
joins_first f es s u m key new h b lt vacant updates =
    backed_write f f es s u m (record { first = key; last = key; len = 1; cursor = None }) lt
    (λ k d differs kt. backed_other f f s u k _ _ _ (λ j there. updates.others j (λ q. vacant_is_not_on k _ (ap (get s) q ∙ vacant) there)) (λ x j there had. had) (h.chains k d kt) (b k d kt))
    tt

module _ (f g : ℕ → Option ℕ) (es : List Ends) (s : Slab LineNode) (m : ℕ) (e : Ends) (h : IsSound es s) (b : AreBacked f es s) (lt : m < length es) (is : e ≡ get_or es m e) where
  backed_long : (n : ℕ) → e.len ≡ suc n → HasBefores f s n e.first
  backed_long n q =
      let here : IsBacked f s e = subst (IsBacked f s) (sym is) (b m e lt) in
      let less : e.len - 1 ≡ n = omega (arith, q) in
      subst (λ x. HasBefores f s x e.first) less here

  pub joins_later : (s1 u : Slab LineNode) (n key : ℕ) (new : LineNode) → e.len ≡ suc n → get s key ≡ None → Updates s s1 key (Some new) → ((x : LineNode) → get s1 e.last ≡ Some x → Updates s1 u e.last (Some (record x { next = key }))) → new.line ≡ m
      → IsPut f g new.thread (Some e.last) → ((k : ℕ) → stands_in new.thread (get_or (map (line_at s) es) k []) ≡ false) → AreBacked g (set es m (record { first = e.first; last = key; len = e.len + 1; cursor = e.cursor })) u
  joins_later s1 u n key new q vacant first linked on puts alone =
      let c = long_chain_of es s m e h lt is n q in
      let last_on = last_of es s m e h lt is n q in
      let last = last_after es s m e h lt is n key s1 new q vacant first in
      let second = linked last.0 last.2 in
      let apart : e.last ≢ key = λ z. vacant_is_not_on m _ (ap (get s) z ∙ vacant) last_on in
      let extends : Extends s u m e.last key last.0 new = record {
        was = last.1;
        linked = second.changed;
        vacant = vacant;
        added = second.others key (λ z. apart (sym z)) ∙ first.changed;
        on = on;
        others = λ j x y. second.others j x ∙ first.others j y;
      } in
      let else = put_else f g new.thread (Some e.last) puts in
      let seen : (k : ℕ) (d : Ends) → k < length es → stands_in new.thread (line_at s (get_or es k d)) ≡ false = λ k d kt. ap (stands_in new.thread) (sym (get_or-map (line_at s) es k d [] kt)) ∙ alone k in
      let own : stands_in new.thread (places s (suc n) e.first) ≡ false = subst (λ x. stands_in new.thread (places s x e.first) ≡ false) q (subst (λ (x : Ends). stands_in new.thread (line_at s x) ≡ false) (sym is) (seen m e lt)) in
      let here : HasBefores g u (suc n) e.first = befores_longer f g s u m n e.first e.last key last.0 new extends else (put_here f g new.thread (Some e.last) puts) own c.0 c.1 (backed_long n q) in
      let more : suc n ≡ e.len + 1 - 1 = omega (arith, q) in
      backed_write f g es s u m (record { first = e.first; last = key; len = e.len + 1; cursor = e.cursor }) lt
      (λ k d differs kt. backed_apart f g s u k _ _ _ new.thread
      (λ j there. extends.others j (λ z. differs (on_one k m _ (subst (λ x. IsOn k (get s x)) z there) last_on)) (λ z. vacant_is_not_on k _ (ap (get s) z ∙ vacant) there))
      else (seen k d kt) (h.chains k d kt) (b k d kt))
      (subst (λ x. HasBefores g u x e.first) more here)

-- all links but that of the thread that is first now
served_kept : (f g : ℕ → Option ℕ) (s u : Slab LineNode) (k n i z : ℕ) (node : LineNode) → get s i ≡ Some node → ((j : ℕ) → j ≢ i → get u j ≡ get s j) → IsChain s k (suc n) i z → HasBefores f s n i → IsFirstNow f g u n node.next → (x j : ℕ) → f x ≡ Some j → j ≢ i → g x ≡ Some j
served_kept f g s u k zero i z node was others c b first x j had ne = first x ∙ had
served_kept f g s u k (suc n) i z node was others c b first x j had ne =
    let t : IsTail s k (suc n) i z = c.1 in
    let next_is : next_of (get s i) ≡ node.next = ap next_of was in
    let apart : next_of (get s i) ≢ i = λ q. (let w = tail_once s k n (suc n) i z (subst (λ y. IsTail s k n y z) q t.2) t in let no : ⊥ = omega (arith, w) in no) in
    let at : thread_of (get u node.next) ≡ thread_of (get s (next_of (get s i))) = ap (λ y. thread_of (get u y)) (sym next_is) ∙ ap thread_of (others (next_of (get s i)) apart) in
    put_else f g (thread_of (get u node.next)) None first x (λ q. ne (some_once j i (f x) had (ap f (q ∙ at) ∙ b.0))) ∙ had

module _ (f g : ℕ → Option ℕ) (es : List Ends) (s : Slab LineNode) (m : ℕ) (e : Ends) (h : IsSound es s) (b : AreBacked f es s) (lt : m < length es) (is : e ≡ get_or es m e) where
  -- who is first now
  pub served_next : (u : Slab LineNode) (n : ℕ) (node : LineNode) → e.len ≡ suc n → get s e.first ≡ Some node → Updates s u e.first None → n ≢ 0 → IsSome (get u node.next)
  served_next u n node q was updates some =
      let short = chain_shorter s u m n e.first e.last node was updates.others (long_chain_of es s m e h lt is n q) in
      let long : n ≡ suc (n - 1) = omega (arith, some) in
      is_there m _ (subst (λ x. IsChain u m x node.next e.last) long short.chain).0

  pub serves_backed : (u : Slab LineNode) (cursor : Option ℕ) (n : ℕ) (node : LineNode) → e.len ≡ suc n → get s e.first ≡ Some node → Updates s u e.first None → IsFirstNow f g u n node.next → AreBacked g (set es m (record { first = node.next; last = e.last; len = n; cursor = cursor })) u
  serves_backed u cursor n node q was updates first =
      let c = long_chain_of es s m e h lt is n q in
      let own = backed_long f g es s m e h b lt is n q in
      let kept = served_kept f g s u m n e.first e.last node was updates.others c own first in
      let away : (j k : ℕ) → k ≢ m → IsOn k (get s j) → j ≢ e.first = λ j k differs there z. differs (on_one k m _ (subst (λ x. IsOn k (get s x)) z there) c.0) in
      backed_write f g es s u m (record { first = node.next; last = e.last; len = n; cursor = cursor }) lt
      (λ k d differs kt. backed_other f g s u k _ _ _ (λ j there. updates.others j (away j k differs there)) (λ x j there had. kept x j had (away j k differs there)) (h.chains k d kt) (b k d kt))
      (befores_shorter f g s u m n e.first e.last node was updates.others kept c own)

-- a walk comes to a node that stands before others
at_walk : (f : ℕ → Option ℕ) (s : Slab LineNode) (k a m i z : ℕ) → a ≤ m → IsTail s k (suc m) i z → HasBefores f s (suc m) i → (d : ℕ) × (IsTail s k (suc d) (walk s a i) z × HasBefores f s (suc d) (walk s a i))
at_walk f s k zero m i z le t b = (m, (t, b))
at_walk f s k (suc a) zero i z le t b = let no : ⊥ = omega arith in absurd no
at_walk f s k (suc a) (suc m) i z le t b = at_walk f s k a m (next_of (get s i)) z (omega arith) t.2 b.1

-- who stood behind node j, which left
record Successor (f : ℕ → Option ℕ) (u : Slab LineNode) (k j : ℕ) (gone : LineNode) : Type 0 where
  on : IsOn k (get u gone.next)
  had : f (thread_of (get u gone.next)) ≡ Some j

next_stands : (f : ℕ → Option ℕ) (s u : Slab LineNode) (k d p j z : ℕ) (before gone : LineNode) → Unlinks s u p j before gone → IsTail s k d j z → IsTail s k (suc d) p z → HasBefores f s d j → j ≢ z → Successor f u k j gone
next_stands f s u k zero p j z before gone h t tp b ne = absurd (ne t)
next_stands f s u k (suc d) p j z before gone h t tp b ne =
    let far : next_of (get s j) ≡ gone.next = ap next_of h.left in
    let not_p : next_of (get s j) ≢ p = λ q. (let w = tail_once s k d (suc (suc d)) p z (subst (λ y. IsTail s k d y z) q t.2) tp in let no : ⊥ = omega (arith, w) in no) in
    let not_j : next_of (get s j) ≢ j = λ q. (let w = tail_once s k d (suc d) j z (subst (λ y. IsTail s k d y z) q t.2) t in let no : ⊥ = omega (arith, w) in no) in
    let same : get u (next_of (get s j)) ≡ get s (next_of (get s j)) = h.others (next_of (get s j)) not_p not_j in
    record {
      on = subst (λ x. IsOn k (get u x)) far (subst (IsOn k) (sym same) t.1);
      had = ap (λ x. f (thread_of (get u x))) (sym far) ∙ ap (λ o. f (thread_of o)) same ∙ b.0;
    }

module _ (f g : ℕ → Option ℕ) (es : List Ends) (s : Slab LineNode) (m : ℕ) (e : Ends) (h : IsSound es s) (b : AreBacked f es s) (lt : m < length es) (is : e ≡ get_or es m e) (u : Slab LineNode) (sought : Sought) (p : ℕ) (gone : LineNode) (w : StandsBefore s e sought p) (left : Unlinked s u p gone) where
  -- the line around the node that left
  record Around : Type 0 where
    count : ℕ
    len : e.len ≡ suc (suc count)
    fits : w.steps ≤ count
    own : HasBefores f s (suc count) e.first
    on : IsOn m (get s p)
    gone_on : IsOn m (get s (next_of (get s p)))
    not_last : p ≢ e.last
    apart : next_of (get s p) ≢ p
    had : f gone.thread ≡ Some p
    next : next_of (get s p) ≢ e.last → Successor f u m (next_of (get s p)) gone

  around : Around
  around =
      let count = e.len - 2 in
      let q : e.len ≡ suc (suc count) = omega (arith, w.within) in
      let le : w.steps ≤ count = omega (arith, w.within, q) in
      let c = long_chain_of es s m e h lt is (suc count) q in
      let own = backed_long f g es s m e h b lt is (suc count) q in
      let far = at_walk f s m w.steps count e.first e.last le c.1 own in
      let tail : IsTail s m (suc far.0) p e.last = subst (λ x. IsTail s m (suc far.0) x e.last) (sym w.is) far.1.0 in
      let backed : HasBefores f s (suc far.0) p = subst (HasBefores f s (suc far.0)) (sym w.is) far.1.1 in
      record {
        count = count;
        len = q;
        fits = le;
        own = own;
        on = subst (λ x. IsOn m (get s x)) (sym w.is) (walk_on s m w.steps (suc count) e.first e.last (omega (arith, le)) c.0 c.1);
        gone_on = tail.1;
        not_last = tail.0;
        apart = λ z. (let n = tail_once s m far.0 (suc far.0) p e.last (subst (λ x. IsTail s m far.0 x e.last) z tail.2) tail in let no : ⊥ = omega (arith, n) in no);
        had = ap (λ o. f (thread_of o)) (sym left.unlinks.left) ∙ backed.0;
        next = next_stands f s u m far.0 p (next_of (get s p)) e.last left.before gone left.unlinks tail.2 tail backed.1;
      }

  more : last_after_leaving p (next_of (get s p)) e.last ≢ p → next_of (get s p) ≢ e.last
  more ne z = ne (at_last p (next_of (get s p)) e.last z)

  pub stood_behind : last_after_leaving p (next_of (get s p)) e.last ≢ p → StoodBehind f u gone
  stood_behind ne =
      let a = around in
      let n = a.next (more ne) in
      record {
        line = m;
        key = next_of (get s p);
        on = n.on;
        had = n.had;
        apart = λ z. a.apart (some_once (next_of (get s p)) p (f gone.thread) (ap f (sym z) ∙ n.had) a.had);
      }

  closing : IsClosed f g u gone (last_after_leaving p (next_of (get s p)) e.last) p → Closing f g u p (next_of (get s p)) e.last gone
  closing c =
      let a = around in
      record {
        kept = λ x y had ne_p ne_j.
            c.kept x (λ z. ne_p (some_once y p (f x) had (ap f z ∙ a.had))) (λ ne z. ne_j (some_once y (next_of (get s p)) (f x) had (ap f z ∙ (a.next (more ne)).had))) ∙ had;
        moved = λ ne. c.moved (λ z. a.not_last (sym z ∙ not_last p (next_of (get s p)) e.last ne));
      }

  pub leaves_backed : (cursor : Option ℕ) → IsClosed f g u gone (last_after_leaving p (next_of (get s p)) e.last) p → AreBacked g (set es m (ends_after_leaving s p cursor e)) u
  leaves_backed cursor closed =
      let a = around in
      let step = left.unlinks in
      let close = closing closed in
      let c = long_chain_of es s m e h lt is (suc a.count) a.len in
      let own : HasBefores g u a.count e.first = befores_without f g s u m w.steps a.count e.first e.last p (next_of (get s p)) left.before gone step close w.is a.fits c.0 c.1 a.own in
      let less : a.count ≡ e.len - 1 - 1 = omega (arith, a.len) in
      let not_p : (j k : ℕ) → k ≢ m → IsOn k (get s j) → j ≢ p = λ j k differs there z. differs (on_one k m _ (subst (λ x. IsOn k (get s x)) z there) a.on) in
      let not_j : (j k : ℕ) → k ≢ m → IsOn k (get s j) → j ≢ next_of (get s p) = λ j k differs there z. differs (on_one k m _ (subst (λ x. IsOn k (get s x)) z there) a.gone_on) in
      backed_write f g es s u m (ends_after_leaving s p cursor e) lt
      (λ k d differs kt. backed_other f g s u k _ _ _ (λ j there. step.others j (not_p j k differs there) (not_j j k differs there)) (λ x j there had. close.kept x j had (not_p j k differs there) (not_j j k differs there)) (h.chains k d kt) (b k d kt))
      (subst (λ x. HasBefores g u x e.first) less own)

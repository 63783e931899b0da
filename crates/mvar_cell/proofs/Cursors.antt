-- What writes of nodes do to the cursors of lines.
use Rattle.std.proofs.Common.{◌≡◌, ◌≢◌, ℕ, zero, suc, ◌<◌, ◌≤◌, List, [], ◌∷◌, length, get_or, set, Option, Some, None, refl, ap, sym, subst, ◌∙◌, arith, inl, inr, ◌+◌, ◌-◌, true, false, cond, eq-eqb, unwrap_or}
use Rattle.std.proofs.lemmas.Bool.{cases_eq, ne_eqb}
use Rattle.std.proofs.lemmas.List.{get_or-set_same, get_or-set_other, length-set}
use Rattle.plain_laws.proofs.Booleans.{both_false}
use Rattle.slab.specs.Slab.{Slab, get, Updates}
use Rattle.mvar_cell.specs.declared.lines.LineNode.{LineNode}
use Rattle.mvar_cell.specs.declared.lines.Ends.{Ends}
use Rattle.mvar_cell.specs.declared.lines.Sought.{Sought}
use Rattle.mvar_cell.specs.declared.lines.Sought.TheVariants.{Thread, Reader}
use Rattle.mvar_cell.specs.Nodes.{place_of, next_of, places, IsOn, IsTail, IsChain, IsLine, IsSound, is_sought, any_sought, walk, behind, StandsBefore, Unlinks, Unlinked, ends_after_leaving}
use Rattle.mvar_cell.specs.Cursors.{IsPassed, HasPassed, IsMarked, AreMarked, Searches, moved_cursor, cursor_after_leaving}
use Rattle.mvar_cell.proofs.Chains.{tail_once, Keeps, Extends, vacant_is_not_on, on_one, walk_on, walk_next, places_more, none_append, none_alone}
use Rattle.mvar_cell.proofs.Writes.{long_chain_of, last_of, last_after}

-- ---- the search
-- where all places up to a node are no readers' and one behind the first is, the node is not the last
reads_behind : (s : Slab LineNode) (n i a : ℕ) → any_sought Reader (places s (suc a) i) ≡ false → is_sought Reader (place_of (get s i)) ≡ false → any_sought Reader (places s n (next_of (get s i))) ≡ true → suc a ≡ suc n → ⊥
reads_behind s n i a clear first stands e =
    let none : any_sought Reader (places s n (next_of (get s i))) ≡ false = (both_false (is_sought Reader (place_of (get s i))) (any_sought Reader (places s n (next_of (get s i)))) (subst (λ x. any_sought Reader (places s x i) ≡ false) e clear)).1 in
    let no : ⊥ = cc in no

module _ (s : Slab LineNode) (e : Ends) (some : 0 < e.len) (first : is_sought Reader (place_of (get s e.first)) ≡ false) (stands : any_sought Reader (behind s e) ≡ true) where
  -- the node is not the last
  pub not_done : (at : ℕ) (p : IsPassed s e.len e.first at) → suc p.steps < e.len
  not_done at p =
      let ne : suc p.steps ≢ suc (e.len - 1) = reads_behind s (e.len - 1) e.first p.steps p.clear first stands in
      omega (arith, ne, p.within, some)

  -- it begins at the cursor
  pub search_begins : (cursor : Option ℕ) → HasPassed s e.len e.first cursor → Searches s e 1 (unwrap_or cursor e.first)
  search_begins None h = record { passed = record { steps = 0; within = some; is = refl; clear = none_alone Reader (place_of (get s e.first)) first }; far = omega arith }
  search_begins (Some key) h = record { passed = h; far = omega arith }

  pub search_goes_on : (step at : ℕ) → Searches s e step at → is_sought Reader (place_of (get s (next_of (get s at)))) ≡ false → Searches s e (step + 1) (next_of (get s at))
  search_goes_on step at w other =
      let p = w.passed in
      let next : next_of (get s at) ≡ walk s (suc p.steps) e.first = ap (λ x. next_of (get s x)) p.is ∙ sym (walk_next s p.steps e.first) in
      let last : is_sought Reader (place_of (get s (walk s (suc p.steps) e.first))) ≡ false = subst (λ x. is_sought Reader (place_of (get s x)) ≡ false) next other in
      record {
        passed = record {
          steps = suc p.steps;
          within = not_done at p;
          is = next;
          clear = ap (any_sought Reader) (places_more s (suc p.steps) e.first) ∙ none_append Reader (places s (suc p.steps) e.first) (place_of (get s (walk s (suc p.steps) e.first)) ∷ []) p.clear (none_alone Reader (place_of (get s (walk s (suc p.steps) e.first))) last);
        };
        far = omega (arith, w.far);
      }

  pub search_finds : (step at : ℕ) → Searches s e step at → is_sought Reader (place_of (get s (next_of (get s at)))) ≡ true → StandsBefore s e Reader at
  search_finds step at w found =
      let p = w.passed in
      record { steps = p.steps; within = (let lt = not_done at p in omega (arith, lt)); is = p.is; found = found; clear = p.clear }

  pub search_ends : (step at : ℕ) → Searches s e step at → e.len ≤ step → ⊥
  search_ends step at w le = let lt = not_done at w.passed in omega (arith, lt, le, w.far)

  -- the node stands there, and one behind it
  pub search_on : (k step at : ℕ) → IsLine s k e → Searches s e step at → IsOn k (get s at) × IsOn k (get s (next_of (get s at)))
  search_on k step at c w =
      let p = w.passed in
      let lt = not_done at p in
      let q : e.len ≡ suc (e.len - 1) = omega (arith, some) in
      let chain : IsChain s k (suc (e.len - 1)) e.first e.last = subst (λ n. IsChain s k n e.first e.last) q c in
      let here = walk_on s k p.steps (e.len - 1) e.first e.last (omega (arith, lt)) chain.0 chain.1 in
      let later = walk_on s k (suc p.steps) (e.len - 1) e.first e.last (omega (arith, lt)) chain.0 chain.1 in (
        subst (λ x. IsOn k (get s x)) (sym p.is) here,
        subst (λ x. IsOn k (get s x)) (walk_next s p.steps e.first ∙ ap (λ x. next_of (get s x)) (sym p.is)) later,
      )

-- ---- walks
walk_tail : (s : Slab LineNode) (k a n i z : ℕ) → a ≤ n → IsTail s k n i z → (d : ℕ) × (a + d ≡ n) × IsTail s k d (walk s a i) z
walk_tail s k zero n i z le t = (n, omega arith, t)
walk_tail s k (suc a) zero i z le t = let no : ⊥ = omega arith in absurd no
walk_tail s k (suc a) (suc n) i z le t =
    let r = walk_tail s k a n (next_of (get s i)) z (omega arith) t.2 in
    (r.0, omega (arith, r.1), r.2)

-- walks of several lengths end at several nodes
walk_once : (s : Slab LineNode) (k a b n i z : ℕ) → a ≤ n → b ≤ n → IsTail s k n i z → walk s a i ≡ walk s b i → a ≡ b
walk_once s k a b n i z la lb t e =
    let p = walk_tail s k a n i z la t in
    let q = walk_tail s k b n i z lb t in
    let w = tail_once s k p.0 q.0 (walk s a i) z p.2 (subst (λ x. IsTail s k q.0 x z) (sym e) q.2) in
    omega (arith, w, p.1, q.1)

not_end : (s : Slab LineNode) (k b n i z : ℕ) → b < n → IsTail s k n i z → walk s b i ≢ z
not_end s k b zero i z lt t = let no : ⊥ = omega arith in absurd no
not_end s k zero (suc n) i z lt t = t.0
not_end s k (suc b) (suc n) i z lt t = not_end s k b n (next_of (get s i)) z (omega arith) t.2

-- a walk, and its places, are as they were
record Same (s u : Slab LineNode) (a i : ℕ) : Type 0 where
  walk : walk u a i ≡ walk s a i
  places : places u (suc a) i ≡ places s (suc a) i

same_walk : (s u : Slab LineNode) (a i : ℕ) → ((b : ℕ) → b < a → get u (walk s b i) ≡ get s (walk s b i)) → place_of (get u (walk s a i)) ≡ place_of (get s (walk s a i)) → Same s u a i
same_walk s u zero i h last = record { walk = refl; places = ap (λ p. p ∷ []) last }
same_walk s u (suc a) i h last =
    let e : get u i ≡ get s i = h 0 (omega arith) in
    let r = same_walk s u a (next_of (get s i)) (λ b lt. h (suc b) (omega (arith, lt))) last in
    record {
      walk = ap (λ o. walk u a (next_of o)) e ∙ r.walk;
      places = ap (λ o. place_of o ∷ places u (suc a) (next_of o)) e ∙ ap (λ ps. place_of (get s i) ∷ ps) r.places;
    }

passed_same : (s u : Slab LineNode) (n m i key : ℕ) (p : IsPassed s n i key) → p.steps < m → Same s u p.steps i
    → IsPassed u m i key
passed_same s u n m i key p lt same =
    record { steps = p.steps; within = lt; is = p.is ∙ sym same.walk; clear = ap (any_sought Reader) same.places ∙ p.clear }

passed_here : (u : Slab LineNode) (n i : ℕ) → is_sought Reader (place_of (get u i)) ≡ false → IsPassed u (suc n) i i
passed_here u n i first = record { steps = 0; within = omega arith; is = refl; clear = none_alone Reader (place_of (get u i)) first }

passed_more : (u : Slab LineNode) (n i key : ℕ) → is_sought Reader (place_of (get u i)) ≡ false → IsPassed u n (next_of (get u i)) key → IsPassed u (suc n) i key
passed_more u n i key first p =
    record {
      steps = suc p.steps;
      within = omega (arith, p.within);
      is = p.is;
      clear = ap (λ b. cond b true (any_sought Reader (places u (suc p.steps) (next_of (get u i))))) first ∙ p.clear;
    }

-- ---- one cursor
-- nodes of the line are as they were
passed_kept : (s u : Slab LineNode) (k n i z key : ℕ) → Keeps s u k n z → IsOn k (get s i) → IsTail s k n i z → IsPassed s (suc n) i key → IsPassed u (suc n) i key
passed_kept s u k n i z key h on t p =
    let at : (b : ℕ) → b ≤ n → get u (walk s b i) ≡ get s (walk s b i) = λ b le. (let r = walk_tail s k b n i z le t in h.same (walk s b i) r.0 (omega (arith, r.1)) (walk_on s k b n i z le on t) r.2) in
    passed_same s u (suc n) (suc n) i key p p.within (same_walk s u p.steps i (λ b lt. at b (omega (arith, lt, p.within))) (ap place_of (at p.steps (omega (arith, p.within)))))

-- another line
passed_other : (s u : Slab LineNode) (k n i z key : ℕ) → ((j : ℕ) → IsOn k (get s j) → get u j ≡ get s j) → IsChain s k n i z → IsPassed s n i key → IsPassed u n i key
passed_other s u k zero i z key h c p = let no : ⊥ = omega (arith, p.within) in absurd no
passed_other s u k (suc n) i z key h c p = passed_kept s u k n i z key (record { same = λ j d le on t. h j on }) c.0 c.1 p

-- a node is added behind the last
passed_longer : (s u : Slab LineNode) (k n i z key at : ℕ) (last new : LineNode) → Extends s u k z key last new → IsOn k (get s i) → IsTail s k n i z → IsPassed s (suc n) i at → IsPassed u (suc (suc n)) i at
passed_longer s u k n i z key at last new h on t p =
    let away : (b : ℕ) → b ≤ n → walk s b i ≢ key = λ b le q. vacant_is_not_on k _ (ap (get s) q ∙ h.vacant) (walk_on s k b n i z le on t) in
    let own : place_of (get u (walk s p.steps i)) ≡ place_of (get s (walk s p.steps i)) =
    elim (cases_eq (walk s p.steps i) z) [
      | inl q ↦ ap (λ x. place_of (get u x)) q ∙ ap place_of h.linked ∙ ap place_of (sym h.was) ∙ ap (λ x. place_of (get s x)) (sym q)
      | inr ne ↦ ap place_of (h.others (walk s p.steps i) ne (away p.steps (omega (arith, p.within))))
    ] in
    passed_same s u (suc n) (suc (suc n)) i at p (omega (arith, p.within)) (same_walk s u p.steps i (λ b lt. h.others (walk s b i) (not_end s k b n i z (omega (arith, lt, p.within)) t) (away b (omega (arith, lt, p.within)))) own)

-- the first leaves, and the cursor stands behind it
passed_tail : (s u : Slab LineNode) (k n i z key a : ℕ) → ((j : ℕ) → j ≢ i → get u j ≡ get s j) → IsChain s k (suc n) i z → key ≢ i → a < suc n → key ≡ walk s a i → any_sought Reader (places s (suc a) i) ≡ false → IsPassed u n (next_of (get s i)) key
passed_tail s u k n i z key zero others c ne lt is clear = absurd (ne is)
passed_tail s u k zero i z key (suc a) others c ne lt is clear = let no : ⊥ = omega (arith, lt) in absurd no
passed_tail s u k (suc n) i z key (suc a) others c ne lt is clear =
    let apart : (j d : ℕ) → d ≤ n → IsTail s k d j z → j ≢ i = λ j d le r e. (let more : d ≡ suc n = tail_once s k d (suc n) i z (subst (λ x. IsTail s k d x z) e r) c.1 in let no : ⊥ = omega (arith, more, le) in no) in
    passed_kept s u k n (next_of (get s i)) z key (record { same = λ j d le on r. others j (apart j d le r) }) c.1.1 c.1.2
    (record { steps = a; within = omega (arith, lt); is = is; clear = (both_false _ _ clear).1 })

pub marked_shorter : (s u : Slab LineNode) (k n i z : ℕ) (node : LineNode) (cursor : Option ℕ) → get s i ≡ Some node → ((j : ℕ) → j ≢ i → get u j ≡ get s j) → IsChain s k (suc n) i z → HasPassed s (suc n) i cursor → HasPassed u n node.next (moved_cursor cursor i None)
marked_shorter s u k n i z node None was others c h = tt
marked_shorter s u k n i z node (Some key) was others c p =
    elim (cases_eq key i) [
      | inl q ↦ subst (λ b. HasPassed u n node.next (cond b None (Some key))) (sym (eq-eqb key i q)) tt
      | inr ne ↦ subst (λ b. HasPassed u n node.next (cond b None (Some key))) (sym (ne_eqb key i ne)) (subst (λ x. IsPassed u n x key) (ap next_of was) (passed_tail s u k n i z key p.steps others c ne p.within p.is p.clear))
    ]

-- the first stays as it is where node j leaves from behind another
first_stays : (s u : Slab LineNode) (k w m i z p j : ℕ) (before gone : LineNode) → Unlinks s u p j before gone → p ≡ walk s (suc w) i → suc w ≤ suc m → IsTail s k (suc (suc m)) i z → get u i ≡ get s i
first_stays s u k w m i z p j before gone h e le t =
    let next : walk s (suc (suc w)) i ≡ j = walk_next s (suc w) i ∙ ap (λ x. next_of (get s x)) (sym e) ∙ ap next_of h.was ∙ h.follows in
    let not_p : i ≢ p = λ q. (let v = walk_once s k 0 (suc w) (suc (suc m)) i z (omega arith) (omega (arith, le)) t (q ∙ e) in let no : ⊥ = omega (arith, v) in no) in
    let not_j : i ≢ j = λ q. (let v = walk_once s k 0 (suc (suc w)) (suc (suc m)) i z (omega arith) (omega (arith, le)) t (q ∙ sym next) in let no : ⊥ = omega (arith, v) in no) in
    h.others i not_p not_j

-- node j leaves from behind node p, and the cursor stands at another
passed_without : (s u : Slab LineNode) (k a w m i z p j key : ℕ) (before gone : LineNode) → Unlinks s u p j before gone → p ≡ walk s w i → w ≤ m → IsOn k (get s i) → IsTail s k (suc m) i z → a < suc (suc m) → key ≡ walk s a i → key ≢ j → any_sought Reader (places s (suc a) i) ≡ false → IsPassed u (suc m) i key
passed_without s u k zero zero m i z p j key before gone h e le on t lt is ne clear =
    let same : place_of (get u i) ≡ place_of (get s i) = ap (λ x. place_of (get u x)) (sym e) ∙ ap place_of h.linked ∙ ap place_of (sym h.was) ∙ ap (λ x. place_of (get s x)) e in
    subst (IsPassed u (suc m) i) (sym is) (passed_here u m i (ap (is_sought Reader) same ∙ (both_false _ _ clear).0))
passed_without s u k (suc zero) zero m i z p j key before gone h e le on t lt is ne clear =
    absurd (ne (is ∙ ap (λ x. next_of (get s x)) (sym e) ∙ ap next_of h.was ∙ h.follows))
passed_without s u k (suc (suc a)) zero zero i z p j key before gone h e le on t lt is ne clear = let no : ⊥ = omega (arith, lt) in absurd no
passed_without s u k (suc (suc a)) zero (suc m) i z p j key before gone h e le on t lt is ne clear =
    let same : place_of (get u i) ≡ place_of (get s i) = ap (λ x. place_of (get u x)) (sym e) ∙ ap place_of h.linked ∙ ap place_of (sym h.was) ∙ ap (λ x. place_of (get s x)) e in
    let linked : next_of (get u i) ≡ gone.next = ap (λ x. next_of (get u x)) (sym e) ∙ ap next_of h.linked in
    let next : next_of (get s i) ≡ j = ap (λ x. next_of (get s x)) (sym e) ∙ ap next_of h.was ∙ h.follows in
    let far : next_of (get s (next_of (get s i))) ≡ gone.next = ap (λ x. next_of (get s x)) next ∙ ap next_of h.left in
    let not_p : (x d : ℕ) → d ≤ m → IsTail s k d x z → x ≢ p = λ x d le2 r q. (let v = tail_once s k d (suc (suc m)) i z (subst (λ y. IsTail s k d y z) (q ∙ e) r) t in let no : ⊥ = omega (arith, v, le2) in no) in
    let not_j : (x d : ℕ) → d ≤ m → IsTail s k d x z → x ≢ j = λ x d le2 r q. (let v = tail_once s k d (suc m) (next_of (get s i)) z (subst (λ y. IsTail s k d y z) (q ∙ sym next) r) t.2 in let no : ⊥ = omega (arith, v, le2) in no) in
    let keeps : Keeps s u k m z = record { same = λ x d le2 there r. h.others x (not_p x d le2 r) (not_j x d le2 r) } in
    let later : (is_sought Reader (place_of (get s i)) ≡ false) × (any_sought Reader (places s (suc (suc a)) (next_of (get s i))) ≡ false) = both_false _ _ clear in
    let was : IsPassed s (suc m) (next_of (get s (next_of (get s i)))) key = record { steps = a; within = omega (arith, lt); is = is; clear = (both_false _ _ later.1).1 } in
    let now : IsPassed u (suc m) (next_of (get s (next_of (get s i)))) key = passed_kept s u k m _ z key keeps t.2.1 t.2.2 was in
    passed_more u (suc m) i key (ap (is_sought Reader) same ∙ later.0) (subst (λ x. IsPassed u (suc m) x key) (far ∙ sym linked) now)
passed_without s u k a (suc w) zero i z p j key before gone h e le on t lt is ne clear = let no : ⊥ = omega arith in absurd no
passed_without s u k zero (suc w) (suc m) i z p j key before gone h e le on t lt is ne clear =
    let same : get u i ≡ get s i = first_stays s u k w m i z p j before gone h e le t in
    subst (IsPassed u (suc (suc m)) i) (sym is) (passed_here u (suc m) i (ap (λ o. is_sought Reader (place_of o)) same ∙ (both_false _ _ clear).0))
passed_without s u k (suc a) (suc w) (suc m) i z p j key before gone h e le on t lt is ne clear =
    let same : get u i ≡ get s i = first_stays s u k w m i z p j before gone h e le t in
    let rest : IsPassed u (suc m) (next_of (get s i)) key = passed_without s u k a w m (next_of (get s i)) z p j key before gone h e (omega (arith, le)) t.1 t.2 (omega (arith, lt)) is ne (both_false _ _ clear).1 in
    passed_more u (suc m) i key (ap (λ o. is_sought Reader (place_of o)) same ∙ (both_false _ _ clear).0) (subst (λ o. IsPassed u (suc m) (next_of o) key) (sym same) rest)

-- fewer places
passed_prefix : (s : Slab LineNode) (n i : ℕ) → any_sought Reader (places s (suc n) i) ≡ false → any_sought Reader (places s n i) ≡ false
passed_prefix s zero i h = refl
passed_prefix s (suc n) i h =
    let r = both_false _ _ h in
    ap (λ b. cond b true (any_sought Reader (places s n (next_of (get s i))))) r.0 ∙ passed_prefix s n (next_of (get s i)) r.1

-- ---- all lines
-- a cursor is kept where each node that was passed still is
marked_by : (s u : Slab LineNode) (n m i j : ℕ) (cursor : Option ℕ) → ((key : ℕ) → IsPassed s n i key → IsPassed u m j key) → HasPassed s n i cursor → HasPassed u m j cursor
marked_by s u n m i j None f h = tt
marked_by s u n m i j (Some key) f h = f key h

-- all nodes are as they were
pub marked_agree : (es : List Ends) (s u : Slab LineNode) → ((j : ℕ) → get u j ≡ get s j) → IsSound es s → AreMarked es s → AreMarked es u
marked_agree es s u same h b k d kt = marked_by s u _ _ _ _ (get_or es k d).cursor (λ key. passed_other s u k _ _ _ key (λ j on. same j) (h.chains k d kt)) (b k d kt)

-- one line is written
marked_write : (es : List Ends) (s u : Slab LineNode) (m : ℕ) (e : Ends) → IsSound es s → AreMarked es s → m < length es → ((j k : ℕ) → k ≢ m → IsOn k (get s j) → get u j ≡ get s j) → IsMarked u e → AreMarked (set es m e) u
marked_write es s u m e h b lt others here k d kt =
    elim (cases_eq k m) [
      | inl same ↦ subst (λ x. IsMarked u (get_or (set es m e) x d)) (sym same) (subst (IsMarked u) (sym (get_or-set_same es m e d lt)) here)
      | inr differs ↦ (let within : k < length es = omega (arith, kt, length-set es m e) in
          subst (IsMarked u) (sym (get_or-set_other es m k e d differs)) (marked_by s u _ _ _ _ (get_or es k d).cursor (λ key. passed_other s u k _ _ _ key (λ j. others j k differs) (h.chains k d within)) (b k d within)))
    ]

-- ---- the calls
-- the first place of a line
pub joins_first_marked : (es : List Ends) (s u : Slab LineNode) (m key : ℕ) (new : LineNode) → IsSound es s → AreMarked es s → m < length es → get s key ≡ None → Updates s u key (Some new) → AreMarked (set es m (record { first = key; last = key; len = 1; cursor = None })) u
joins_first_marked es s u m key new h b lt vacant updates =
    marked_write es s u m (record { first = key; last = key; len = 1; cursor = None }) h b lt (λ j k differs there. updates.others j (λ q. vacant_is_not_on k _ (ap (get s) q ∙ vacant) there)) tt

module _ (es : List Ends) (s : Slab LineNode) (m : ℕ) (e : Ends) (h : IsSound es s) (b : AreMarked es s) (lt : m < length es) (is : e ≡ get_or es m e) where
  pub marked_of : IsMarked s e
  marked_of = subst (IsMarked s) (sym is) (b m e lt)

  marked_long : (n : ℕ) → e.len ≡ suc n → HasPassed s (suc n) e.first e.cursor
  marked_long n q = subst (λ x. HasPassed s x e.first e.cursor) q marked_of

  pub joins_later_marked : (s1 u : Slab LineNode) (n key : ℕ) (new : LineNode) → e.len ≡ suc n → get s key ≡ None → Updates s s1 key (Some new) → ((x : LineNode) → get s1 e.last ≡ Some x → Updates s1 u e.last (Some (record x { next = key }))) → new.line ≡ m
      → AreMarked (set es m (record { first = e.first; last = key; len = e.len + 1; cursor = e.cursor })) u
  joins_later_marked s1 u n key new q vacant first linked on =
      let c = long_chain_of es s m e h lt is n q in
      let last_on = last_of es s m e h lt is n q in
      let last = last_after es s m e h lt is n key s1 new q vacant first in
      let second = linked last.0 last.2 in
      let apart : e.last ≢ key = λ z. vacant_is_not_on m _ (ap (get s) z ∙ vacant) last_on in
      let extends : Extends s u m e.last key last.0 new = record {
        was = last.1;
        linked = second.changed;
        vacant = vacant;
        added = second.others key (λ z. apart (sym z)) ∙ first.changed;
        on = on;
        others = λ j x y. second.others j x ∙ first.others j y;
      } in
      let here : HasPassed u (suc (suc n)) e.first e.cursor = marked_by s u _ _ _ _ e.cursor (λ at. passed_longer s u m n e.first e.last key at last.0 new extends c.0 c.1) (marked_long n q) in
      let more : suc (suc n) ≡ e.len + 1 = omega (arith, q) in
      marked_write es s u m (record { first = e.first; last = key; len = e.len + 1; cursor = e.cursor }) h b lt
      (λ j k differs there. extends.others j (λ z. differs (on_one k m _ (subst (λ x. IsOn k (get s x)) z there) last_on)) (λ z. vacant_is_not_on k _ (ap (get s) z ∙ vacant) there))
      (subst (λ x. HasPassed u x e.first e.cursor) more here)

  pub serves_marked : (u : Slab LineNode) (n : ℕ) (node : LineNode) → e.len ≡ suc n → get s e.first ≡ Some node → Updates s u e.first None → AreMarked (set es m (record { first = node.next; last = e.last; len = n; cursor = moved_cursor e.cursor e.first None })) u
  serves_marked u n node q was updates =
      let c = long_chain_of es s m e h lt is n q in
      marked_write es s u m (record { first = node.next; last = e.last; len = n; cursor = moved_cursor e.cursor e.first None }) h b lt
      (λ j k differs there. updates.others j (λ z. differs (on_one k m _ (subst (λ x. IsOn k (get s x)) z there) c.0)))
      (marked_shorter s u m n e.first e.last node e.cursor was updates.others c (marked_long n q))

  -- the cursor of a line from whose middle a node left
  cursor_without : (u : Slab LineNode) (sought : Sought) (p : ℕ) (gone : LineNode) (w : StandsBefore s e sought p) → Unlinked s u p gone → (count : ℕ) → e.len ≡ suc (suc count) → (o : Option ℕ) → HasPassed s (suc (suc count)) e.first o → HasPassed u (suc count) e.first (cursor_after_leaving s sought p o)
  cursor_without u sought p gone w left count q o has = by sought w.clear
    where
      c : IsChain s m (suc (suc count)) e.first e.last
      c = long_chain_of es s m e h lt is (suc count) q

      within : w.steps ≤ count
      within = omega (arith, w.within, q)

      next : next_of (get s p) ≡ walk s (suc w.steps) e.first
      next = ap (λ x. next_of (get s x)) w.is ∙ sym (walk_next s w.steps e.first)

      apart : p ≢ next_of (get s p)
      apart z = let v = walk_once s m w.steps (suc w.steps) (suc count) e.first e.last (omega (arith, within)) (omega (arith, within)) c.1 (sym w.is ∙ z ∙ next) in let no : ⊥ = omega (arith, v) in no

      before_passed : any_sought Reader (places s (suc w.steps) e.first) ≡ false → IsPassed u (suc count) e.first p
      before_passed clear = passed_without s u m w.steps w.steps count e.first e.last p (next_of (get s p)) p left.before gone left.unlinks w.is within c.0 c.1 (omega (arith, within)) w.is apart clear

      moves : (x : Option ℕ) → HasPassed s (suc (suc count)) e.first x → HasPassed u (suc count) e.first (moved_cursor x (next_of (get s p)) (Some p))
      moves None r = tt
      moves (Some key) r =
          elim (cases_eq key (next_of (get s p))) [
            | inl z ↦ (let at : r.steps ≡ suc w.steps = walk_once s m r.steps (suc w.steps) (suc count) e.first e.last (omega (arith, r.within)) (omega (arith, within)) c.1 (sym r.is ∙ z ∙ next) in
                subst (λ b. HasPassed u (suc count) e.first (cond b (Some p) (Some key))) (sym (eq-eqb key (next_of (get s p)) z)) (before_passed (passed_prefix s (suc w.steps) e.first (subst (λ x. any_sought Reader (places s (suc x) e.first) ≡ false) at r.clear))))
            | inr ne ↦ subst (λ b. HasPassed u (suc count) e.first (cond b (Some p) (Some key))) (sym (ne_eqb key (next_of (get s p)) ne)) (passed_without s u m r.steps w.steps count e.first e.last p (next_of (get s p)) key left.before gone left.unlinks w.is within c.0 c.1 r.within r.is ne r.clear)
          ]

      by : (k : Sought) → any_sought k (places s (suc w.steps) e.first) ≡ false → HasPassed u (suc count) e.first (cursor_after_leaving s k p o)
      by (Thread t) clear = moves o has
      by Reader clear = before_passed clear

  pub leaves_marked : (u : Slab LineNode) (sought : Sought) (p : ℕ) (gone : LineNode) (w : StandsBefore s e sought p) → Unlinked s u p gone → AreMarked (set es m (ends_after_leaving s p (cursor_after_leaving s sought p e.cursor) e)) u
  leaves_marked u sought p gone w left =
      let count = e.len - 2 in
      let q : e.len ≡ suc (suc count) = omega (arith, w.within) in
      let less : suc count ≡ e.len - 1 = omega (arith, w.within) in
      let c = long_chain_of es s m e h lt is (suc count) q in
      let step = left.unlinks in
      let cursor = cursor_after_leaving s sought p e.cursor in
      let on_p : IsOn m (get s p) = subst (λ x. IsOn m (get s x)) (sym w.is) (walk_on s m w.steps (suc count) e.first e.last (omega (arith, w.within)) c.0 c.1) in
      let next : walk s (suc w.steps) e.first ≡ next_of (get s p) = walk_next s w.steps e.first ∙ ap (λ x. next_of (get s x)) (sym w.is) in
      let on_j : IsOn m (get s (next_of (get s p))) = subst (λ x. IsOn m (get s x)) next (walk_on s m (suc w.steps) (suc count) e.first e.last (omega (arith, w.within)) c.0 c.1) in
      let away : (x y k : ℕ) → k ≢ m → IsOn m (get s y) → IsOn k (get s x) → x ≢ y = λ x y k differs on there z. differs (on_one k m _ (subst (λ a. IsOn k (get s a)) z there) on) in
      let here : HasPassed u (suc count) e.first cursor = cursor_without u sought p gone w left count q e.cursor (marked_long (suc count) q) in
      marked_write es s u m (ends_after_leaving s p cursor e) h b lt
      (λ j k differs there. step.others j (away j p k differs on_p there) (away j (next_of (get s p)) k differs on_j there))
      (subst (λ x. HasPassed u x e.first cursor) less here)

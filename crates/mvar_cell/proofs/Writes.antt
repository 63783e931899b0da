-- What one write of a line does to all lines.
use Rattle.std.proofs.Common.{◌≡◌, ◌≢◌, ℕ, zero, suc, ◌<◌, ◌≤◌, ◌+◌, ◌-◌, List, [], ◌∷◌, ◌++◌, length, map, get_or, set, Option, Some, None, refl, ap, sym, subst, ◌∙◌, arith, inl, inr, true, false}
use Rattle.std.proofs.lemmas.Bool.{cases_eq}
use Rattle.std.proofs.lemmas.List.{get_or-set_same, get_or-set_other, length-set, length-map, get_or-map}
use Rattle.std.proofs.lemmas.List.Sums.{sum_by-set}
use Rattle.hs_base.specs.declared.value.Value.{Value}
use Rattle.rules_waiting.specs.OneCell.{Place}
use Rattle.slab.specs.Slab.{Slab, get, slab_len, Updates}
use Rattle.mvar_cell.specs.declared.lines.Want.{Want}
use Rattle.mvar_cell.specs.declared.lines.Sought.{Sought}
use Rattle.mvar_cell.specs.declared.lines.LineNode.{LineNode}
use Rattle.mvar_cell.specs.declared.lines.Ends.{Ends}
use Rattle.mvar_cell.specs.Lined.{Lined, line_of}
use Rattle.mvar_cell.specs.Nodes.{lined, place, place_of, next_of, places, line_at, IsOn, IsTail, IsChain, IsLine, IsSound, is_sought, any_sought, last_after_leaving, ends_after_leaving, behind, StandsBefore, IsFollowed, Unlinked, LeavesFirst}
use Rattle.mvar_cell.proofs.Lists.{map-set_agree}
use Rattle.mvar_cell.proofs.Chains.{vacant_is_not_on, on_one, last_is_on, on_is_there, chain_same, chain_shorter, tail_longer, Extends, tail_without, walk_on, walk_far, tail_once, found_later}

pub record After (es : List Ends) (s u : Slab LineNode) (m : ℕ) (e : Ends) : Type 0 where
  pub sound : IsSound (set es m e) u
  pub lines : map (line_at u) (set es m e) ≡ set (map (line_at s) es) m (line_at u e)

-- nodes of other lines are as they were
abbrev pub OthersStay : Slab LineNode → Slab LineNode → ℕ → Type 0
OthersStay s u m = (j k : ℕ) → k ≢ m → IsOn k (get s j) → get u j ≡ get s j

pub after_write : (es : List Ends) (s u : Slab LineNode) (m : ℕ) (d e : Ends) → IsSound es s → m < length es → OthersStay s u m → IsLine u m e → e.len + slab_len s ≤ (get_or es m d).len + slab_len u → After es s u m e
after_write es s u m d e h lt others line fits =
    let len : Ends → ℕ = λ x. x.len in
    let counted = sum_by-set len es m e d lt in
    record {
      sound = record {
        chains = λ k b kt.
            elim (cases_eq k m) [
              | inl same ↦ subst (λ x. IsLine u x (get_or (set es m e) x b)) (sym same) (subst (IsLine u m) (sym (get_or-set_same es m e b lt)) line)
              | inr differs ↦ subst (IsLine u k) (sym (get_or-set_other es m k e b differs)) (chain_same s u k _ _ _ (λ j. others j k differs) (h.chains k b (omega (arith, kt, length-set es m e)))).chain
            ];
        fits = omega (arith, counted, h.fits, fits);
      };
      lines = map-set_agree (line_at u) (line_at s) es m e (λ k b kt differs. (chain_same s u k _ _ _ (λ j. others j k differs) (h.chains k b kt)).places);
    }

-- a line is no longer than there are nodes
pub len_within : (es : List Ends) (s : Slab LineNode) (m : ℕ) (d : Ends) → IsSound es s → m < length es → (get_or es m d).len ≤ slab_len s
len_within es s m d h lt =
    let len : Ends → ℕ = λ x. x.len in
    omega (arith, h.fits, sum_by-set len es m (record { first = 0; last = 0; len = 0; cursor = None }) d lt)

-- where the place of this line is known, the line of all lines is
pub line_is : (es : List Ends) (s : Slab LineNode) (m : ℕ) (e : Ends) → m < length es → e ≡ get_or es m e → get_or (map (line_at s) es) m [] ≡ line_at s e
line_is es s m e lt is = get_or-map (line_at s) es m e [] lt ∙ ap (line_at s) (sym is)

places_length : (s : Slab LineNode) (n i : ℕ) → length (places s n i) ≡ n
places_length s zero i = refl
places_length s (suc n) i = ap suc (places_length s n (next_of (get s i)))

-- a line is as long as its ends say
pub line_length : (es : List Ends) (s : Slab LineNode) (capacity more m : ℕ) (e : Ends) (now : Lined) → lined es s capacity more ≡ now → m < length es → e ≡ get_or es m e → length (line_of now m) ≡ e.len
line_length es s capacity more m e now view lt is =
    ap (λ (x : Lined). length (line_of x m)) (sym view) ∙ ap (λ (ps : List (Place Value)). length ps) (line_is es s m e lt is) ∙ places_length s e.len e.first

-- the first place of a line
pub first_joins : (es : List Ends) (s u : Slab LineNode) (m : ℕ) (e : Ends) (key : ℕ) (new : LineNode) → IsSound es s → m < length es → e ≡ get_or es m e → e.len ≡ 0 → get s key ≡ None → Updates s u key (Some new) → new.line ≡ m → slab_len u ≡ slab_len s + 1
    → After es s u m (record { first = key; last = key; len = 1; cursor = None })
first_joins es s u m e key new h lt is empty vacant updates on counted =
    let none : (get_or es m e).len ≡ 0 = ap (λ (x : Ends). x.len) (sym is) ∙ empty in
    after_write es s u m e _ h lt
    (λ j k differs there. updates.others j (λ q. vacant_is_not_on k _ (ap (get s) q ∙ vacant) there))
    (subst (IsOn m) (sym updates.changed) on, refl)
    (omega (arith, counted, none))

pub record Joins (es : List Ends) (s u : Slab LineNode) (m : ℕ) (e : Ends) (key : ℕ) (new : LineNode) : Type 0 where
  pub after : After es s u m (record { first = e.first; last = key; len = e.len + 1; cursor = e.cursor })
  pub line : places u (e.len + 1) e.first ≡ line_at s e ++ place new.thread new.want ∷ []

module _ (es : List Ends) (s : Slab LineNode) (m : ℕ) (e : Ends) (h : IsSound es s) (lt : m < length es) (is : e ≡ get_or es m e) where
  pub chain_of : IsChain s m e.len e.first e.last
  chain_of = subst (λ (x : Ends). IsChain s m x.len x.first x.last) (sym is) (h.chains m e lt)

  pub long_chain_of : (n : ℕ) → e.len ≡ suc n → IsChain s m (suc n) e.first e.last
  long_chain_of n q = subst (λ x. IsChain s m x e.first e.last) q chain_of

  -- the last place of a line with places stands there
  pub last_of : (n : ℕ) → e.len ≡ suc n → IsOn m (get s e.last)
  last_of n q = let c = long_chain_of n q in last_is_on s m n e.first e.last c.0 c.1

  -- the nodes of a longer pool have the last place too
  pub last_after : (n key : ℕ) (u : Slab LineNode) (new : LineNode) → e.len ≡ suc n → get s key ≡ None → Updates s u key (Some new) → (last : LineNode) × (get s e.last ≡ Some last) × (get u e.last ≡ Some last)
  last_after n key u new q vacant updates =
      let on = last_of n q in
      let there = on_is_there m _ on in
      (there.0, there.1, updates.others e.last (λ z. vacant_is_not_on m _ (ap (get s) z ∙ vacant) on) ∙ there.1)

  pub later_joins : (s1 u : Slab LineNode) (n key : ℕ) (new : LineNode) → e.len ≡ suc n → get s key ≡ None → Updates s s1 key (Some new) → ((x : LineNode) → get s1 e.last ≡ Some x → Updates s1 u e.last (Some (record x { next = key })))
      → new.line ≡ m → slab_len u ≡ slab_len s + 1 → Joins es s u m e key new
  later_joins s1 u n key new q vacant first linked on counted =
      let c = long_chain_of n q in
      let last_on = last_of n q in
      let last = last_after n key s1 new q vacant first in
      let second = linked last.0 last.2 in
      let apart : e.last ≢ key = λ z. vacant_is_not_on m _ (ap (get s) z ∙ vacant) last_on in
      let extends : Extends s u m e.last key last.0 new = record {
        was = last.1;
        linked = second.changed;
        vacant = vacant;
        added = second.others key (λ z. apart (sym z)) ∙ first.changed;
        on = on;
        others = λ j a b. second.others j a ∙ first.others j b;
      } in
      let long = tail_longer s u m n e.first e.last key last.0 new extends c.0 c.1 in
      let more : suc (suc n) ≡ e.len + 1 = omega (arith, q) in
      let line : IsChain u m (e.len + 1) e.first key = subst (λ x. IsChain u m x e.first key) more (long.on, long.tail) in
      let size : e.len ≡ (get_or es m e).len = ap (λ (x : Ends). x.len) is in
      record {
        after = after_write es s u m e _ h lt
            (λ j k differs there. second.others j (λ z. differs (on_one k m _ (subst (λ x. IsOn k (get s x)) z there) last_on)) ∙ first.others j (λ z. vacant_is_not_on k _ (ap (get s) z ∙ vacant) there))
            line (omega (arith, counted, size));
        line = ap (λ x. places u x e.first) (sym more) ∙ long.places ∙ ap (λ x. places s x e.first ++ place new.thread new.want ∷ []) (sym q);
      }

  -- the first place of a line leaves it
  pub first_leaves : (u : Slab LineNode) (cursor : Option ℕ) (n : ℕ) (node : LineNode) → e.len ≡ suc n → get s e.first ≡ Some node → Updates s u e.first None → slab_len u + 1 ≡ slab_len s
      → After es s u m (record { first = node.next; last = e.last; len = n; cursor = cursor }) × (line_at s e ≡ place node.thread node.want ∷ places u n node.next)
  first_leaves u cursor n node q was updates counted =
      let c = long_chain_of n q in
      let short = chain_shorter s u m n e.first e.last node was updates.others c in
      let size : e.len ≡ (get_or es m e).len = ap (λ (x : Ends). x.len) is in (
        after_write es s u m e _ h lt
            (λ j k differs there. updates.others j (λ z. differs (on_one k m _ (subst (λ x. IsOn k (get s x)) z there) c.0)))
            short.chain (omega (arith, counted, size, q)),
        ap (λ x. places s x e.first) q ∙ short.places,
      )

-- the lines of a pool are those that callers see
pub within_lines : (es : List Ends) (s : Slab LineNode) (capacity more m : ℕ) (now : Lined) → lined es s capacity more ≡ now → m < length now.lines → m < length es
within_lines es s capacity more m now view lt =
    let x : m < length (map (line_at s) es) = subst (λ (n : Lined). m < length n.lines) (sym view) lt in
    omega (arith, length-map es (line_at s), x)

-- the written line, as callers see it
pub written_line : (es : List Ends) (u : Slab LineNode) (m : ℕ) (e : Ends) → m < length es → get_or (map (line_at u) (set es m e)) m [] ≡ line_at u e
written_line es u m e lt =
    get_or-map (line_at u) (set es m e) m e [] (omega (arith, length-set es m e, lt)) ∙ ap (line_at u) (get_or-set_same es m e e lt)

pub After-lines : (es : List Ends) (s u : Slab LineNode) (m : ℕ) (e : Ends) → m < length es → After es s u m e → map (line_at u) (set es m e) ≡ set (map (line_at s) es) m (get_or (map (line_at u) (set es m e)) m [])
After-lines es s u m e lt a = a.lines ∙ ap (set (map (line_at s) es) m) (sym (written_line es u m e lt))

pub joined_lines : (es : List Ends) (s u : Slab LineNode) (m : ℕ) (old e : Ends) (p : Place Value) → m < length es → old ≡ get_or es m old → After es s u m e → line_at u e ≡ line_at s old ++ p ∷ []
    → map (line_at u) (set es m e) ≡ set (map (line_at s) es) m (get_or (map (line_at s) es) m [] ++ p ∷ [])
joined_lines es s u m old e p lt is a line =
    a.lines ∙ ap (set (map (line_at s) es) m) (line ∙ ap (λ ps. ps ++ p ∷ []) (sym (line_is es s m old lt is)))

pub served_line : (es : List Ends) (s u : Slab LineNode) (m : ℕ) (old e : Ends) (p : Place Value) → m < length es → old ≡ get_or es m old → line_at s old ≡ p ∷ line_at u e
    → get_or (map (line_at s) es) m [] ≡ p ∷ get_or (map (line_at u) (set es m e)) m []
served_line es s u m old e p lt is line = line_is es s m old lt is ∙ line ∙ ap (λ ps. p ∷ ps) (sym (written_line es u m e lt))

module _ (es : List Ends) (s : Slab LineNode) (m : ℕ) (e : Ends) (h : IsSound es s) (lt : m < length es) (is : e ≡ get_or es m e) where
  -- a node that stands before another of its line
  record Middle (p : ℕ) : Type 0 where
    count : ℕ
    len : e.len ≡ suc (suc count)
    before_on : IsOn m (get s p)
    gone_on : IsOn m (get s (next_of (get s p)))
    apart : p ≢ next_of (get s p)

  middle_of : (sought : Sought) (p : ℕ) → StandsBefore s e sought p → Middle p
  middle_of sought p w =
      let count = e.len - 2 in
      let q : e.len ≡ suc (suc count) = omega (arith, w.within) in
      let c = long_chain_of es s m e h lt is (suc count) q in
      let far = walk_far s m w.steps count e.first e.last (omega (arith, w.within, q)) c.1 in
      let at_p : IsTail s m (suc far.0) p e.last = subst (λ x. IsTail s m (suc far.0) x e.last) (sym w.is) far.2 in
      record {
        count = count;
        len = q;
        before_on = subst (λ x. IsOn m (get s x)) (sym w.is) (walk_on s m w.steps (suc count) e.first e.last (omega (arith, w.within, q)) c.0 c.1);
        gone_on = at_p.1;
        apart = λ z. (let n = tail_once s m far.0 (suc far.0) p e.last (subst (λ x. IsTail s m far.0 x e.last) (sym z) at_p.2) at_p in let no : ⊥ = omega (arith, n) in no);
      }

  pub followed : (sought : Sought) (p : ℕ) → StandsBefore s e sought p → IsFollowed s e.len p
  followed sought p w =
      let mid = middle_of sought p w in
      record { line = m; long = omega (arith, w.within); before_on = mid.before_on; gone_on = mid.gone_on; apart = mid.apart }

  pub record Leaves (u : Slab LineNode) (cursor : Option ℕ) (sought : Sought) (p : ℕ) (gone : LineNode) : Type 0 where
    pub after : After es s u m (ends_after_leaving s p cursor e)
    pub front : List (Place Value)
    pub back : List (Place Value)
    pub clear : any_sought sought front ≡ false
    pub found : is_sought sought (place gone.thread gone.want) ≡ true
    pub was : line_at s e ≡ front ++ place gone.thread gone.want ∷ back
    pub now : places u (e.len - 1) e.first ≡ front ++ back

  pub middle_leaves : (u : Slab LineNode) (cursor : Option ℕ) (sought : Sought) (p : ℕ) (gone : LineNode) → StandsBefore s e sought p → Unlinked s u p gone → slab_len u + 1 ≡ slab_len s → Leaves u cursor sought p gone
  middle_leaves u cursor sought p gone w unlinked counted =
      let j = next_of (get s p) in
      let mid = middle_of sought p w in
      let c = long_chain_of es s m e h lt is (suc mid.count) mid.len in
      let step = unlinked.unlinks in
      let r = tail_without s u m w.steps mid.count e.first e.last p j unlinked.before gone step w.is (omega (arith, w.within, mid.len)) c.0 c.1 in
      let less : suc mid.count ≡ e.len - 1 = omega (arith, mid.len) in
      let size : e.len ≡ (get_or es m e).len = ap (λ (x : Ends). x.len) is in
      let on_m : (x k : ℕ) → k ≢ m → IsOn k (get s x) → IsOn m (get s x) → ⊥ = λ x k differs there here. differs (on_one k m (get s x) there here) in
      record {
        after = after_write es s u m e _ h lt
            (λ x k differs there. step.others x
            (λ z. on_m x k differs there (subst (λ y. IsOn m (get s y)) (sym z) mid.before_on))
            (λ z. on_m x k differs there (subst (λ y. IsOn m (get s y)) (sym z) mid.gone_on)))
            (subst (λ n. IsChain u m n e.first (last_after_leaving p j e.last)) less (r.on, r.tail)) (omega (arith, counted, size, mid.len));
        front = places s (suc w.steps) e.first;
        back = r.back;
        clear = w.clear;
        found = subst (λ o. is_sought sought (place_of o) ≡ true) step.left w.found;
        was = ap (λ n. places s n e.first) mid.len ∙ r.was;
        now = ap (λ n. places u n e.first) (sym less) ∙ r.now;
      }

-- the same, as callers see it
pub leaves_first : (es : List Ends) (s u : Slab LineNode) (capacity more m p : ℕ) (cursor : Option ℕ) (old : Ends) (sought : Sought) (gone : LineNode) (now new : Lined) (h : IsSound es s) (lt : m < length es) (is : old ≡ get_or es m old) → lined es s capacity more ≡ now → new.lines ≡ map (line_at u) (set es m (ends_after_leaving s p cursor old)) → Leaves es s m old h lt is u cursor sought p gone
    → LeavesFirst sought m gone.thread gone.want now new
leaves_first es s u capacity more m p cursor old sought gone now new h lt is view seen l =
    record {
      front = l.front;
      back = l.back;
      clear = l.clear;
      found = l.found;
      was = ap (λ (x : Lined). line_of x m) (sym view) ∙ line_is es s m old lt is ∙ l.was;
      now = seen ∙ l.after.lines ∙ ap (set (map (line_at s) es) m) l.now ∙ ap (λ (x : Lined). set x.lines m (l.front ++ l.back)) view;
    }

-- ---- the first place
head_of : Place Value → List (Place Value) → Place Value
head_of d [] = d
head_of d (p ∷ ps) = p

same_head : (p q : Place Value) (ps qs : List (Place Value)) → p ∷ ps ≡ q ∷ qs → p ≡ q
unfolding head_of
same_head p q ps qs h = ap (head_of p) h

sought_some : (sought : Sought) (ps : List (Place Value)) → any_sought sought ps ≡ true → ps ≡ [] → ⊥
sought_some sought [] h e = let no : ⊥ = cc in no
sought_some sought (p ∷ ps) h e = let no : ⊥ = cc in no

module _ (es : List Ends) (s : Slab LineNode) (capacity more m : ℕ) (e : Ends) (now : Lined) (h : IsSound es s) (lt : m < length es) (is : e ≡ get_or es m e) (view : lined es s capacity more ≡ now) where
  pub line_seen : line_of now m ≡ line_at s e
  line_seen = ap (λ (x : Lined). line_of x m) (sym view) ∙ line_is es s m e lt is

  pub sought_long : (sought : Sought) → any_sought sought (line_of now m) ≡ true → e.len ≡ suc (e.len - 1)
  sought_long sought there =
      let some : e.len ≢ 0 = λ z. sought_some sought (line_of now m) there (line_seen ∙ ap (λ n. places s n e.first) z) in
      omega (arith, some)

  pub first_on : (sought : Sought) → any_sought sought (line_of now m) ≡ true → IsOn m (get s e.first)
  first_on sought there = (long_chain_of es s m e h lt is (e.len - 1) (sought_long sought there)).0

  pub sought_behind : (sought : Sought) → any_sought sought (line_of now m) ≡ true → is_sought sought (place_of (get s e.first)) ≡ false → any_sought sought (behind s e) ≡ true
  sought_behind sought there other =
      let q = sought_long sought there in
      let line : line_of now m ≡ places s (suc (e.len - 1)) e.first = line_seen ∙ ap (λ n. places s n e.first) q in
      found_later _ _ (ap (any_sought sought) (sym line) ∙ there) other

  -- the place that is served is that of the first node
  pub served_first : (sought : Sought) (node : LineNode) (t : ℕ) (want : Want) (rest : List (Place Value)) → any_sought sought (line_of now m) ≡ true → get s e.first ≡ Some node → is_sought sought (place_of (Some node)) ≡ true → line_of now m ≡ place t want ∷ rest → is_sought sought (place t want) ≡ true
  served_first sought node t want rest there at found served =
      let q = sought_long sought there in
      let line : line_of now m ≡ places s (suc (e.len - 1)) e.first = line_seen ∙ ap (λ n. places s n e.first) q in
      let p : place t want ≡ place_of (get s e.first) = same_head _ _ _ _ (sym served ∙ line) in
      ap (is_sought sought) (p ∙ ap place_of at) ∙ found

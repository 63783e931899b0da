-- What a step of a walk keeps.
use Rattle.std.proofs.Common.{◌≡◌, ◌≢◌, ◌⊎◌, ◌≤◌, ◌<◌, ◌+◌, ◌-◌, ◌*◌, ◌==◌, ℕ, zero, suc, cond, List, [], ◌∷◌, ◌++◌, drop, replicate, length, Option, Some, None, slice_get, slice_set, refl, sym, ap, ◌∙◌, subst, arith, inl, inr, ⊎_elim}
use Rattle.std.proofs.lemmas.Option.{same_Some, slice_get_within, slice_get-get_or, get_or_from_slice_get}
use Rattle.std.proofs.lemmas.List.{get_or-replicate, length-replicate}
use Rattle.std.proofs.lemmas.Bool.{cases_lt}
use Rattle.hs_laws.proofs.Lists.{cond_true, cond_false, equal_or, item_same, item_other}
use Rattle.number_tables.proofs.Indexes.{get_old, get_last, get_among}
use Rattle.hs_laws.proofs.Growing.{set_length}
use Rattle.search_laws.specs.Found.{Edge, AreInOrder}
use Rattle.search_laws.specs.ends.Rounds.{LeadOn, IsRound}
use Rattle.conc_outcomes.specs.declared.finiteness.marks.Mark.{Mark}
use Rattle.conc_outcomes.specs.declared.finiteness.marks.Mark.TheVariants.{New, Open, Done}
use Rattle.conc_outcomes.specs.finiteness.Walks.{AreWithin, DoneRanks, Walks, mark_weight, weight, left, HaveRanks}

-- ---- lists

-- what stands in a list in which one item was put
put_or : {A : Type 0} (xs : List A) (i k : ℕ) (x y z : A) → slice_get xs i ≡ Some x → slice_get (slice_set xs i y) k ≡ Some z → ((k ≡ i) × (z ≡ y)) ⊎ ((k ≢ i) × (slice_get xs k ≡ Some z))
put_or xs i k x y z is h =
    ⊎_elim
    (λ e. inl (e.1, same_Some z y (sym h ∙ (ap (slice_get (slice_set xs i y)) e.1 ∙ item_same xs i x y is))))
    (λ e. inr (e.1, sym (item_other xs i k y e.1) ∙ h))
    (equal_or k i)

one_longer : {A : Type 0} (xs : List A) (y : A) → length (xs ++ y ∷ []) ≡ suc (length xs)
one_longer [] y = refl
one_longer (z ∷ xs) y = ap suc (one_longer xs y)

pub is_empty : {A : Type 0} (xs : List A) → length xs ≡ 0 → xs ≡ []
is_empty [] h = refl
is_empty (x ∷ xs) h = absurd (omega (arith, h))

none_past : {A : Type 0} (xs : List A) (i : ℕ) → slice_get xs i ≡ None → length xs ≤ i
none_past [] i h = omega arith
none_past (x ∷ xs) zero h = absurd (cc h)
none_past (x ∷ xs) (suc i) h = omega (arith, none_past xs i h)

none_left : {A : Type 0} (xs : List A) (j : ℕ) → drop j xs ≡ [] → length xs ≤ j
none_left [] j h = omega arith
none_left (x ∷ xs) zero h = absurd (cc h)
none_left (x ∷ xs) (suc j) h = omega (arith, none_left xs j h)

one_left : {A : Type 0} (xs : List A) (j : ℕ) (y : A) (ys : List A) → drop j xs ≡ y ∷ ys → (slice_get xs j ≡ Some y) × (drop (suc j) xs ≡ ys)
one_left [] zero y ys h = absurd (cc h)
one_left [] (suc j) y ys h = absurd (cc h)
one_left (x ∷ xs) zero y ys h = (ap (λ o. o) cc, cc)
one_left (x ∷ xs) (suc j) y ys h = one_left xs j y ys h

at_most : (a b : ℕ) → (a ≤ b) ⊎ (b < a)
at_most a b = ⊎_elim (λ l. inr l) (λ l. inl l) (cases_lt b a)

-- ---- marks

open_not_new : (d : ℕ) → Open d ≡ New → ⊥
open_not_new d h = cc h

open_not_done : (d : ℕ) → Open d ≡ Done → ⊥
open_not_done d h = cc h

new_not_done : New ≡ Done → ⊥
new_not_done h = cc h

same_depth : (c d : ℕ) → Open c ≡ Open d → c ≡ d
same_depth c d h = cc h

-- a state has one mark
one_mark : (marks : List Mark) (i : ℕ) (a b : Mark) → slice_get marks i ≡ Some a → slice_get marks i ≡ Some b → a ≡ b
one_mark marks i a b h k = same_Some a b (sym h ∙ k)

-- ---- how much is left

-- what a mark that is put changes
weight_put : (ms : List Mark) (i : ℕ) (x y : Mark) → slice_get ms i ≡ Some x → weight (slice_set ms i y) + mark_weight x ≡ weight ms + mark_weight y
weight_put [] i x y h = absurd (cc h)
weight_put (m ∷ ms) zero x y h = let e : mark_weight m ≡ mark_weight x = ap mark_weight (same_Some m x h) in omega (arith, e)
weight_put (m ∷ ms) (suc i) x y h = omega (arith, weight_put ms i x y h)

lighter : (w v a b l : ℕ) → w < v → w * (l + 1) + (l - a) < v * (l + 1) + (l - b)
lighter w v a b l lt = grind arith

-- ---- ranks

-- more than any edge needs
abbrev total : (ℕ → ℕ) → List Edge → ℕ
total rank [] = 0
total rank (g ∷ gs) = suc (g.eager + rank g.to) + total rank gs

total_above : (rank : ℕ → ℕ) (gs : List Edge) (p : ℕ) (g : Edge) → slice_get gs p ≡ Some g → g.eager + rank g.to < total rank gs
total_above rank [] p g h = absurd (cc h)
total_above rank (x ∷ gs) zero g h = let e : x ≡ g = same_Some x g h in let f : x.eager + rank x.to ≡ g.eager + rank g.to = ap (λ (y : Edge). y.eager + rank y.to) e in omega (arith, f)
total_above rank (x ∷ gs) (suc p) g h = omega (arith, total_above rank gs p g h)

module _ (edges : List Edge) (marks : List Mark) (way : List ℕ) (at place : ℕ) (w : Walks edges marks way at place) where
  -- where the walk is stands no edge any more
  abbrev Over : Type 0
  Over = (p : ℕ) (g : Edge) → slice_get edges p ≡ Some g → g.from ≡ at → p < place

  -- the state where the walk is is done
  abbrev marked : List Mark
  marked = slice_set marks at Done

  now_done : (i : ℕ) → slice_get marks i ≡ Some Done → slice_get marked i ≡ Some Done
  now_done i h =
      ⊎_elim
      (λ e. ap (slice_get marked) e.1 ∙ item_same marks at (Open (length way)) Done w.here)
      (λ e. item_other marks at i Done e.1 ∙ h)
      (equal_or i at)

  not_here : (i : ℕ) → slice_get marks i ≡ Some Done → i ≢ at
  not_here i h e = open_not_done (length way) (one_mark marks at (Open (length way)) Done w.here (sym (ap (slice_get marks) e) ∙ h))

  -- where it has a rank, that is above all others
  abbrev raised : (ℕ → ℕ) → ℕ → ℕ
  raised rank i = cond (i == at) (total rank edges) (rank i)

  raised_other : (rank : ℕ → ℕ) (i : ℕ) → i ≢ at → raised rank i ≡ rank i
  raised_other rank i n = ⊎_elim (λ e. absurd (n e.1)) (λ e. cond_false (i == at) (total rank edges) (rank i) e.0) (equal_or i at)

  raised_here : (rank : ℕ → ℕ) (i : ℕ) → i ≡ at → raised rank i ≡ total rank edges
  raised_here rank i h = ⊎_elim (λ e. cond_true (i == at) (total rank edges) (rank i) e.0) (λ e. absurd (e.1 h)) (equal_or i at)

  more_ranks : Over → (rank : ℕ → ℕ) × DoneRanks edges marked rank
  more_ranks over = (raised old, falls)
    where
      old : ℕ → ℕ
      old = w.ranks.0

      falls : DoneRanks edges marked (raised w.ranks.0)
      falls p g is h =
          ⊎_elim
          (λ e.
          let d = w.tried_here p g is e.0 (over p g is e.0) in
          (now_done g.to d, omega (arith, raised_here w.ranks.0 g.from e.0, raised_other w.ranks.0 g.to (not_here g.to d), total_above w.ranks.0 edges p g is)))
          (λ e.
          let f = w.ranks.1 p g is e.1 in
          (now_done g.to f.0, omega (arith, f.1, raised_other w.ranks.0 g.from e.0, raised_other w.ranks.0 g.to (not_here g.to f.0))))
          (put_or marks at g.from (Open (length way)) Done Done w.here h)

  -- ---- a move to what is done

  pub skipped : (g : Edge) → slice_get edges place ≡ Some g → slice_get marks g.to ≡ Some Done → Walks edges marks way at (place + 1)
  skipped g is done = record {
    all = w.all;
    began = w.began;
    here = w.here;
    on = w.on;
    deep = w.deep;
    alone = w.alone;
    tried = w.tried;
    tried_here = λ p h get from lt.
        ⊎_elim (λ l. w.tried_here p h get from l)
        (λ l.
        let e : p ≡ place = omega (arith, l, lt) in
        let same : h ≡ g = same_Some h g (sym get ∙ (ap (slice_get edges) e ∙ is)) in
        ap (λ (y : Edge). slice_get marks y.to) same ∙ done)
        (cases_lt p place);
    ranks = w.ranks;
    ahead = λ p h get le. w.ahead p h get (omega (arith, le));
    within = let lt = slice_get_within edges place g is in omega (arith, lt);
  }

  pub skips_less : (g : Edge) → slice_get edges place ≡ Some g → left edges marks (place + 1) < left edges marks place
  skips_less g is = let lt = slice_get_within edges place g is in omega (arith, lt)

  -- what leads from where the walk is stands before the place, where the next move doesn't
  pub over_by : AreInOrder edges → ((g : Edge) → slice_get edges place ≡ Some g → g.from ≡ at → ⊥) → Over
  over_by order none p g is from = ⊎_elim (λ l. l) (λ l. absurd (past l)) (cases_lt p place)
    where
      at_place : (o : Option Edge) → slice_get edges place ≡ o → place ≤ p → ⊥
      at_place None e l = by (slice_get_within edges p g is) (none_past edges place e)
        where
          by : p < length edges → length edges ≤ place → ⊥
          by a b = omega (arith, a, b, l)
      at_place (Some h) e l = none h e (let a = w.ahead place h e (omega arith) in let b = order place p h g l e is in omega (arith, a, b, from))

      past : place ≤ p → ⊥
      past l = at_place (slice_get edges place) refl l

  -- ---- a move to what is new

  module _ (g : Edge) (is : slice_get edges place ≡ Some g) (from : g.from ≡ at) (new : slice_get marks g.to ≡ Some New) (d : ℕ) (depth : d ≡ suc (length way)) where
    abbrev opened : List Mark
    opened = slice_set marks g.to (Open d)

    longer : length (way ++ place ∷ []) ≡ d
    longer = one_longer way place ∙ sym depth

    -- what is open or done isn't that
    other : (i : ℕ) (m : Mark) → slice_get marks i ≡ Some m → (m ≡ New → ⊥) → i ≢ g.to
    other i m h n e = n (one_mark marks g.to m New (sym (ap (slice_get marks) e) ∙ h) new)

    stays : (i : ℕ) (m : Mark) → slice_get marks i ≡ Some m → (m ≡ New → ⊥) → slice_get opened i ≡ Some m
    stays i m h n = item_other marks g.to i (Open d) (other i m h n) ∙ h

    still_open : (i k : ℕ) → slice_get marks i ≡ Some (Open k) → slice_get opened i ≡ Some (Open k)
    still_open i k h = stays i (Open k) h (open_not_new k)

    still_done : (i : ℕ) → slice_get marks i ≡ Some Done → slice_get opened i ≡ Some Done
    still_done i h = stays i Done h (λ e. new_not_done (sym e))

    opened_or : (i : ℕ) (m : Mark) → slice_get opened i ≡ Some m → ((i ≡ g.to) × (m ≡ Open d)) ⊎ ((i ≢ g.to) × (slice_get marks i ≡ Some m))
    opened_or i m h = put_or marks g.to i New (Open d) m new h

    new_here : slice_get opened g.to ≡ Some (Open d)
    new_here = item_same marks g.to New (Open d) new

    -- no state was open so deep
    not_so_deep : (i k : ℕ) → k ≡ d → slice_get marks i ≡ Some (Open k) → ⊥
    not_so_deep i k e h = let l = w.deep i k h in omega (arith, l, e, depth)

    went_on : (j p : ℕ) → slice_get (way ++ place ∷ []) j ≡ Some p → (h : Edge) × (slice_get edges p ≡ Some h) × (slice_get opened h.from ≡ Some (Open j)) × (slice_get opened h.to ≡ Some (Open (suc j)))
    went_on j p h =
        ⊎_elim
        (λ e. let o = w.on j p e in (o.0, o.1, still_open o.0.from j o.2, still_open o.0.to (suc j) o.3))
        (λ e. (
          g,
          subst (λ q. slice_get edges q ≡ Some g) e.1 is,
          still_open g.from j (ap (slice_get marks) from ∙ (w.here ∙ ap (λ k. Some (Open k)) (sym e.0))),
          new_here ∙ ap (λ k. Some (Open k)) (depth ∙ ap suc (sym e.0)),
        ))
        (get_among way place j p h)

    went_deep : (i k : ℕ) → slice_get opened i ≡ Some (Open k) → k ≤ length (way ++ place ∷ [])
    went_deep i k h =
        ⊎_elim
        (λ e. let f = same_depth k d e.1 in omega (arith, f, longer))
        (λ e. let l = w.deep i k e.1 in omega (arith, l, longer, depth))
        (opened_or i (Open k) h)

    went_alone : (i j k : ℕ) → slice_get opened i ≡ Some (Open k) → slice_get opened j ≡ Some (Open k) → i ≡ j
    went_alone i j k h l =
        ⊎_elim
        (λ e. ⊎_elim (λ f. e.0 ∙ sym f.0) (λ f. absurd (not_so_deep j k (same_depth k d e.1) f.1)) (opened_or j (Open k) l))
        (λ e. ⊎_elim (λ f. absurd (not_so_deep i k (same_depth k d f.1) e.1)) (λ f. w.alone i j k e.1 f.1) (opened_or j (Open k) l))
        (opened_or i (Open k) h)

    module _ (next : ℕ) (before : (p : ℕ) (h : Edge) → slice_get edges p ≡ Some h → p < next → h.from < g.to) (behind : (p : ℕ) (h : Edge) → slice_get edges p ≡ Some h → next ≤ p → g.to ≤ h.from) (bound : next ≤ length edges) where
      went_tried : (p : ℕ) (h : Edge) → slice_get edges p ≡ Some h → (j q : ℕ) → slice_get opened h.from ≡ Some (Open j) → slice_get (way ++ place ∷ []) j ≡ Some q → p < q → slice_get opened h.to ≡ Some Done
      went_tried p h get j q open_ at_j lt =
          ⊎_elim
          (λ e. let a = slice_get_within (way ++ place ∷ []) j q at_j in let f = same_depth j d e.1 in absurd (omega (arith, a, longer, f)))
          (λ e.
          ⊎_elim (λ o. still_done h.to (w.tried p h get j q e.1 o lt))
          (λ o.
          let here : h.from ≡ at = w.alone h.from at (length way) (e.1 ∙ ap (λ k. Some (Open k)) o.0) w.here in
          still_done h.to (w.tried_here p h get here (subst (λ n. p < n) (sym o.1) lt)))
          (get_among way place j q at_j))
          (opened_or h.from (Open j) open_)

      pub went : Walks edges opened (way ++ place ∷ []) g.to next
      went = record {
        all = subst (λ n. AreWithin n edges) (sym (set_length marks g.to (Open d))) w.all;
        began = still_open 0 0 w.began;
        here = new_here ∙ ap (λ k. Some (Open k)) (sym longer);
        on = went_on;
        deep = went_deep;
        alone = went_alone;
        tried = went_tried;
        tried_here = λ p h get here lt. let l = before p h get lt in absurd (omega (arith, l, here));
        ranks = (w.ranks.0, λ p h get done. let f = w.ranks.1 p h get (was_done h.from done) in (still_done h.to f.0, f.1));
        ahead = behind;
        within = bound;
      }
        where
          was_done : (i : ℕ) → slice_get opened i ≡ Some Done → slice_get marks i ≡ Some Done
          was_done i h = ⊎_elim (λ e. absurd (open_not_done d (sym e.1))) (λ e. e.1) (opened_or i Done h)

      pub went_less : left edges opened next < left edges marks place
      went_less = lighter (weight opened) (weight marks) next place (length edges) (let e = weight_put marks g.to New (Open d) new in omega (arith, e))

  -- ---- back

  module _ (over : Over) (front : List ℕ) (q : ℕ) (last : way ≡ front ++ q ∷ []) where
    abbrev closed : List Mark
    closed = slice_set marks at Done

    long : length way ≡ suc (length front)
    long = ap length last ∙ one_longer front q

    old_way : (j p : ℕ) → slice_get front j ≡ Some p → slice_get way j ≡ Some p
    old_way j p h = subst (λ ps. slice_get ps j ≡ Some p) (sym last) (get_old front (q ∷ []) j p h)

    last_is : slice_get way (length front) ≡ Some q
    last_is = subst (λ ps. slice_get ps (length front) ≡ Some q) (sym last) (get_last front q)

    -- the edge by which the walk came
    edge_back : (g : Edge) × (slice_get edges q ≡ Some g) × (slice_get marks g.from ≡ Some (Open (length front))) × (slice_get marks g.to ≡ Some (Open (suc (length front))))
    edge_back = w.on (length front) q last_is

    -- what is open less deep stays so
    stays_open : (i k : ℕ) → slice_get marks i ≡ Some (Open k) → k ≢ length way → slice_get closed i ≡ Some (Open k)
    stays_open i k h n = item_other marks at i Done (λ e. n (same_depth k (length way) (one_mark marks at (Open k) (Open (length way)) (sym (ap (slice_get marks) e) ∙ h) w.here))) ∙ h

    -- and nothing else is open
    was_open : (i k : ℕ) → slice_get closed i ≡ Some (Open k) → (slice_get marks i ≡ Some (Open k)) × (k ≤ length front)
    was_open i k h =
        ⊎_elim
        (λ e. absurd (open_not_done k e.1))
        (λ e. (
          e.1,
          ⊎_elim (λ l. l) (λ l.
              let a = w.deep i k e.1 in
              let f : k ≡ length way = omega (arith, a, l, long) in
              absurd (e.0 (w.alone i at (length way) (e.1 ∙ ap (λ n. Some (Open n)) f) w.here))) (at_most k (length front)),
        ))
        (put_or marks at i (Open (length way)) Done (Open k) w.here h)

    back_tried : (p : ℕ) (h : Edge) → slice_get edges p ≡ Some h → (j r : ℕ) → slice_get closed h.from ≡ Some (Open j) → slice_get front j ≡ Some r → p < r → slice_get closed h.to ≡ Some Done
    back_tried p h get j r o f lt = now_done h.to (w.tried p h get j r (was_open h.from j o).0 (old_way j r f) lt)

    back_here : (p : ℕ) (h : Edge) → slice_get edges p ≡ Some h → h.from ≡ edge_back.0.from → p < q + 1 → slice_get closed h.to ≡ Some Done
    back_here p h get from lt =
        ⊎_elim
        (λ l. now_done h.to (w.tried p h get (length front) q (ap (slice_get marks) from ∙ edge_back.2) last_is l))
        (λ l.
        let e : p ≡ q = omega (arith, l, lt) in
        let same : h ≡ edge_back.0 = same_Some h edge_back.0 (sym get ∙ (ap (slice_get edges) e ∙ edge_back.1)) in
        let to : h.to ≡ at = w.alone h.to at (length way) (ap (λ (y : Edge). slice_get marks y.to) same ∙ (edge_back.3 ∙ ap (λ n. Some (Open n)) (sym long))) w.here in
        ap (slice_get closed) to ∙ item_same marks at (Open (length way)) Done w.here)
        (cases_lt p q)

    pub back_within : q < length edges
    back_within = slice_get_within edges q edge_back.0 edge_back.1

    back_to : AreInOrder edges → Walks edges closed front edge_back.0.from (q + 1)
    back_to order = record {
      all = subst (λ n. AreWithin n edges) (sym (set_length marks at Done)) w.all;
      began = stays_open 0 0 w.began (λ e. absurd (omega (arith, e, long)));
      here = stays_open edge_back.0.from (length front) edge_back.2 (λ e. absurd (omega (arith, e, long)));
      on = λ j p h.
          let o = w.on j p (old_way j p h) in
          let lt = slice_get_within front j p h in
          (o.0, o.1, stays_open o.0.from j o.2 (λ e. absurd (omega (arith, e, long, lt))), stays_open o.0.to (suc j) o.3 (λ e. absurd (omega (arith, e, long, lt))));
      deep = λ i k h. (was_open i k h).1;
      alone = λ i j k h l. w.alone i j k (was_open i k h).0 (was_open j k l).0;
      tried = back_tried;
      tried_here = back_here;
      ranks = more_ranks over;
      ahead = λ p h get le. order q p edge_back.0 h (omega (arith, le)) edge_back.1 get;
      within = let lt = back_within in omega (arith, lt);
    }

    pub backed : AreInOrder edges → (g : Edge) → slice_get edges q ≡ Some g → Walks edges closed front g.from (q + 1)
    backed order g is = subst (λ (y : Edge). Walks edges closed front y.from (q + 1)) (same_Some edge_back.0 g (sym edge_back.1 ∙ is)) (back_to order)

    pub backed_less : left edges closed (q + 1) < left edges marks place
    backed_less = lighter (weight closed) (weight marks) (q + 1) place (length edges) (let e = weight_put marks at (Open (length way)) Done w.here in omega (arith, e))

  -- ---- the end

  abbrev done_rank : (ℕ → ℕ) → ℕ → Option Mark → Option ℕ
  done_rank rank i (Some Done) = Some (rank i)
  done_rank rank i (Some New) = None
  done_rank rank i (Some (Open d)) = None
  done_rank rank i None = None

  rank_done : (rank : ℕ → ℕ) (i n : ℕ) (o : Option Mark) → done_rank rank i o ≡ Some n → (o ≡ Some Done) × (rank i ≡ n)
  rank_done rank i n (Some Done) h = (refl, same_Some (rank i) n h)
  rank_done rank i n (Some New) h = absurd (cc h)
  rank_done rank i n (Some (Open d)) h = absurd (cc h)
  rank_done rank i n None h = absurd (cc h)

  pub all_done : Over → way ≡ [] → HaveRanks edges
  all_done over none =
      let r = more_ranks over in (
        λ i. done_rank r.0 i (slice_get marked i),
        λ p g is n h.
            let d = rank_done r.0 g.from n (slice_get marked g.from) h in
            let f = r.1 p g is d.0 in
            (r.0 g.to, ap (done_rank r.0 g.to) f.0, omega (arith, f.1, d.1)),
        r.0 0,
        ap (done_rank r.0 0) (ap (slice_get marked) first ∙ item_same marks at (Open (length way)) Done w.here),
      )
    where
      first : 0 ≡ at
      first = w.alone 0 at 0 w.began (w.here ∙ ap (λ ps. Some (Open (length ps))) none)

  -- ---- a move to what is open

  module _ (g : Edge) (is : slice_get edges place ≡ Some g) (from : g.from ≡ at) where
    leads_round : (qs : List ℕ) (j i : ℕ) → drop j way ≡ qs → slice_get marks i ≡ Some (Open j) → j ≤ length way → LeadOn edges i (qs ++ place ∷ []) g.to
    leads_round [] j i e m l = let f = none_left way j e in (g, is, from ∙ w.alone at i j (w.here ∙ ap (λ n. Some (Open n)) (omega (arith, f, l))) m, refl)
    leads_round (q ∷ qs) j i e m l =
        let d = one_left way j q qs e in
        let o = w.on j q d.0 in
        let lt = slice_get_within way j q d.0 in
        (o.0, o.1, w.alone o.0.from i j o.2 m, leads_round qs (suc j) o.0.to d.1 o.3 (omega (arith, lt)))

    pub rounds : (d : ℕ) → slice_get marks g.to ≡ Some (Open d) → IsRound edges g.to (drop d way ++ place ∷ [])
    rounds d m = (let e = one_longer (drop d way) place in omega (arith, e), leads_round (drop d way) d g.to refl m (w.deep g.to d m))

-- ---- the begin

module _ (edges : List Edge) (count : ℕ) where
  abbrev fresh : List Mark
  fresh = replicate count New

  all_new : (i : ℕ) (b : Mark) → slice_get fresh i ≡ Some b → b ≡ New
  all_new i b h =
      let lt = slice_get_within fresh i b h in
      sym (get_or_from_slice_get fresh i b b h) ∙ get_or-replicate count i New b (omega (arith, lt, length-replicate count New))

  module _ (some : 0 < count) where
    first_new : slice_get fresh 0 ≡ Some New
    first_new = slice_get-get_or fresh 0 New (omega (arith, some, length-replicate count New)) ∙ ap (λ m. Some m) (get_or-replicate count 0 New New some)

    abbrev begins : List Mark
    begins = slice_set fresh 0 (Open 0)

    here_is : slice_get begins 0 ≡ Some (Open 0)
    here_is = item_same fresh 0 New (Open 0) first_new

    only : (i d : ℕ) → slice_get begins i ≡ Some (Open d) → (i ≡ 0) × (d ≡ 0)
    only i d h = ⊎_elim (λ e. (e.0, same_depth d 0 e.1)) (λ e. absurd (open_not_new d (all_new i (Open d) e.1))) (put_or fresh 0 i New (Open 0) (Open d) first_new h)

    none_done : (i : ℕ) → slice_get begins i ≡ Some Done → ⊥
    none_done i h = ⊎_elim (λ e. open_not_done 0 (sym e.1)) (λ e. new_not_done (sym (all_new i Done e.1))) (put_or fresh 0 i New (Open 0) Done first_new h)

    pub begun : AreWithin count edges → Walks edges begins [] 0 0
    begun within = record {
      all = subst (λ n. AreWithin n edges) (sym (set_length fresh 0 (Open 0) ∙ length-replicate count New)) within;
      began = here_is;
      here = here_is;
      on = λ j p h. absurd (cc h);
      deep = λ i d h. let e = (only i d h).1 in omega (arith, e);
      alone = λ i k d h l. (only i d h).0 ∙ sym (only k d l).0;
      tried = λ p g is j q o h lt. absurd (cc h);
      tried_here = λ p g is from lt. absurd (omega (arith, lt));
      ranks = (λ i. 0, λ p g is h. absurd (none_done g.from h));
      ahead = λ p g is le. omega arith;
      within = omega arith;
    }

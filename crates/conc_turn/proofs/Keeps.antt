-- Each step keeps the rule of the turn.
use Rattle.std.proofs.Common.{◌≡◌, ◌≢◌, ℕ, zero, suc, ◌<◌, true, false, true≢false, eqb, List, [], ◌∷◌, ◌++◌, set, get_or, Option, Some, None, refl, ap, sym, ◌∙◌, subst, ⊎_elim, arith}
use mathlib.Core.Option.{some, none, some-injective, some-ne-none}
use mathlib.Core.Option as maybe
use mathlib.Core.List.{IsPrefix}
use lib.ListN.{get_elem?}
use lib.Seq.{set-get_or}
use prog.Atomic.{either}
use Rattle.atomic_table.specs.Table.{State, Me, step, Act, keeps, takes, gives, stepped, Valid, carried_after, Allows, Splits, Joins, Final, Seen, opening}
use Rattle.atomic_table.proofs.Lists.{at_set, at_snoc, at_longer, set_else}
use Rattle.hs_rules.specs.declared.kept.Plan.{Plan}
use Rattle.hs_rules.specs.declared.entry.Entry.{Entry}
use Rattle.conc_turn.specs.declared.view.View.{View}
use Rattle.conc_turn.specs.TurnRule.{total, shares_in, view_with, Fits, Lies, IsRuled, holding, losing, giving, tries_to_take, gives_back, compares, longer, left_of, right_of, both_of, spent_view}
use Rattle.conc_turn.proofs.Prefixes.{prefix_self, prefix_none, prefix_trans, longest}
use Rattle.conc_turn.proofs.Totals.{total_set, total_snoc, total_two}

abbrev Each : (ℕ → View → Type 0) → List View → Type 0
Each F views = (id : ℕ) (v : View) → get_elem? views id ≡ some v → F id v

each_set : (F : ℕ → View → Type 0) (views : List View) (id : ℕ) (w : View) → F id w → ((j : ℕ) (u : View) → j ≢ id → get_elem? views j ≡ some u → F j u) → Each F (set views id w)
each_set F views id w mine others j u e = ⊎_elim (λ (x : (j ≡ id) × (w ≡ u)). subst (λ (y : ℕ × View). F y.0 y.1) (λ i. (sym x.0 i, x.1 i)) mine)
    (λ (x : (j ≢ id) × (get_elem? views j ≡ some u)). others j u x.0 x.1) (at_set views id j w u e)

set_at : (views : List View) (id : ℕ) (v w : View) → get_elem? views id ≡ some v → get_elem? (set views id w) id ≡ some w
set_at [] id v w at = absurd (some-ne-none v (sym at))
set_at (x ∷ xs) zero v w at = refl
set_at (x ∷ xs) (suc id) v w at = set_at xs id v w at

-- the value that a seat carries
abbrev carried_value : {D : Type 0} → D → List (ℕ × Option D) → D
carried_value d [] = d
carried_value d ((k, None) ∷ xs) = d
carried_value d ((k, Some x) ∷ xs) = x

only : (w v : View) (id : ℕ) → get_elem? (w ∷ []) id ≡ some v → w ≡ v
only w v zero e = some-injective w v e
only w v (suc id) e = absurd (some-ne-none v (sym e))

-- a seat at rest that has seen a beginning
rests : (plan : Plan) (holder : ℕ) (top : List Entry) (id : ℕ) (v : View) → v.holds ≡ false → IsPrefix v.seen top → IsPrefix v.joined top → v.plan ≡ Some plan → 0 < v.shares → Fits plan holder top id v
rests plan holder top id v off seen told same some_share = ((λ on. absurd (true≢false (sym on ∙ off))), (λ _. (seen, told)), (λ _. same), λ none_left. absurd (omega arith))

module _ {D : Type 0} (plan_of : D → Plan) (history_of : D → List Entry) where
  abbrev Rule : Plan → State (Option D) View → Type 0
  Rule = IsRuled plan_of history_of

  abbrev St : Type 0
  St = State (Option D) View

  pub opens : (d : D) → Rule (plan_of d) (opening (0 ∷ []) (Some d ∷ []) (view_with (Some (plan_of d)) (history_of d) 16 0))
  opens d = let w = view_with (Some (plan_of d)) (history_of d) 16 0 in record {
    holder = 0;
    top = history_of d;
    whole = refl;
    each = λ id v at. subst (λ u. Fits (plan_of d) 0 (history_of d) id u) (only w v id at) (rests (plan_of d) 0 (history_of d) id w refl (prefix_self (history_of d)) (prefix_none (history_of d)) refl (omega arith));
    lies = (refl, (d, refl, refl, refl));
  }

  -- the seat at rest is not the one that holds
  lies_set : (plan : Plan) (holder : ℕ) (top : List Entry) (s : St) (id : ℕ) (v w : View) → get_elem? s.views id ≡ some v → v.holds ≡ false
      → Lies plan_of history_of plan holder top s → Lies plan_of history_of plan holder top record { words = s.words; homes = s.homes; views = set s.views id w }
  lies_set plan zero top s id v w at off l = l
  lies_set plan (suc h) top s id v w at off l = let u = l.2.0 in
      let apart : h ≢ id = λ e. true≢false (sym l.2.2 ∙ (ap (λ (x : View). x.holds) (some-injective u v (sym l.2.1 ∙ (ap (get_elem? s.views) e ∙ at))) ∙ off)) in
      (l.0, l.1, (u, set_else s.views id h w apart ∙ l.2.1, l.2.2))

  lies_more : (plan : Plan) (holder : ℕ) (top : List Entry) (s : St) (w : View)
      → Lies plan_of history_of plan holder top s → Lies plan_of history_of plan holder top record { words = s.words; homes = s.homes; views = s.views ++ w ∷ [] }
  lies_more plan zero top s w l = l
  lies_more plan (suc h) top s w l = (l.0, l.1, (l.2.0, at_longer s.views (w ∷ []) h l.2.0 l.2.1, l.2.2))

  abbrev Tries : Plan → ℕ → ℕ → View → List (ℕ × Option D) → List ℕ → List (maybe.Option (Option D)) → List View → Type 0
  Tries plan slots id v c words homes views = let s : St = record { words = words; homes = homes; views = views } in
      (w : View) × (a : Act (Option D)) × Valid homes c a × Rule plan (stepped s 0 (either (eqb (get_or words 0 0) 0) 1 (get_or words 0 0)) id c w a)
      × tries_to_take plan_of history_of (step slots 0 0 1 none) (v, c) (get_or words 0 0) (w, carried_after c a)

  tries_at : (plan : Plan) (slots id : ℕ) (v : View) (c : List (ℕ × Option D)) → v.holds ≡ false → 0 < v.shares → v.plan ≡ Some plan
      → (holder : ℕ) (top : List Entry) (s : St) → total shares_in s.views ≡ 16 → Each (Fits plan holder top) s.views → Lies plan_of history_of plan holder top s → get_elem? s.views id ≡ some v
      → Tries plan slots id v c s.words s.homes s.views
  tries_at plan slots id v c off some_share same zero top s whole each l at = let d = l.1.0 in let now = history_of d in
      let each' : Each (Fits plan 0 now) s.views = subst (λ t. Each (Fits plan 0 t) s.views) (sym l.1.3) each in
      let w = holding v now in
      let P : List ℕ × List (maybe.Option (Option D)) → Type 0 = λ x. Tries plan slots id v c x.0 x.1 s.views in
      subst P (λ i. (sym l.0 i, sym l.1.1 i)) (
        w,
        takes 0 (Some d),
        refl,
        record {
          holder = suc id;
          top = now;
          whole = (let t = total_set shares_in s.views id v w at in omega arith);
          each = each_set (Fits plan (suc id) now) s.views id w ((λ _. (refl, refl, some_share)), (λ no. absurd (true≢false no)), (λ _. same), λ none_left. absurd (omega arith))
              (λ j u _ e. let f = each' j u e in ((λ on. absurd (let z = (f.0 on).0 in omega arith)), f.1, f.2, f.3));
          lies = (refl, refl, (w, set_at s.views id v w at, refl));
        },
        ((λ _. (d, refl, ap Some l.1.2 ∙ sym same, ((each' id v at).1 off).0)), λ ne. absurd (ne refl)),
      )
  tries_at plan slots id v c off some_share same (suc h) top s whole each l at = let w = losing v in let f = each id v at in
      let P : List ℕ → Type 0 = λ x. Tries plan slots id v c x s.homes s.views in
      subst P (sym l.0) (
        w,
        keeps,
        tt,
        record {
          holder = suc h;
          top = top;
          whole = (let t = total_set shares_in s.views id v w at in omega arith);
          each = each_set (Fits plan (suc h) top) s.views id w (f.0, f.1, f.2, λ none_left. absurd (omega arith)) (λ j u _ e. each j u e);
          lies = (let m = lies_set plan (suc h) top s id v w at off l in (refl, m.1, m.2));
        },
        ((λ e. absurd (omega arith)), λ _. (refl, refl)),
      )

  pub may_take : (plan : Plan) (slots id : ℕ) (me : Me (Option D) View) → me.0.holds ≡ false → 0 < me.0.shares → me.0.plan ≡ Some plan
      → Allows (Rule plan) slots id me 0 (λ n. either (eqb n 0) 1 n) (tries_to_take plan_of history_of (step slots 0 0 1 none) me)
  may_take plan slots id me off some_share same s r _ at _ = tries_at plan slots id me.0 me.1 off some_share same r.holder r.top s r.whole r.each r.lies at

  abbrev Gives : Plan → ℕ → ℕ → View → D → List (maybe.Option (Option D)) → List ℕ → List View → Type 0
  Gives plan slots id v d homes words views = let s : St = record { words = words; homes = homes; views = views } in let c : List (ℕ × Option D) = (0, Some d) ∷ [] in
      (w : View) × (a : Act (Option D)) × Valid homes c a × Rule plan (stepped s 0 0 id c w a) × gives_back history_of (step slots 0 0 0 none) (v, c) 0 (w, carried_after c a)

  gives_at : (plan : Plan) (slots id : ℕ) (v : View) (d : D) → v.holds ≡ true → 0 < v.shares → Some (plan_of d) ≡ v.plan → IsPrefix v.found (history_of d)
      → (holder : ℕ) (top : List Entry) (s : St) → total shares_in s.views ≡ 16 → Each (Fits plan holder top) s.views → Lies plan_of history_of plan holder top s → get_elem? s.views id ≡ some v
      → Gives plan slots id v d s.homes s.words s.views
  gives_at plan slots id v d on some_share kept more zero top s whole each l at = absurd (let z = ((each id v at).0 on).0 in omega arith)
  gives_at plan slots id v d on some_share kept more (suc h) top s whole each l at = let same = (each id v at).2 some_share in let now = history_of d in let w = giving v now in let f = (each id v at).0 on in
      let P : List ℕ × List (maybe.Option (Option D)) → Type 0 = λ x. Gives plan slots id v d x.1 x.0 s.views in
      let longer_now : IsPrefix top now = subst (λ t. IsPrefix t now) f.1 more in
      subst P (λ i. (sym l.0 i, sym l.1 i)) (
        w,
        gives,
        tt,
        record {
          holder = 0;
          top = now;
          whole = (let t = total_set shares_in s.views id v w at in omega arith);
          each = each_set (Fits plan 0 now) s.views id w (rests plan 0 now id w refl (prefix_self now) (prefix_none now) same some_share)
              (λ j u other e. let k = each j u e in ((λ yes. absurd (other (let z = (k.0 yes).0 in let y = f.0 in omega arith))), (λ off. let p = k.1 off in (prefix_trans u.seen top now p.0 longer_now, prefix_trans u.joined top now p.1 longer_now)), k.2, k.3));
          lies = (refl, (d, refl, cc (kept ∙ same), refl));
        },
        λ e is. ap (λ x. (giving v (history_of x), [])) (ap (carried_value d) is),
      )

  pub may_give : (plan : Plan) (slots id : ℕ) (me : Me (Option D) View) (d : D) → me.1 ≡ (0, Some d) ∷ [] → me.0.holds ≡ true → 0 < me.0.shares → Some (plan_of d) ≡ me.0.plan → IsPrefix me.0.found (history_of d)
      → Allows (Rule plan) slots id me 0 (λ _. 0) (λ _. gives_back history_of (step slots 0 0 0 none) me 0)
  may_give plan slots id me d out on some_share kept more = subst (λ (c : List (ℕ × Option D)). Allows (Rule plan) slots id (me.0, c) 0 (λ _. 0) (λ _. gives_back history_of (step slots 0 0 0 none) (me.0, c) 0)) (sym out)
      (λ s r _ at _. gives_at plan slots id me.0 d on some_share kept more r.holder r.top s r.whole r.each r.lies at)

  pub may_split : (plan : Plan) (id n : ℕ) (v : View) → v.holds ≡ false → 0 < n → n < v.shares → Splits (Rule plan) id v (left_of n v) (right_of n v)
  may_split plan id n v off some_share fewer s r at = let l = left_of n v in let w = right_of n v in let f = r.each id v at in let vs = set s.views id l in
      let same = f.2 (omega arith) in
      let t = total_set shares_in s.views id v l at in
      let t' = total_snoc shares_in vs w in
      let whole = r.whole in record {
        holder = r.holder;
        top = r.top;
        whole = omega arith;
        each = (let old : Each (Fits plan r.holder r.top) vs = each_set (Fits plan r.holder r.top) s.views id l (rests plan r.holder r.top id l off (f.1 off).0 (f.1 off).1 same (omega arith)) (λ j u _ e. r.each j u e) in
            λ j u e. ⊎_elim (λ x. old j u x) (λ (is : w ≡ u). subst (Fits plan r.holder r.top j) is (rests plan r.holder r.top j w refl (f.1 off).0 (prefix_none r.top) same some_share)) (at_snoc vs w u j e));
        lies = lies_more plan r.holder r.top record { words = s.words; homes = s.homes; views = vs } w (lies_set plan r.holder r.top s id v l at off r.lies);
      }

  pub may_join : (plan : Plan) (id : ℕ) (v : View) (other : ℕ) (u : View) → v.holds ≡ false → u.holds ≡ false → 0 < v.shares → 0 < u.shares → Joins (Rule plan) id v other u (both_of v u) spent_view
  may_join plan id v other u off off' some_share more_share s r at apart at' = let w = both_of v u in let f = r.each id v at in let vs = set s.views id w in
      let was : get_elem? s.views other ≡ some u = ⊎_elim (λ x. absurd (apart x.0)) (λ x. x.1) (at_set s.views id other w u at') in
      let f' = r.each other u was in
      let t = total_set shares_in s.views id v w at in
      let t' = total_set shares_in vs other u spent_view at' in
      let whole = r.whole in record {
        holder = r.holder;
        top = r.top;
        whole = omega arith;
        each = (let now : Each (Fits plan r.holder r.top) vs = each_set (Fits plan r.holder r.top) s.views id w (rests plan r.holder r.top id w off (f.1 off).0 (f'.1 off').0 (f.2 some_share) (omega arith)) (λ j y _ e. r.each j y e) in
            each_set (Fits plan r.holder r.top) vs other spent_view ((λ no. absurd (true≢false (sym no))), (λ _. (prefix_none r.top, prefix_none r.top)), (λ no. absurd (omega arith)), λ _. (refl, refl, refl)) (λ j y _ e. now j y e));
        lies = lies_set plan r.holder r.top record { words = s.words; homes = s.homes; views = vs } other u spent_view at' off' (lies_set plan r.holder r.top s id v w at off r.lies);
      }

  pub may_compare : (plan : Plan) (slots id : ℕ) (me : Me (Option D) View) → me.0.holds ≡ false → 0 < me.0.shares
      → Allows (Rule plan) slots id me 0 (λ n. n) (compares (step slots 0 0 0 none) me)
  may_compare plan slots id me off some_share s r _ at _ = let v = me.0 in let f = r.each id v at in let w = record v { seen = longer v.seen v.joined; joined = [] } in
      let best = longest v.seen v.joined r.top (f.1 off).0 (f.1 off).1 in
      let t = total_set shares_in s.views id v w at in
      let whole = r.whole in (
        w,
        keeps,
        tt,
        subst (λ (ws : List ℕ). Rule plan record { words = ws; homes = s.homes; views = set s.views id w }) (sym (set-get_or s.words 0 0)) record {
          holder = r.holder;
          top = r.top;
          whole = omega arith;
          each = each_set (Fits plan r.holder r.top) s.views id w (rests plan r.holder r.top id w off best.0 (prefix_none r.top) (f.2 some_share) some_share) (λ j y _ e. r.each j y e);
          lies = lies_set plan r.holder r.top s id v w at off r.lies;
        },
        (refl, best.1, best.2),
      )

  abbrev Left : Plan → View → List (Option D) → Type 0
  Left plan v xs = (d : D) × (get_elem? xs 0 ≡ some (Some d)) × (plan_of d ≡ plan) × IsPrefix v.seen (history_of d)

  left_at : (plan : Plan) (id : ℕ) (v : View) (xs : List (Option D)) → v.holds ≡ false → v.shares ≡ 16
      → (holder : ℕ) (top : List Entry) (s : St) → total shares_in s.views ≡ 16 → Each (Fits plan holder top) s.views → Lies plan_of history_of plan holder top s → get_elem? s.views id ≡ some v
      → ((k : ℕ) (y : Option D) → get_elem? s.homes k ≡ some (some y) → get_elem? xs k ≡ some y) → Left plan v xs
  left_at plan id v xs off all zero top s whole each l at back = let d = l.1.0 in
      (d, back 0 (Some d) (ap (λ h. get_elem? h 0) l.1.1), l.1.2, subst (λ t. IsPrefix v.seen t) (sym l.1.3) ((each id v at).1 off).0)
  left_at plan id v xs off all (suc h) top s whole each l at back = let u = l.2.0 in
      let apart : h ≢ id = λ e. true≢false (sym l.2.2 ∙ (ap (λ (x : View). x.holds) (some-injective u v (sym l.2.1 ∙ (ap (get_elem? s.views) e ∙ at))) ∙ off)) in
      let t = total_two shares_in s.views id h v u at l.2.1 apart in
      absurd (true≢false (sym l.2.2 ∙ ((each h u l.2.1).3 (omega arith)).0))

  pub left : (plan : Plan) (id : ℕ) (v : View) (ws : List ℕ) (xs : List (Option D)) → v.holds ≡ false → v.shares ≡ 16 → Final (Seen (Rule plan) id v) ws xs → Left plan v xs
  left plan id v ws xs off all f = let s = f.0 in let r = f.1.0 in left_at plan id v xs off all r.holder r.top s r.whole r.each r.lies f.1.1 f.4

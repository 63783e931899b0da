-- Each step keeps the rule of the flags.
use Rattle.std.proofs.Common.{length, ◌+◌, inr, ◌≡◌, ◌≢◌, ◌⊎◌, ℕ, ◌%◌, ◌<◌, List, [], ◌∷◌, ◌++◌, length-set, set, get_or, get_or-set_same, get_or-set_other, refl, ap, sym, ◌∙◌, subst, inl, ⊎_elim, arith, replicate}
use mathlib.Core.Logic.{dite}
use native.Mathlib.Decide.{ℕ_discrete}
use mathlib.Core.Option.{some, none, some-injective}
use lib.ListN.{get_elem?}
use lib.Seq.{set-get_or}
use Rattle.atomic_table.specs.Table.{Me, step, keeps, Allows, Splits, Joins, Final, Seen, opening}
use Rattle.atomic_table.proofs.Lists.{at_set, at_snoc, at_longer, set_else}
use Rattle.conc_hands.specs.declared.flags.view.PenView.{PenView}
use Rattle.conc_hands.specs.declared.flags.view.Reading.{Reading}
use Rattle.conc_hands.specs.flags.FlagsRule.{Among, Raised, IsFlag, OnlyRaised, pen_view, reading, IsRuled, raises, reads, less_one, of_one, both_of, spent_view}
use Rattle.conc_hands.proofs.flags_lemmas.Sums.{total_set, total_snoc, total_two, set_at, only_one, at_end, zeros, among_more, among_after, among_either}

abbrev Spent : PenView → Type 0
Spent v = v.shares ≡ 0 → v ≡ pen_view 0 [] []

abbrev Each : (PenView → Type 0) → List PenView → Type 0
Each F views = (id : ℕ) (v : PenView) → get_elem? views id ≡ some v → F v

each_set : (F : PenView → Type 0) (views : List PenView) (id : ℕ) (w : PenView) → F w → Each F views → Each F (set views id w)
each_set F views id w mine others j u e = ⊎_elim (λ (x : (j ≡ id) × (w ≡ u)). subst F x.1 mine)
    (λ (x : (j ≢ id) × (get_elem? views j ≡ some u)). others j u x.1) (at_set views id j w u e)

-- what a view has raised stays raised where that view becomes one that has raised as much
still : (views : List PenView) (id : ℕ) (v w : PenView) (t : ℕ) → get_elem? views id ≡ some v → (Among t v.raised → Among t w.raised) → Raised views t → Raised (set views id w) t
still views id v w t at more r = dite (ℕ_discrete r.0 id)
    (λ e. (id, w, set_at views id v w at, more (subst (λ (x : PenView). Among t x.raised) (some-injective r.1 v (sym r.2 ∙ (ap (get_elem? views) e ∙ at))) r.3)))
    (λ ne. (r.0, r.1, set_else views id r.0 w ne ∙ r.2, r.3))

-- the same where then another view than that one is spent
still_but : (views : List PenView) (id : ℕ) (v w : PenView) (other t : ℕ) → get_elem? views id ≡ some v → ¬ (other ≡ id) → (Among t v.raised → Among t w.raised) → (r : Raised views t) → r.0 ≢ other → Raised (set (set views id w) other spent_view) t
still_but views id v w other t at apart more r ne = dite (ℕ_discrete r.0 id)
    (λ e. (id, w, set_else (set views id w) other id spent_view (λ x. apart (sym x)) ∙ set_at views id v w at, more (subst (λ (x : PenView). Among t x.raised) (some-injective r.1 v (sym r.2 ∙ (ap (get_elem? views) e ∙ at))) r.3)))
    (λ off. (r.0, r.1, set_else (set views id w) other r.0 spent_view ne ∙ (set_else views id r.0 w off ∙ r.2), r.3))

abbrev Only : List PenView → PenView → Type 0
Only views v = (r : Reading) → Among r v.read → r.found ≢ 0 → Raised views r.found

pub opens : (hands : ℕ) → 0 < hands → IsRuled hands (opening (replicate 64 0) [] (pen_view hands [] []))
opens hands some_hand = let w = pen_view hands [] [] in record {
  whole = omega arith;
  spent = λ id v at. subst Spent (only_one w v id at) (λ none_left. absurd (omega arith));
  wide = refl;
  flags = λ p small some_ticket. absurd (some_ticket (zeros 64 p));
  only = λ id v at r m _. absurd (subst (λ (u : PenView). Among r u.read) (sym (only_one w v id at)) m);
}

pub may_raise : (hands slots id word ticket : ℕ) (me : Me (Unit {0}) PenView) → 0 < me.0.shares → word < 64 → word ≡ ticket % 64
    → Allows (IsRuled hands) slots id me word (λ _. ticket) (λ _. raises (step slots word ticket 0 none) me ticket)
may_raise hands slots id word ticket me some_share small is s r _ at _ = let v = me.0 in let w = pen_view v.shares (v.raised ++ ticket ∷ []) v.read in
    let keep : (t : ℕ) → Raised s.views t → Raised (set s.views id w) t = (λ t h. still s.views id v w t at (among_more t v.raised (ticket ∷ [])) h) in (
      w,
      keeps,
      tt,
      record {
        whole = (let t = total_set s.views id v w at in let p = r.whole in omega arith);
        spent = each_set Spent s.views id w (λ none_left. absurd (omega arith)) r.spent;
        wide = length-set s.words word ticket ∙ r.wide;
        flags = λ k kl. dite (ℕ_discrete k word)
            (λ e. let is_it : get_or (set s.words word ticket) k 0 ≡ ticket = ap (λ (z : ℕ). get_or (set s.words word ticket) z 0) e ∙ get_or-set_same s.words word ticket 0 (let q = r.wide in omega arith) in
            subst (λ (n : ℕ). IsFlag (set s.views id w) k n) (sym is_it) (λ _. (sym is ∙ sym e, (id, w, set_at s.views id v w at, among_after ticket v.raised (ticket ∷ []) (inl refl)))))
            (λ ne. subst (λ (n : ℕ). IsFlag (set s.views id w) k n) (sym (get_or-set_other s.words word k ticket 0 ne)) (λ nz. let f = r.flags k kl nz in (f.0, keep _ f.1)));
        only = each_set (Only (set s.views id w)) s.views id w (λ l m nz. keep l.found (r.only id v at l m nz)) (λ j u e l m nz. keep l.found (r.only j u e l m nz));
      },
      refl,
    )

pub may_read : (hands slots id word : ℕ) (me : Me (Unit {0}) PenView) → 0 < me.0.shares → word < 64
    → Allows (IsRuled hands) slots id me word (λ n. n) (reads (step slots word 0 0 none) me)
may_read hands slots id word me some_share small s r _ at _ = let v = me.0 in let n = get_or s.words word 0 in let w = pen_view v.shares v.raised (v.read ++ reading word n ∷ []) in
    let keep : (t : ℕ) → Raised s.views t → Raised (set s.views id w) t = (λ t h. still s.views id v w t at (λ m. m) h) in (
      w,
      keeps,
      tt,
      subst (λ (ws : List ℕ). IsRuled hands record { words = ws; homes = s.homes; views = set s.views id w }) (sym (set-get_or s.words word 0)) record {
        whole = (let t = total_set s.views id v w at in let p = r.whole in omega arith);
        spent = each_set Spent s.views id w (λ none_left. absurd (omega arith)) r.spent;
        wide = r.wide;
        flags = λ k kl nz. let f = r.flags k kl nz in (f.0, keep _ f.1);
        only = each_set (Only (set s.views id w)) s.views id w
            (λ l m nz. ⊎_elim (λ old. keep l.found (r.only id v at l old nz))
            (λ (new : (reading word n ≡ l) ⊎ ⊥). ⊎_elim (λ (is : reading word n ≡ l). let same : n ≡ l.found = ap (λ (y : Reading). y.found) is in
            subst (λ (t : ℕ). Raised (set s.views id w) t) same (keep n (r.flags word small (λ z. nz (sym same ∙ z))).1)) (λ no. absurd no) new)
            (among_either l v.read (reading word n ∷ []) m))
            (λ j u e l m nz. keep l.found (r.only j u e l m nz));
      },
      refl,
    )

-- a view becomes two, whose shares and lists are its own
halves : (hands id : ℕ) (v l w : PenView) → (Spent v → Spent l × Spent w) → l.shares + w.shares ≡ v.shares
    → ((t : ℕ) → Among t v.raised → Among t l.raised ⊎ Among t w.raised) → ((views : List PenView) → Only views v → Only views l × Only views w) → Splits (IsRuled hands) id v l w
halves hands id v l w spent shares raised only s r at = let vs = set s.views id l in
    let end : get_elem? (vs ++ w ∷ []) (length vs) ≡ some w = at_end vs w in
    let keep : (t : ℕ) → Raised s.views t → Raised (vs ++ w ∷ []) t =
    (λ t h. dite (ℕ_discrete h.0 id)
    (λ e. let mine : Among t v.raised = subst (λ (x : PenView). Among t x.raised) (some-injective h.1 v (sym h.2 ∙ (ap (get_elem? s.views) e ∙ at))) h.3 in
    ⊎_elim (λ m. (id, l, at_longer vs (w ∷ []) id l (set_at s.views id v l at), m)) (λ m. (length vs, w, end, m)) (raised t mine))
    (λ ne. (h.0, h.1, at_longer vs (w ∷ []) h.0 h.1 (set_else s.views id h.0 l ne ∙ h.2), h.3))) in
    let fit = spent (r.spent id v at) in
    let mine = only (vs ++ w ∷ []) (λ m x nz. keep m.found (r.only id v at m x nz)) in record {
      whole = (let t = total_set s.views id v l at in let t' = total_snoc vs w in let p = r.whole in omega arith);
      spent = (let old : Each Spent vs = each_set Spent s.views id l fit.0 r.spent in
          λ j u e. ⊎_elim (λ x. old j u x) (λ (is : w ≡ u). subst Spent is fit.1) (at_snoc vs w u j e));
      wide = r.wide;
      flags = λ k kl nz. let f = r.flags k kl nz in (f.0, keep _ f.1);
      only = (let old : Each (Only (vs ++ w ∷ [])) vs = each_set (Only (vs ++ w ∷ [])) s.views id l mine.0 (λ j u e m x nz. keep m.found (r.only j u e m x nz)) in
          λ j u e. ⊎_elim (λ x. old j u x) (λ (is : w ≡ u). subst (Only (vs ++ w ∷ [])) is mine.1) (at_snoc vs w u j e));
    }

pub may_split : (hands id : ℕ) (v : PenView) → 1 < v.shares → Splits (IsRuled hands) id v (less_one v) (of_one v)
may_split hands id v more = halves hands id v (less_one v) (of_one v)
    (λ _. ((λ none_left. absurd (omega arith)), λ none_left. absurd (omega arith)))
    (omega arith) (λ t m. inl m) (λ views o. (o, λ m x nz. absurd x))

pub may_move : (hands id : ℕ) (v : PenView) → Splits (IsRuled hands) id v spent_view v
may_move hands id v = halves hands id v spent_view v (λ f. ((λ _. refl), f)) (omega arith) (λ t m. inr m) (λ views o. ((λ m x nz. absurd x), o))

pub may_join : (hands id : ℕ) (v : PenView) (other : ℕ) (u : PenView) → 0 < v.shares → Joins (IsRuled hands) id v other u (both_of v u) spent_view
may_join hands id v other u some_share s r at apart at' = let w = both_of v u in let vs = set s.views id w in let end = set vs other spent_view in
    let was : get_elem? s.views other ≡ some u = ⊎_elim (λ x. absurd (apart x.0)) (λ x. x.1) (at_set s.views id other w u at') in
    let mine : get_elem? vs id ≡ some w = set_at s.views id v w at in
    let mine' : get_elem? end id ≡ some w = set_else vs other id spent_view (λ e. apart (sym e)) ∙ mine in
    -- what was raised by the one that is spent is raised by the one that took it in
    let keep : (t : ℕ) → Raised s.views t → Raised end t =
    (λ t h. dite (ℕ_discrete h.0 other)
    (λ e. (id, w, mine', among_after t v.raised u.raised (subst (λ (x : PenView). Among t x.raised) (some-injective h.1 u (sym h.2 ∙ (ap (get_elem? s.views) e ∙ was))) h.3)))
    (λ ne. still_but s.views id v w other t at apart (among_more t v.raised u.raised) h ne)) in record {
      whole = (let t = total_set s.views id v w at in let t' = total_set vs other u spent_view at' in let p = r.whole in omega arith);
      spent = (let now : Each Spent vs = each_set Spent s.views id w (λ none_left. absurd (omega arith)) r.spent in each_set Spent vs other spent_view (λ _. refl) now);
      wide = r.wide;
      flags = λ k kl nz. let f = r.flags k kl nz in (f.0, keep _ f.1);
      only = (let now : Each (Only end) vs = each_set (Only end) s.views id w
          (λ m x nz. ⊎_elim (λ old. keep m.found (r.only id v at m old nz)) (λ old. keep m.found (r.only other u was m old nz)) (among_either m v.read u.read x))
          (λ j y e m x nz. keep m.found (r.only j y e m x nz)) in
          each_set (Only end) vs other spent_view (λ m x nz. absurd x) now);
    }

pub ends : (hands id : ℕ) (v : PenView) (ws : List ℕ) (xs : List (Unit {0})) → v.shares ≡ hands → 0 < v.shares → Final (Seen (IsRuled hands) id v) ws xs → OnlyRaised v.raised v.read
ends hands id v ws xs all some_share f l m nz = let s = f.0 in let r = f.1.0 in let at = f.1.1 in let h = r.only id v at l m nz in
    dite (ℕ_discrete h.0 id)
    (λ e. subst (λ (x : PenView). Among l.found x.raised) (some-injective h.1 v (sym h.2 ∙ (ap (get_elem? s.views) e ∙ at))) h.3)
    (λ ne. let t = total_two s.views id h.0 v h.1 at h.2 ne in let p = r.whole in
    let none : h.1 ≡ pen_view 0 [] [] = r.spent h.0 h.1 h.2 (omega arith) in
    absurd (subst (λ (x : PenView). Among l.found x.raised) none h.3))

-- Each step keeps the rule of a queue.
use Rattle.std.proofs.Common.{◌≡◌, ◌≢◌, ◌↔◌, ℕ, zero, suc, ◌+◌, ◌<◌, List, [], ◌∷◌, ◌++◌, length, map, set, All, refl, ap, sym, ◌∙◌, subst, ⊎_elim, arith, Option, Some, None, IsNone, MatchOption}
use Rattle.std.proofs.lemmas.List.{map-append}
use Rattle.std.proofs.lemmas.List.Elements.{All-append, All-take, All-drop}
use lib.Seq.{take-append_seam, drop-append_seam}
use mathlib.Core.Option.{some, some-injective}
use lib.ListN.{get_elem?}
use Rattle.crossbeam_deque.proofs.Lists.{at_set, at_snoc}
use Rattle.crossbeam_deque.specs.Tasks.{Pushes, Takes, Finds, FindsFew, Admits, Forks, Merges}
use Rattle.crossbeam_queue.specs.Fifo as fifo
use Rattle.rules_code.specs.declared.code.CodeBody.{CodeBody}
use Rattle.conc_hands.specs.declared.queues.view.QueueView.{QueueView}
use Rattle.conc_hands.specs.queues.QueueRule.{weigh, SameTickets, shares_in, put_weight, taken_weight, view_with, untold, spent, Fits, BelongsTo, IsRuled, puts, takes, MetEmpty, puts_one, takes_one, IfEmpty, told, less_one, of_one, both_of}
use Rattle.conc_hands.proofs.queues_lemmas.Weights.{weigh_append, total_set, total_snoc, total_two, total_alone}

abbrev Each : (QueueView → Type 0) → List QueueView → Type 0
Each F views = (port : ℕ) (v : QueueView) → get_elem? views port ≡ some v → F v

each_set : (F : QueueView → Type 0) (views : List QueueView) (port : ℕ) (w : QueueView) → F w → ((j : ℕ) (u : QueueView) → j ≢ port → get_elem? views j ≡ some u → F u) → Each F (set views port w)
each_set F views port w mine others j u e = ⊎_elim (λ (x : (j ≡ port) × (w ≡ u)). subst F x.1 mine)
    (λ (x : (j ≢ port) × (get_elem? views j ≡ some u)). others j u x.0 x.1) (at_set views port j w u e)

each_more : (F : QueueView → Type 0) (views : List QueueView) (w : QueueView) → Each F views → F w → Each F (views ++ w ∷ [])
each_more F views w old new j u e = ⊎_elim (λ x. old j u x) (λ (is : w ≡ u). subst F is new) (at_snoc views w u j e)

only : (w v : QueueView) (id : ℕ) → get_elem? (w ∷ []) id ≡ some v → w ≡ v
only w v zero e = some-injective w v e
only w v (suc id) e = absurd (let h = e in cc h)

module _ {T : Type 0} where
  all_none : (P : T → Type 0) → All P []
  all_none P k d h = absurd (omega arith)

  all_one : (P : T → Type 0) (x : T) → P x → All P (x ∷ [])
  all_one P x p zero d h = p
  all_one P x p (suc k) d h = absurd (omega arith)

  first_all : (P : T → Type 0) (x : T) → All P (x ∷ []) → P x
  first_all P x a = a 0 x (omega arith)

spent_fits : (code : Option CodeBody) → Fits code spent
spent_fits code = ((λ some_share. absurd (omega arith)), λ _. refl)

module _ {T : Type 0} (number : T → ℕ) (belongs : T → CodeBody) where
  abbrev Rule : List T → List QueueView → Type 0
  Rule = IsRuled number belongs

  abbrev Of : Option CodeBody → T → Type 0
  Of = BelongsTo belongs

  pub begins : Rule [] (untold ∷ [])
  begins = record {
    code = None;
    whole = refl;
    each = λ port v at. subst (Fits None) (only untold v port at) ((λ _. refl), λ none. absurd (omega arith));
    of_code = all_none (Of None);
    weighed = λ h. refl;
  }

  pub may_put : (port : ℕ) (v : QueueView) (x : T) → 0 < v.shares → Some (belongs x) ≡ v.code → Pushes Rule port v (x ∷ []) (puts number v (x ∷ []))
  may_put port v x some_share mine items views r at = let w = view_with v.code v.shares (v.put ++ number x ∷ []) v.taken in let f = r.each port v at in (
    w,
    record {
      code = r.code;
      whole = (let t = total_set shares_in views port v w at in let p = r.whole in omega arith);
      each = each_set (Fits r.code) views port w (f.0, λ none. absurd (omega arith)) (λ j u _ e. r.each j u e);
      of_code = All-append (Of r.code) items (x ∷ []) r.of_code (all_one (Of r.code) x (mine ∙ f.0 some_share));
      weighed = λ h.
          let t = total_set (put_weight h) views port v w at in
          let t' = total_set (taken_weight h) views port v w at in
          let p = r.weighed h in
          let a = weigh_append h v.put (number x ∷ []) in
          let b = weigh_append h (map number items) (number x ∷ []) in
          let c = ap (weigh h) (map-append number items (x ∷ [])) in
          omega arith;
    },
    refl,
  )

  front : (code : Option CodeBody) (xs ys : List T) → All (Of code) (xs ++ ys) → All (Of code) xs
  front code xs ys h = subst (All (Of code)) (take-append_seam xs ys) (All-take (Of code) (length xs) (xs ++ ys) h)

  back : (code : Option CodeBody) (xs ys : List T) → All (Of code) (xs ++ ys) → All (Of code) ys
  back code xs ys h = subst (All (Of code)) (drop-append_seam xs ys) (All-drop (Of code) (length xs) (xs ++ ys) h)

  -- a view with all shares: all others are spent
  alone : (items : List T) (views : List QueueView) (port : ℕ) (v : QueueView) → Rule items views → get_elem? views port ≡ some v → v.shares ≡ 16 → (j : ℕ) (u : QueueView) → get_elem? views j ≡ some u → j ≢ port → u ≡ spent
  alone items views port v r at all j u e other = let t = total_two shares_in views port j v u at e other in let p = r.whole in (r.each j u e).1 (omega arith)

  -- so what it put is what it took and what is there
  pub adds_up : (items : List T) (views : List QueueView) (port : ℕ) (v : QueueView) → Rule items views → get_elem? views port ≡ some v → v.shares ≡ 16 → (h : ℕ → ℕ) → weigh h v.put ≡ weigh h v.taken + weigh h (map number items)
  adds_up items views port v r at all h =
      let p = total_alone (put_weight h) views port v at (λ j u e other. ap (put_weight h) (alone items views port v r at all j u e other)) in
      let t = total_alone (taken_weight h) views port v at (λ j u e other. ap (taken_weight h) (alone items views port v r at all j u e other)) in
      let q = r.weighed h in omega arith

  pub may_take : (port : ℕ) (v : QueueView) → 0 < v.shares → Takes Rule port v 1 (takes number belongs v)
  may_take port v some_share xs items views _ _ r at = let w = view_with v.code v.shares v.put (v.taken ++ map number xs) in let f = r.each port v at in
      let split : (h : ℕ → ℕ) → weigh h (map number (xs ++ items)) ≡ weigh h (map number xs) + weigh h (map number items) =
      (λ h. ap (weigh h) (map-append number xs items) ∙ weigh_append h (map number xs) (map number items)) in (
        w,
        record {
          code = r.code;
          whole = (let t = total_set shares_in views port v w at in let p = r.whole in omega arith);
          each = each_set (Fits r.code) views port w (f.0, λ none. absurd (omega arith)) (λ j u _ e. r.each j u e);
          of_code = back r.code xs items r.of_code;
          weighed = λ h.
              let t = total_set (put_weight h) views port v w at in
              let t' = total_set (taken_weight h) views port v w at in
              let p = r.weighed h in
              let a = weigh_append h v.taken (map number xs) in
              let b = split h in
              omega arith;
        },
        (
          refl,
          subst (λ code. All (Of code) xs) (sym (f.0 some_share)) (front r.code xs items r.of_code),
          λ all h. let p = adds_up (xs ++ items) views port v r at all h in let b = split h in omega arith,
        ),
      )

  pub finds_empty : (port : ℕ) (v : QueueView) → Finds Rule port v (MetEmpty number belongs v)
  finds_empty port v views r at = (port, views, r, at)

  pub finds_none : (port : ℕ) (v : QueueView) (most : ℕ) → most ≡ 0 → FindsFew Rule most port v (MetEmpty number belongs v)
  finds_none port v most z [] views few r at = (port, views, r, at)
  finds_none port v most z (x ∷ xs) views few r at = absurd (omega arith)

  -- nothing belongs to no code
  no_items : (items : List T) → All (Of None) items → items ≡ []
  no_items [] a = refl
  no_items (x ∷ xs) a = absurd (let e = a 0 x (omega arith) in cc e)

  pub may_tell : (port : ℕ) (s : Option CodeBody) → Forks Rule port untold (told s untold) spent
  may_tell port s items views r at = let l = told s untold in let vs = set views port l in
      let none : None ≡ r.code = (r.each port untold at).0 (omega arith) in
      let empty : items ≡ [] = no_items items (subst (λ code. All (Of code) items) (sym none) r.of_code) in record {
        code = s;
        whole = (let t = total_set shares_in views port untold l at in let t' = total_snoc shares_in vs spent in let p = r.whole in omega arith);
        each = each_more (Fits s) vs spent
            (each_set (Fits s) views port l ((λ _. refl), λ none. absurd (omega arith)) (λ j u other e. subst (Fits s) (sym (alone items views port untold r at refl j u e other)) (spent_fits s)))
            (spent_fits s);
        of_code = subst (All (Of s)) (sym empty) (all_none (Of s));
        weighed = λ h.
            let a = total_set (put_weight h) views port untold l at in
            let a' = total_snoc (put_weight h) vs spent in
            let b = total_set (taken_weight h) views port untold l at in
            let b' = total_snoc (taken_weight h) vs spent in
            let p = r.weighed h in
            omega arith;
      }

  -- a view becomes two, whose shares and lists are its own
  halves : (port : ℕ) (v l w : QueueView) → ((code : Option CodeBody) → Fits code v → Fits code l × Fits code w) → l.shares + w.shares ≡ v.shares
      → ((h : ℕ → ℕ) → weigh h l.put + weigh h w.put ≡ weigh h v.put) → ((h : ℕ → ℕ) → weigh h l.taken + weigh h w.taken ≡ weigh h v.taken) → Forks Rule port v l w
  halves port v l w fit shares put taken items views r at = let vs = set views port l in let f = fit r.code (r.each port v at) in record {
    code = r.code;
    whole = (let t = total_set shares_in views port v l at in let t' = total_snoc shares_in vs w in let p = r.whole in omega arith);
    each = each_more (Fits r.code) vs w (each_set (Fits r.code) views port l f.0 (λ j u _ e. r.each j u e)) f.1;
    of_code = r.of_code;
    weighed = λ h.
        let a = total_set (put_weight h) views port v l at in
        let a' = total_snoc (put_weight h) vs w in
        let b = total_set (taken_weight h) views port v l at in
        let b' = total_snoc (taken_weight h) vs w in
        let c = put h in
        let d = taken h in
        let p = r.weighed h in
        omega arith;
  }

  pub may_split : (port : ℕ) (v : QueueView) → 1 < v.shares → Forks Rule port v (less_one v) (of_one v)
  may_split port v more = halves port v (less_one v) (of_one v)
      (λ code f. (((λ _. f.0 (omega arith)), λ none. absurd (omega arith)), ((λ _. f.0 (omega arith)), λ none. absurd (omega arith))))
      (omega arith) (λ h. omega arith) (λ h. omega arith)

  pub may_move : (port : ℕ) (v : QueueView) → Forks Rule port v spent v
  may_move port v = halves port v spent v (λ code f. (spent_fits code, f)) (omega arith) (λ h. omega arith) (λ h. omega arith)

  pub may_come : Admits Rule spent
  may_come items views r = record {
    code = r.code;
    whole = (let t = total_snoc shares_in views spent in let p = r.whole in omega arith);
    each = each_more (Fits r.code) views spent r.each (spent_fits r.code);
    of_code = r.of_code;
    weighed = λ h. let a = total_snoc (put_weight h) views spent in let b = total_snoc (taken_weight h) views spent in let p = r.weighed h in omega arith;
  }

  pub may_join : (port : ℕ) (v : QueueView) (other : ℕ) (u : QueueView) → 0 < v.shares → Merges Rule port v other u (both_of v u) spent
  may_join port v other u some_share items views r at apart at' = let w = both_of v u in let vs = set views port w in let f = r.each port v at in record {
    code = r.code;
    whole = (let t = total_set shares_in views port v w at in let t' = total_set shares_in vs other u spent at' in let p = r.whole in omega arith);
    each = (let now : Each (Fits r.code) vs = each_set (Fits r.code) views port w ((λ _. f.0 some_share), λ none. absurd (omega arith)) (λ j y _ e. r.each j y e) in
        each_set (Fits r.code) vs other spent (spent_fits r.code) (λ j y _ e. now j y e));
    of_code = r.of_code;
    weighed = λ h.
        let a = total_set (put_weight h) views port v w at in
        let a' = total_set (put_weight h) vs other u spent at' in
        let b = total_set (taken_weight h) views port v w at in
        let b' = total_set (taken_weight h) vs other u spent at' in
        let c = weigh_append h v.put u.put in
        let d = weigh_append h v.taken u.taken in
        let p = r.weighed h in
        omega arith;
  }

  -- what a take answered, where one item left
  abbrev Told : Option T → QueueView → QueueView → Type 0
  Told o v w = MatchOption o ((w ≡ v) × MetEmpty number belongs v) (λ x. takes number belongs v (x ∷ []) w)

  pub one_taken : (o : Option T) (v w : QueueView) → Told o v w
      → MatchOption o ((w ≡ v) × MetEmpty number belongs v) (λ x. (Some (belongs x) ≡ v.code) × (w ≡ view_with v.code v.shares v.put (v.taken ++ number x ∷ [])))
  one_taken None v w t = t
  one_taken (Some x) v w t = (first_all (Of v.code) x t.1, t.0)

  pub none_alone : (o : Option T) (v w : QueueView) → Told o v w → v.shares ≡ 16 → IsNone o ↔ SameTickets v.put v.taken
  none_alone None v w t all = ((λ _ h. let p = adds_up [] t.1.1 t.1.0 v t.1.2 t.1.3 all h in omega arith), λ _. refl)
  none_alone (Some x) v w t all = ((λ no. absurd (cc no)), λ same. absurd (let p = t.2 all (λ _. 1) in let q = same (λ _. 1) in omega arith))

  pub may_put_one : (n port : ℕ) (v : QueueView) (x : T) → 0 < v.shares → Some (belongs x) ≡ v.code → fifo.Pushes Rule n port v x (puts_one number v x)
  may_put_one n port v x some_share mine items views _ r at = may_put port v x some_share mine items views r at

  pub may_take_one : (port : ℕ) (v : QueueView) → 0 < v.shares → fifo.Pops Rule port v (takes_one number belongs v)
  may_take_one port v some_share x items views r at = may_take port v some_share (x ∷ []) items views (omega arith) (omega arith) r at

  pub learns_empty : (port : ℕ) (v : QueueView) → fifo.Learns Rule port v (IfEmpty number belongs v)
  learns_empty port v items views r at none = (port, views, subst (λ l. Rule l views) none r, at)

  -- the same of a take from an inbox
  pub one_told : (o : Option T) (v w : QueueView) (More : T → Type 0) → MatchOption o ((w ≡ v) × IfEmpty number belongs v []) (λ x. takes_one number belongs v x w × More x) → Told o v w
  one_told None v w More t = (t.0, t.1 refl)
  one_told (Some x) v w More t = t.0

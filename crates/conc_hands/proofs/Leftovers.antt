-- Taking out what is left.
use Rattle.std.proofs.Common.{◌≡◌, ◌≢◌, ◌⊎◌, ◌↔◌, ℕ, suc, ◌+◌, ◌<◌, ◌≤◌, List, [], ◌∷◌, ◌++◌, length, map, set, slice_get, Option, Some, None, IsNone, MatchOption, append-nil, refl, ap, sym, ◌∙◌, subst, ⊎_elim, arith}
use mathlib.Core.Logic.{dite}
use native.Mathlib.Decide.{ℕ_discrete}
use Rattle.conc_hands.specs.declared.queues.view.QueueView.{QueueView}
use Rattle.conc_hands.specs.queues.QueueRule.{weigh, SameTickets, view_with}
use Rattle.conc_hands.specs.queues.Deques.{deque_view}
use Rattle.conc_hands.proofs.queues_lemmas.Weights.{weigh_append}
use Rattle.conc_hands.specs.declared.hand.JobsEnd.{JobsEnd}
use Rattle.conc_hands.specs.Ends.{stolen_by, end_pushed, end_taken}
use Rattle.conc_hands.specs.Gathering.{total_over, pushed_weight, taken_weight, AreWhole, AreEmptyBelow, IsEmptyAt, SameTotals, TotalsTaken, AreJobsIn}
use Rattle.conc_hands.proofs.Places.{got_after, got_set, within}
use Rattle.conc_hands.proofs.Totals.{total_set}

module _ {J : Type 0} where
  -- a hand whose deque alone has moved
  abbrev pub Moved : JobsEnd J → JobsEnd J → Type 0
  Moved e f = (f.passes ≡ e.passes) × ((deque_view f.deque).shares ≡ (deque_view e.deque).shares)

  pub whole_after : (es : List (JobsEnd J)) (at : ℕ) (e f : JobsEnd J) → slice_get es at ≡ Some e → Moved e f → AreWhole es → AreWhole (set es at f)
  whole_after es at e f here m all = λ i x a. ⊎_elim
      (λ t. subst (λ (y : JobsEnd J). ((deque_view y.deque).shares ≡ 16) × (stolen_by y.passes.items ≡ [])) t.1 (let h = all at e here in (m.1 ∙ h.0, ap (λ ps. stolen_by ps.items) m.0 ∙ h.1)))
      (λ t. all i x t.1) (got_after es at i f x a)

  pub below_after : (es : List (JobsEnd J)) (at : ℕ) (f : JobsEnd J) → AreEmptyBelow at es → AreEmptyBelow at (set es at f)
  below_after es at f below = λ i x small a. ⊎_elim (λ t. absurd (let n = t.0 in omega arith)) (λ t. below i x small t.1) (got_after es at i f x a)

  pub below_next : (es : List (JobsEnd J)) (at : ℕ) → AreEmptyBelow at es → IsEmptyAt at es → AreEmptyBelow (at + 1) es
  below_next es at below here = λ i x small a. dite (ℕ_discrete i at)
      (λ e. here x (subst (λ n. slice_get es n ≡ Some x) e a))
      (λ ne. below i x (omega (arith, ne)) a)

  -- how a pop changes the weights
  taken_plus : (e f : JobsEnd J) (ts : List ℕ) → f.passes ≡ e.passes → (deque_view f.deque).taken ≡ (deque_view e.deque).taken ++ ts → (h : ℕ → ℕ) → taken_weight h f ≡ taken_weight h e + weigh h ts
  taken_plus e f ts same more h =
      let a = ap (weigh h) more ∙ weigh_append h (deque_view e.deque).taken ts in
      let b = ap (λ ps. weigh h (stolen_by ps.items)) same in
      let x = weigh_append h (deque_view f.deque).taken (stolen_by f.passes.items) in
      let y = weigh_append h (deque_view e.deque).taken (stolen_by e.passes.items) in omega arith

  pub totals_after : (es : List (JobsEnd J)) (at : ℕ) (e f : JobsEnd J) (ts : List ℕ) → slice_get es at ≡ Some e → f.passes ≡ e.passes → (deque_view f.deque).put ≡ (deque_view e.deque).put → (deque_view f.deque).taken ≡ (deque_view e.deque).taken ++ ts
      → (h : ℕ → ℕ) → (total_over (pushed_weight h) (set es at f) ≡ total_over (pushed_weight h) es) × (total_over (taken_weight h) (set es at f) ≡ total_over (taken_weight h) es + weigh h ts)
  totals_after es at e f ts here same put more h =
      let p = total_set (pushed_weight h) es at e f here in let q = ap (weigh h) put in
      let r = total_set (taken_weight h) es at e f here in let s = taken_plus e f ts same more h in (omega arith, omega arith)

  pub empty_after : (es : List (JobsEnd J)) (at : ℕ) (f : JobsEnd J) → at < length es → stolen_by f.passes.items ≡ [] → SameTickets (deque_view f.deque).put (deque_view f.deque).taken → IsEmptyAt at (set es at f)
  empty_after es at f small none same = λ x a. let is : f ≡ x = cc (sym (got_set es at f small) ∙ a) in
      subst (λ (y : JobsEnd J). SameTickets (end_pushed y) (end_taken y)) is
      (λ h. let a = weigh_append h (deque_view f.deque).taken (stolen_by f.passes.items) in let b = ap (weigh h) none in let c = same h in omega arith)

  pub all_empty : (es : List (JobsEnd J)) → ((i : ℕ) (e : JobsEnd J) → slice_get es i ≡ Some e → SameTickets (end_pushed e) (end_taken e)) → AreJobsIn es []
  all_empty [] none h = refl
  all_empty (e ∷ es) none h = let a = none 0 e refl h in let b = all_empty es (λ i x at. none (suc i) x at) h in omega arith

module _ {J : Type 0} (number : J → ℕ) where
  -- what a pop told, in the words of all hands
  pub popped_from : (o : Option J) (code : J → Type 0) (Met : Type 0) (es : List (JobsEnd J)) (at : ℕ) (e f : JobsEnd J) → slice_get es at ≡ Some e → AreWhole es → f.passes ≡ e.passes
      → MatchOption o ((deque_view f.deque ≡ deque_view e.deque) × Met) (λ x. code x × (deque_view f.deque ≡ view_with (deque_view e.deque).code (deque_view e.deque).shares (deque_view e.deque).put ((deque_view e.deque).taken ++ number x ∷ [])))
      → ((deque_view e.deque).shares ≡ 16 → IsNone o ↔ SameTickets (deque_view e.deque).put (deque_view e.deque).taken)
      → MatchOption o (SameTotals es (set es at f) × IsEmptyAt at (set es at f)) (λ x. TotalsTaken (number x) es (set es at f))
  popped_from None code Met es at e f here all same told alone = let whole = all at e here in (
    (λ h. let t = totals_after es at e f [] here same (ap (λ (v : QueueView). v.put) told.0) (ap (λ (v : QueueView). v.taken) told.0 ∙ sym (append-nil (deque_view e.deque).taken)) h in (t.0, (let u = t.1 in omega arith))),
    empty_after es at f (within es at e here) (ap (λ ps. stolen_by ps.items) same ∙ whole.1)
        (subst (λ (v : QueueView). SameTickets v.put v.taken) (sym told.0) ((alone whole.0).0 refl)),
  )
  popped_from (Some x) code Met es at e f here all same told alone = λ h.
      let t = totals_after es at e f (number x ∷ []) here same (ap (λ (v : QueueView). v.put) told.1) (ap (λ (v : QueueView). v.taken) told.1) h in (t.0, (let u = t.1 in omega arith))

  pub shares_kept : (o : Option J) (code : J → Type 0) (Met : Type 0) (v w : QueueView) → MatchOption o ((w ≡ v) × Met) (λ x. code x × (w ≡ view_with v.code v.shares v.put (v.taken ++ number x ∷ []))) → w.shares ≡ v.shares
  shares_kept None code Met v w t = ap (λ (u : QueueView). u.shares) t.0
  shares_kept (Some x) code Met v w t = ap (λ (u : QueueView). u.shares) t.1

  -- the tickets left before, where one more was left
  pub one_more_left : (n : ℕ) (es fs gs : List (JobsEnd J)) → SameTotals es fs → TotalsTaken n fs gs → (left : List ℕ) → AreJobsIn gs left → AreJobsIn es (n ∷ left)
  one_more_left n es fs gs same taken left are h = let a = same h in let b = taken h in let c = are h in let x = a.0 in let y = a.1 in let z = b.0 in let w = b.1 in omega arith

  pub none_left : (es fs : List (JobsEnd J)) → SameTotals es fs → AreJobsIn fs [] → AreJobsIn es []
  none_left es fs same are h = let a = same h in let c = are h in let x = a.0 in let y = a.1 in omega arith

module _ {S : Type 0} (number : S → ℕ) where
  pub slice_taken : (o : Option S) (code : S → Type 0) (Met : Type 0) (v w : QueueView) → (IsNone o ↔ SameTickets v.put v.taken) → MatchOption o ((w ≡ v) × Met) (λ x. code x × (w ≡ view_with v.code v.shares v.put (v.taken ++ number x ∷ [])))
      → MatchOption o (SameTickets v.put (v.taken ++ [])) (λ x. (left : List ℕ) → SameTickets w.put (w.taken ++ left) → SameTickets v.put (v.taken ++ number x ∷ left))
  slice_taken None code Met v w alone t = subst (SameTickets v.put) (sym (append-nil v.taken)) (alone.0 refl)
  slice_taken (Some x) code Met v w alone t = λ left are h.
      let p = ap (λ (u : QueueView). weigh h u.put) t.1 in
      let q = ap (λ (u : QueueView). weigh h u.taken) t.1 in
      let a = are h in
      let b = weigh_append h w.taken left in
      let c = weigh_append h v.taken (number x ∷ []) in
      let d = weigh_append h v.taken (number x ∷ left) in omega arith

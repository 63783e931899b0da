-- Where each entry of a state was tried, the search has gone on from it.
use Rattle.std.proofs.Common.{◌≡◌, ◌≤◌, ◌<◌, ◌+◌, ℕ, zero, suc, Bool, true, false, cond, List, [], ◌∷◌, ◌++◌, length, map, get_or, Option, Some, None, slice_get, refl, sym, ◌∙◌, subst, arith, below_more}
use Rattle.std.proofs.lemmas.Option.{same_Some}
use Rattle.std.specs.List.{AllByRecursion, Contains}
use Rattle.plain_laws.proofs.Lists.{all_append}
use Rattle.hs_rules.specs.declared.entry.Entry.{Entry}
use Rattle.hs_rules.specs.declared.entry.Entry.TheVariants as entry
use Rattle.rules_code.specs.declared.code.CodeBody.{CodeBody}
use Rattle.rules_waiting.specs.Waiting.{Sleeper}
use Rattle.outcome_listing.specs.declared.bounds.Bounds.{Bounds}
use Rattle.slot_states.specs.SlotStates.{SlotThread, SlotState}
use Rattle.slot_states.specs.entering.Entering.{next}
use Rattle.local_steps.specs.Machine.{funs_of}
use Rattle.number_states.proofs.Changes.{got_read}
use Rattle.search_laws.specs.Shown.{Shown}
use Rattle.search_laws.specs.Going.{IsStill}
use Rattle.search_laws.specs.Found.{IsFollowed, IsGone, entries_at, entries_from, wake_of, where_main_goes, candidates}
use Rattle.search_laws.proofs.Candidates.{all_still, all_gone}
use Rattle.search_laws.proofs.Growing.{followed_more}
use Rattle.state_search.specs.declared.found.Found.{Found}
use Rattle.state_search.specs.Meaning.{states_of, edges_of}
use Rattle.state_search.specs.Working.{Going, Extends, IsTried, IsStillAt}
use Rattle.state_search.specs.EachTried.{MayAlways, IsLegalBelow, HasTried}
use Rattle.state_search.proofs.Trying.{extends_same, extends_on, here_on}
use Rattle.state_search.proofs.Staying.{going_next, kind_early, followed_tried}

-- what is read below the length is there
pub there_or : {A : Type 0} → (xs : List A) (i : ℕ) (d : A) → i < length xs → slice_get xs i ≡ Some (get_or xs i d)
there_or [] i d h = absurd (omega arith)
there_or (x ∷ xs) zero d h = refl
there_or (x ∷ xs) (suc i) d h = there_or xs i d (omega arith)

-- ---- candidates

always_by : (t : ℕ) (finished blocked : Bool) → AllByRecursion MayAlways (cond finished [] (cond blocked (entry.Receive t ∷ []) (entry.Local t 1 ∷ entry.Op t ∷ entry.Receive t ∷ entry.Finish t ∷ [])))
always_by t true blocked = tt
always_by t false true = (record { may = λ clock funs x. tt; plain = λ q. q }, tt)
always_by t false false =
    let local : MayAlways (entry.Local t 1) = record { may = λ clock funs x. refl; plain = λ q. q } in
    let op : MayAlways (entry.Op t) = record { may = λ clock funs x. tt; plain = λ q. q } in
    let receive : MayAlways (entry.Receive t) = record { may = λ clock funs x. tt; plain = λ q. q } in
    let finish : MayAlways (entry.Finish t) = record { may = λ clock funs x. tt; plain = λ q. q } in
    (local, (op, (receive, (finish, tt))))

always_from : (t : ℕ) (ths : List SlotThread) → AllByRecursion MayAlways (entries_from t ths)
always_from t [] = tt
always_from t (th ∷ ths) = all_append MayAlways (entries_at t th) (entries_from (suc t) ths) (always_by t th.finished th.blocked) (always_from (suc t) ths)

always_wakes : (rs : List Sleeper) → AllByRecursion MayAlways (map wake_of rs)
always_wakes [] = tt
always_wakes (r ∷ rs) = (record { may = λ clock funs x. tt; plain = λ q. q }, always_wakes rs)

always_unless : (finished : Bool) (es : List Entry) → AllByRecursion MayAlways es → AllByRecursion MayAlways (cond finished [] es)
always_unless true es all = tt
always_unless false es all = all

always_where : (main : Option SlotThread) (es : List Entry) → AllByRecursion MayAlways es → AllByRecursion MayAlways (where_main_goes main es)
always_where None es all = tt
always_where (Some main) es all = always_unless main.finished es all

pub always_candidates : (x : SlotState) → AllByRecursion MayAlways (candidates x)
always_candidates x =
    always_where (slice_get x.threads 0) ((entries_from 0 x.threads ++ map wake_of x.sleepers) ++ entry.Stranded ∷ [])
    (all_append MayAlways (entries_from 0 x.threads ++ map wake_of x.sleepers) (entry.Stranded ∷ [])
    (all_append MayAlways (entries_from 0 x.threads) (map wake_of x.sleepers) (always_from 0 x.threads) (always_wakes x.sleepers))
    (record { may = λ clock funs y. tt; plain = λ q. q }, tt))

-- ---- one more entry

module _ (bounds : Bounds) (b : CodeBody) (old : Found) (i : ℕ) (entries : List Entry) where
  pub none_tried : Going bounds b i old → HasTried bounds b old old i entries 0 false
  none_tried going = record { going = going; extends = extends_same b old; followed = λ c at k e below. absurd (omega (arith, below)); legals = λ c at k e below. absurd (omega (arith, below)) }

  module _ (f h : Found) (n : ℕ) (e : Entry) (is : slice_get entries n ≡ Some e) (x : Extends b f h) (going : Going bounds b i h) where
    kept : (c : Shown) (q : Entry) → IsFollowed (funs_of b) (edges_of f) i c q → IsFollowed (funs_of b) (edges_of h) i c q
    kept c q h = subst (λ es. IsFollowed (funs_of b) es i c q) (sym x.edges.1) (followed_more (funs_of b) (edges_of f) x.edges.0 i c q h)

    followed_next : (goes legal : Bool) → HasTried bounds b old f i entries n legal → IsTried bounds b h i e goes → (c : Shown) → slice_get (states_of b old) i ≡ Some c → (k : ℕ) → k < n + 1 → (q : Entry) → slice_get entries k ≡ Some q → h.gap ≡ None →
        IsFollowed (funs_of b) (edges_of h) i c q
    followed_next goes legal t tried c at =
        let here = here_on b f h i c x (here_on b old f i c t.extends at) in
        below_more (λ k. (q : Entry) → slice_get entries k ≡ Some q → h.gap ≡ None → IsFollowed (funs_of b) (edges_of h) i c q) n (λ k below q there none. kept c q (t.followed c at k q below there (x.gap none)))
        (λ q there none. subst (IsFollowed (funs_of b) (edges_of h) i c) (same_Some e q (sym is ∙ there)) (followed_tried bounds b h i e goes tried none c here))

    legal_next : (legal : Bool) (c : Shown) → IsLegalBelow b entries n c legal → next (funs_of b) c.slots e ≡ None → IsLegalBelow b entries (n + 1) c legal
    legal_next true c l none = l
    legal_next false c l none = λ k q below.
        below_more (λ m. (r : Entry) → slice_get entries m ≡ Some r → next (funs_of b) c.slots r ≡ None) n (λ m less r there. l m r less there)
        (λ r there. subst (λ u. next (funs_of b) c.slots u ≡ None) (same_Some e r (sym is ∙ there)) none) k below q

    pub tried_goes : (legal : Bool) → HasTried bounds b old f i entries n legal → IsTried bounds b h i e true → MayAlways e → HasTried bounds b old h i entries (n + 1) true
    tried_goes legal t tried always = record {
      going = going;
      extends = extends_on b old f h t.extends x;
      followed = λ c at k q below. followed_next true legal t tried c at k below q;
      legals = λ c at. let l = (tried c (here_on b f h i c x (here_on b old f i c t.extends at))).0 in (e, l.0, always.plain, l.1);
    }

    pub tried_not : (legal : Bool) → HasTried bounds b old f i entries n legal → IsTried bounds b h i e false → HasTried bounds b old h i entries (n + 1) legal
    tried_not legal t tried = record {
      going = going;
      extends = extends_on b old f h t.extends x;
      followed = λ c at k q below. followed_next false legal t tried c at k below q;
      legals = λ c at. legal_next legal c (t.legals c at) (tried c (here_on b f h i c x (here_on b old f i c t.extends at)));
    }

  -- ---- all of them

  module _ (f : Found) (n : ℕ) (c : Shown) (at : slice_get (states_of b old) i ≡ Some c) (all : entries ≡ candidates c.slots) (whole : length entries ≤ n) where
    place : (e : Entry) → Contains (candidates c.slots) e → (k : ℕ) × (k < n) × (slice_get entries k ≡ Some e)
    place e within =
        let w : Contains entries e = subst (λ es. Contains es e) (sym all) within in
        let low : w.0 < length entries = w.1 in
        (w.0, omega arith, got_read entries w.0 e low (sym w.2))

    -- none has a next state
    pub still_there : HasTried bounds b old f i entries n false → IsStillAt b f i
    still_there t d here =
        subst (λ (z : Shown). IsStill (funs_of b) z.slots) (same_Some c d (sym (here_on b old f i c t.extends at) ∙ here))
        (all_still (funs_of b) c.slots (λ e within. let p = place e within in t.legals c at p.0 e p.1 p.2))

    -- one has
    module _ (t : HasTried bounds b old f i entries n true) where
      not_still : IsStill (funs_of b) c.slots → ⊥
      not_still still = let l = t.legals c at in let q : ◌≡◌ {A = Option SlotState} None (Some l.1) = sym (still l.0 l.2) ∙ l.3 in cc q

      gone : f.gap ≡ None → IsGone bounds.clock (funs_of b) (edges_of f) i c
      gone none =
          all_gone bounds.clock (funs_of b) (edges_of f) i c (λ e within. let p = place e within in t.followed c at p.0 e p.1 p.2 none) (λ due may. absurd (not_still may.1))

      same : (d : Shown) → slice_get (states_of b f) i ≡ Some d → c ≡ d
      same d here = same_Some c d (sym (here_on b old f i c t.extends at) ∙ here)

      pub gone_on : Going bounds b (i + 1) f
      gone_on =
          going_next bounds b i f t.going (λ none d here. subst (IsGone bounds.clock (funs_of b) (edges_of f) i) (same d here) (gone none))
          (kind_early bounds b i f t.going (λ d here stuck. not_still (subst (λ (z : Shown). IsStill (funs_of b) z.slots) (sym (same d here)) stuck.0)))

-- Runs as ways: a Local of many steps is as many of one.
use Rattle.std.proofs.Common.{◌≡◌, ◌≤◌, ◌+◌, ℕ, zero, suc, List, [], ◌∷◌, length, slice_get, Option, Some, None, refl, sym, ap, ◌∙◌, arith}
use Rattle.hs_rules.specs.declared.entry.Entry.{Entry}
use Rattle.hs_rules.specs.declared.entry.Entry.TheVariants as entry
use Rattle.rules_meaning.specs.CoreMeaning.{Code}
use Rattle.hs_rules.specs.Terms.{Term}
use Rattle.hs_rules.specs.LocalRules.{local, locals, on_term}
use Rattle.hs_rules.specs.State.{State}
use Rattle.hs_rules.specs.Entries.{local_entry, next, Leads}
use Rattle.hs_rules.specs.Entries as entries
use Rattle.hs_rules.specs.Histories.{cost_of, steps_of}
use Rattle.hs_rules.specs.Runs.{Run}
use Rattle.hs_laws.proofs.Lists.{item_same}
use Rattle.outcome_laws.specs.timing.WithoutTime.{without_ticks}
use Rattle.outcome_laws.proofs.timing_lemmas.Passing.{thread_there}
use Rattle.outcome_laws.specs.Timings.{TickFits, RunWithTicks}
use Rattle.outcome_laws.proofs.Going.{count_more}
use Rattle.outcome_laws.specs.reduction.Paths.{IsTaken, Move, Counted, entries_of, Path, counted}
use Rattle.outcome_laws.proofs.reduction_lemmas.Ranks.{non_ticks}
use Rattle.outcome_laws.proofs.reduction_lemmas.Lists.{set_twice}
use Rattle.hs_laws.proofs.SameCases.{put_in}
use Rattle.outcome_laws.proofs.reduction_lemmas.Apart.{flags}
use Rattle.outcome_laws.proofs.reduction_lemmas.Own.{main_same, gone, local_next, Went, went}

-- one local rule, and the others_commute
cut : (code : Code) (t k : ℕ) (s m : State) → next code s (entry.Local t (suc (suc k))) ≡ Some m → (i : State) × (next code s (entry.Local t 1) ≡ Some i) × (next code i (entry.Local t (suc k)) ≡ Some m)
cut code t k s m e = let w = went code t (suc k) s m e in by w (local code w.thread.term.part w.thread.term.frames) refl w.rules
  where
    by : (w : Went code t (suc k) s m) (o : Option Term) → local code w.thread.term.part w.thread.term.frames ≡ o → on_term o (λ u. locals code (suc k) u) ≡ Some w.term →
        (i : State) × (next code s (entry.Local t 1) ≡ Some i) × (next code i (entry.Local t (suc k)) ≡ Some m)
    by w None q g = absurd (cc g)
    by w (Some x) q g =
        let i : State = put_in t (gone w.thread x) s in (
          i,
          local_next code t 0 s w.thread x w.main w.stands w.unfinished (ap (λ o. on_term o (λ u. locals code 0 u)) q),
          local_next code t k i (gone w.thread x) w.term (main_same s i (flags t w.thread (gone w.thread x) refl s 0 w.stands) w.main)
              (record { is = item_same s.threads t w.thread (gone w.thread x) w.stands.is; free = w.stands.free }) w.unfinished g
              ∙ ap Some (ap (λ ths. record s { threads = ths }) (set_twice s.threads t (gone w.thread x) (gone w.thread w.term)) ∙ sym w.leaves),
        )

none_stays : (code : Code) (t : ℕ) (s m : State) → next code s (entry.Local t 0) ≡ Some m → ⊥
none_stays code t s m e =
    let a = thread_there (slice_get s.threads 0) (λ main. entries.entered code s (entry.Local t 0)) m e in
    let b = thread_there (slice_get s.threads t) (λ z. local_entry code t 0 z s) m a.3 in
    cc b.3

module _ (code : Code) (T : State → ℕ → Type 0) where
  -- so many local rules, one by one, and then these moves
  cuts : (k t : ℕ) (s m z : State) (vs : List Move) → next code s (entry.Local t k) ≡ Some m → Path code T m vs z →
      (us : List Move) × Path code T s us z × (counted us ≡ k + counted vs) × (suc (non_ticks vs) ≤ non_ticks us)
  cuts zero t s m z vs e w = absurd (none_stays code t s m e)
  cuts (suc zero) t s m z vs e w = (Counted (entry.Local t 1) ∷ vs, (m, (e, tt), refl, w), omega arith, omega arith)
  cuts (suc (suc k)) t s m z vs e w =
      let c = cut code t k s m e in
      let r = cuts (suc k) t c.0 m z vs c.2 w in
      (Counted (entry.Local t 1) ∷ r.0, (c.0, (c.1, tt), refl, r.1), omega (arith, r.2), omega (arith, r.3))

  -- A run whose Ticks fit is a path of as many counted moves as it has steps, and of no fewer entries other than Ticks.
  abbrev pub PathOf : List Entry → State → State → Type 0
  PathOf es s z = (vs : List Move) × Path code T s vs z × (counted vs ≡ steps_of es) × (length (without_ticks es) ≤ non_ticks vs)

  pub path_of : (es : List Entry) (s z : State) → RunWithTicks code T s es z → PathOf es s z
  path_of [] s z r = ([], r, refl, omega arith)
  path_of (e ∷ es) s z r = by e r.1 r.2 (path_of es r.0 z r.3)
    where
      plain : (e : Entry) → cost_of e ≡ 1 → Leads code s e r.0 → IsTaken T s e → PathOf es r.0 z → PathOf (e ∷ es) s z
      plain e one l c k = (Counted e ∷ k.0, (r.0, l, c, k.1), omega (arith, k.2, one), omega (arith, k.3, count_more e es, count_more e (entries_of k.0)))

      by : (e : Entry) → Leads code s e r.0 → TickFits T s e → PathOf es r.0 z → PathOf (e ∷ es) s z
      by (entry.Local t n) l c k = let u = cuts n t s r.0 z k.0 l.0 k.1 in (u.0, u.1, u.2 ∙ ap (λ i. n + i) k.2, omega (arith, k.3, u.3))
      by (entry.Op t) l c k = plain (entry.Op t) refl l c k
      by (entry.Receive t) l c k = plain (entry.Receive t) refl l c k
      by (entry.Wake t) l c k = plain (entry.Wake t) refl l c k
      by (entry.Finish t) l c k = plain (entry.Finish t) refl l c k
      by (entry.Tick at) l c k = plain (entry.Tick at) refl l c k
      by entry.Stranded l c k = plain entry.Stranded refl l c k

  -- a path is a run
  pub run_of : (vs : List Move) (s z : State) → Path code T s vs z → Run code s (entries_of vs) z
  run_of [] s z w = w
  run_of (v ∷ vs) s z w = (w.0, w.1, run_of vs w.0 z w.3)

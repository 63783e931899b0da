-- A rank that falls along eager steps too bounds every path.
use Rattle.std.proofs.Common.{◌≡◌, ◌≤◌, ◌<◌, ◌+◌, ℕ, zero, suc, List, [], ◌∷◌, length, refl, subst, arith, inl, inr}
use Rattle.hs_rules.specs.declared.entry.Entry.{Entry}
use Rattle.hs_rules.specs.declared.entry.Entry.TheVariants as entry
use Rattle.rules_meaning.specs.CoreMeaning.{Code}
use Rattle.hs_rules.specs.State.{State}
use Rattle.hs_rules.specs.Entries.{Leads}
use Rattle.hs_rules.specs.Entries as entries
use Rattle.outcome_laws.specs.timing.WithoutTime.{without_ticks}
use Rattle.outcome_laws.proofs.Going.{count_more}
use Rattle.outcome_laws.specs.reduction.EagerRules.{EagerStep, EagerSteps}
use Rattle.outcome_laws.specs.reduction.Paths.{IsStable, Move, entry_of, entries_of, Path, MainRuns, RanksFall}
use Rattle.outcome_laws.proofs.reduction_lemmas.Own.{main_runs}
use Rattle.outcome_laws.proofs.reduction_lemmas.Going.{Met, Joins, met, taken_too, one_of, uncounted_moves, uncounted_moves_lead}

-- ---- how many entries of these moves are no Ticks

abbrev pub non_ticks : List Move → ℕ
non_ticks vs = length (without_ticks (entries_of vs))

pub at_most_one : (e : Entry) → length (without_ticks (e ∷ [])) ≤ 1
at_most_one (entry.Tick at) = omega arith
at_most_one _ = omega arith

more_moves : (ts : List ℕ) (vs : List Move) → non_ticks vs ≤ non_ticks (uncounted_moves ts vs)
more_moves [] vs = omega arith
more_moves (t ∷ ts) vs = omega (arith, more_moves ts vs)

module _ (code : Code) (T : State → ℕ → Type 0) (stable : IsStable code T) where
  -- ---- a path goes on after eager steps, and is shorter by no more than these

  -- from this state there is a path of no fewer than so many entries other than Ticks, less these
  abbrev Left : State → ℕ → ℕ → Type 0
  Left u k n = (us : List Move) × (w : State) × Path code T u us w × (n ≤ k + non_ticks us)

  shorter : (vs : List Move) (s u z : State) → EagerStep code s u → Path code T s vs z → Left u 1 (non_ticks vs)
  shorter [] s u z c w = ([], u, refl, omega arith)
  shorter (v ∷ vs) s u z c w = by (λ x q. shorter vs w.0 x z q w.3) (met code s u (entry_of v) w.0 c (one_of code T stable s (entry_of v) w.2) w.1)
    where
      count : (us : List Move) → non_ticks (v ∷ us) ≡ length (without_ticks (entry_of v ∷ [])) + non_ticks us
      count us = count_more (entry_of v) (entries_of us)

      -- main has finished, so nothing more comes
      over : (ws : List Move) (x : State) → ¬ MainRuns w.0 → Leads code u (entry_of v) x → Path code T w.0 ws z → Left u 1 (non_ticks (v ∷ ws))
      over [] x n l k = (v ∷ [], x, (x, l, taken_too code T stable s u (entry_of v) c w.2, refl), omega arith)
      over (y ∷ ys) x n l k = absurd (n (main_runs w.0 (λ main. entries.entered code w.0 (entry_of y)) k.0 k.1.0))

      joined : ((x : State) → EagerStep code w.0 x → Left x 1 (non_ticks vs)) → (x : State) → Leads code u (entry_of v) x → Joins code (entry_of v) w.0 x → Left u 1 (non_ticks (v ∷ vs))
      joined ih x l (inl q) =
          let k = ih x q in
          (v ∷ k.0, k.1, (x, l, taken_too code T stable s u (entry_of v) c w.2, k.2), omega (arith, k.3, count vs, count k.0))
      joined ih x l (inr (inl q)) = over vs x q.0 l w.3
      joined ih x l (inr (inr q)) = (
        v ∷ uncounted_moves q.1 vs,
        z,
        (x, l, taken_too code T stable s u (entry_of v) c w.2, uncounted_moves_lead code T stable q.1 vs x w.0 z q.3 w.3),
        omega (arith, count vs, count (uncounted_moves q.1 vs), more_moves q.1 vs),
      )

      by : ((x : State) → EagerStep code w.0 x → Left x 1 (non_ticks vs)) → Met code (entry_of v) u w.0 → Left u 1 (non_ticks (v ∷ vs))
      by ih (inl q) = (vs, z, subst (λ r. Path code T r vs z) q w.3, omega (arith, count vs, at_most_one (entry_of v)))
      by ih (inr q) = joined ih q.0 q.1 q.2

  shorter_by : (k : ℕ) (s r z : State) (vs : List Move) → EagerSteps code k s r → Path code T s vs z → Left r k (non_ticks vs)
  shorter_by zero s r z vs c w = (vs, z, subst (λ q. Path code T q vs z) c w, omega arith)
  shorter_by (suc k) s r z vs c w =
      let a = shorter vs s c.0 z c.1 w in
      let b = shorter_by k c.0 r a.1 a.0 c.2 a.2 in
      (b.0, b.1, b.2, omega (arith, a.3, b.3))

  -- ---- the rank

  module _ (R : State → ℕ → Type 0) (fall : RanksFall code T R) where
    abbrev Bounded : ℕ → Type 0
    Bounded n = (vs : List Move) (r z : State) (i : ℕ) → i < n → R r i → Path code T r vs z → non_ticks vs ≤ i

    inner : (n : ℕ) → Bounded n → Bounded (suc n)
    inner n ih [] r z i a h w = omega arith
    inner n ih (v ∷ vs) r z i a h w =
        let f = fall r i h (entry_of v) w.0 w.2 w.1 in by (λ q m lt j p. inner n ih vs q z m lt j p) f.0 f.1 f.2 f.3 f.4 (length (without_ticks (entry_of v ∷ []))) refl f.5
      where
        count : non_ticks (v ∷ vs) ≡ length (without_ticks (entry_of v ∷ [])) + non_ticks vs
        count = count_more (entry_of v) (entries_of vs)

        -- the rank is lower
        lower : (q : State) (k m c : ℕ) → EagerSteps code k w.0 q → R q m → c ≡ length (without_ticks (entry_of v ∷ [])) → c + (k + m) ≤ i → m < n → non_ticks (v ∷ vs) ≤ i
        lower q k m c steps j e le lt =
            let l = shorter_by k w.0 q z vs steps w.3 in
            omega (arith, count, e, le, l.3, ih l.0 q l.1 m lt j l.2)

        by : ((q : State) (m : ℕ) → m < suc n → R q m → Path code T q vs z → non_ticks vs ≤ m) → (q : State) (k m : ℕ) → EagerSteps code k w.0 q → R q m → (c : ℕ) → c ≡ length (without_ticks (entry_of v ∷ [])) → c + (k + m) ≤ i → non_ticks (v ∷ vs) ≤ i
        by tail q zero m steps j zero e le =
            omega (arith, count, e, le, tail q m (omega (arith, a, le)) j (subst (λ x. Path code T x vs z) steps w.3))
        by tail q zero m steps j (suc c) e le = lower q zero m (suc c) steps j e le (omega (arith, a, le))
        by tail q (suc k) m steps j c e le = lower q (suc k) m c steps j e le (omega (arith, a, le))

    upto : (n : ℕ) → Bounded n
    upto zero vs r z i a h w = absurd (omega (arith, a))
    upto (suc n) vs r z i a h w = inner n (upto n) vs r z i a h w

    pub path_bounded : (k m : ℕ) (s r z : State) (vs : List Move) → EagerSteps code k s r → R r m → Path code T s vs z → non_ticks vs ≤ k + m
    path_bounded k m s r z vs c i w =
        let l = shorter_by k s r z vs c w in
        omega (arith, l.3, upto (suc m) l.0 r l.1 m (omega arith) i l.2)

-- What runs come to, and how long they go on, over sets of states that are closed.
use Rattle.std.proofs.Common.{◌≡◌, ◌≤◌, ◌+◌, ℕ, List, true, false, length, Some, refl, sym, ◌∙◌, subst, arith, inl, inr}
use Rattle.hs_base.specs.declared.clock_choice.ClockChoice.{ClockChoice}
use Rattle.hs_base.specs.declared.clock_choice.ClockChoice.TheVariants.{Real, Virtual}
use Rattle.hs_rules.specs.declared.entry.Entry.{Entry}
use Rattle.hs_rules.specs.declared.entry.Entry.TheVariants as entry
use Rattle.rules_expansion.specs.trees.Programs.{Fn}
use Rattle.rules_meaning.specs.CoreMeaning.{Code, code_of}
use Rattle.hs_rules.specs.State.{State}
use Rattle.hs_rules.specs.Endings.{IsDone, IsUncaught, ended_by, result_of}
use Rattle.hs_rules.specs.Runs.{first_of}
use Rattle.outcome_laws.specs.timing.WithoutTime.{without_ticks}
use Rattle.outcome_laws.proofs.timing_lemmas.Passing.{same_item}
use Rattle.outcome_laws.specs.Timings.{MayTick, RunWithTicks, IsEndless}
use Rattle.outcome_laws.specs.Outcomes.{Final, Done, Uncaught, Deadlock, Outcome, EndsBy, ShowsOutcome, Reaches, IsOutcomeOf}
use Rattle.outcome_laws.proofs.Going.{bound_ends}
use Rattle.outcome_laws.specs.reduction.EagerRules.{EagerSteps}
use Rattle.outcome_laws.specs.reduction.Paths.{IsStable, HasEnded, EndsLike, IsClosed, HasEndingLike, RankFalls, RanksFall}
use Rattle.outcome_laws.proofs.reduction_lemmas.Meeting.{alike_print, alike_done, alike_uncaught, alike_deadlock}
use Rattle.outcome_laws.proofs.reduction_lemmas.Going.{each_end}
use Rattle.outcome_laws.proofs.reduction_lemmas.Ranks.{path_bounded}
use Rattle.outcome_laws.proofs.reduction_lemmas.Cutting.{path_of}

-- ---- Ticks

pub clock_stable : (clock : ClockChoice) (code : Code) → IsStable code (MayTick clock code)
clock_stable Real code s u c at h = tt
clock_stable Virtual code s u (inl c) at h = absurd (h.0 (entry.Local c.0 1) (λ n. n) (u, c.1.leads))
clock_stable Virtual code s u (inr c) at h = absurd (h.0 (entry.Finish c.0) (λ n. n) (u, c.1.leads))

-- ---- outcomes

done_before : (s u : State) → EndsLike s u → IsDone u → IsDone s
done_before s u (inl e) d = subst IsDone (sym e) d
done_before s u (inr l) d = subst (λ o. ended_by (result_of o) true) (sym l.1.main) d

uncaught_before : (s u : State) → EndsLike s u → IsUncaught u → IsUncaught s
uncaught_before s u (inl e) d = subst IsUncaught (sym e) d
uncaught_before s u (inr l) d = subst (λ o. ended_by (result_of o) false) (sym l.1.main) d

ends_by : (f : Final) (code : Code) (s u : State) → EndsLike s u → EndsBy f code s → EndsBy f code u
ends_by Done code s u l h = alike_done s u l h
ends_by Uncaught code s u l h = (λ d. h.0 (done_before s u l d), alike_uncaught s u l h.1)
ends_by Deadlock code s u l h = (λ d. h.0 (done_before s u l d), λ d. h.1 (uncaught_before s u l d), alike_deadlock code s u l h.2)

pub alike_outcome : (code : Code) (s u : State) (o : Outcome) → EndsLike s u → ShowsOutcome code s o → ShowsOutcome code u o
alike_outcome code s u o l h = let p = alike_print s u l in (sym p.0 ∙ h.0, sym p.1 ∙ h.1, ends_by o.end code s u l h.2)

has_ended : (f : Final) (code : Code) (s : State) → EndsBy f code s → HasEnded code s
has_ended Done code s h = inl h
has_ended Uncaught code s h = inr (inl h.1)
has_ended Deadlock code s h = inr (inr h.2)

-- ---- runs

module _ (code : Code) (T : State → ℕ → Type 0) (stable : IsStable code T) (V : State → Type 0) where
  pub each_ending : IsClosed code T V → (n : ℕ) (s r : State) → EagerSteps code n s r → V r → (es : List Entry) (z : State) → RunWithTicks code T s es z → HasEnded code z → HasEndingLike V z
  each_ending closed n s r c i es z run d = let w = path_of code T es s z run in each_end code T stable V closed n s r w.0 z c i d w.1

-- ranks that fall bound each run
pub ranks_bound : (code : Code) (T : State → ℕ → Type 0) → IsStable code T → (R : State → ℕ → Type 0) → RanksFall code T R → (k m : ℕ) (s r : State) → EagerSteps code k s r → R r m → (es : List Entry) (z : State) → RunWithTicks code T s es z → length (without_ticks es) ≤ k + m
ranks_bound code T stable R fall k m s r c i es z run =
    let w = path_of code T es s z run in
    omega (arith, w.3, path_bounded code T stable R fall k m s r z w.0 c i w.1)

-- a rank of the states of a set is such a relation
ranked : (code : Code) (T : State → ℕ → Type 0) (V : State → Type 0) (rank : State → ℕ) → RankFalls code T V rank → RanksFall code T (λ s n. V s × (rank s ≡ n))
ranked code T V rank falls s n h e u t l = let f = falls s h.0 e u t l in (f.0, f.1, rank f.0, f.2, (f.3, refl), omega (arith, f.4, h.1))

pub run_bounded : (code : Code) (T : State → ℕ → Type 0) → IsStable code T → (V : State → Type 0) (rank : State → ℕ) → RankFalls code T V rank → (k : ℕ) (s r : State) → EagerSteps code k s r → V r → (es : List Entry) (z : State) → RunWithTicks code T s es z → length (without_ticks es) ≤ k + rank r
run_bounded code T stable V rank falls k s r c i es z run = ranks_bound code T stable (λ q n. V q × (rank q ≡ n)) (ranked code T V rank falls) k (rank r) s r c (i, refl) es z run

pub each_outcome : (clock : ClockChoice) (code : Code) (V : State → Type 0) → IsClosed code (MayTick clock code) V → (n : ℕ) (s r : State) → EagerSteps code n s r → V r → (o : Outcome) → Reaches clock code s o →
    (w : State) × V w × ShowsOutcome code w o
each_outcome clock code V closed n s r c i o h =
    let e = each_ending code (MayTick clock code) (clock_stable clock code) V closed n s r c i h.0 h.1 h.2 (has_ended o.end code h.1 h.3.2) in
    (e.0, e.1, alike_outcome code h.1 e.0 o e.2 h.3)

-- ---- of a script

module _ (clock : ClockChoice) (ds : List Fn) (V : State → Type 0) where
  pub script_outcome : IsClosed (code_of ds) (MayTick clock (code_of ds)) V → (n : ℕ) (s r : State) → first_of ds ≡ Some s → EagerSteps (code_of ds) n s r → V r → (o : Outcome) → IsOutcomeOf clock ds o →
      (w : State) × V w × ShowsOutcome (code_of ds) w o
  script_outcome closed n s r f c i o h = each_outcome clock (code_of ds) V closed n s r c i o (subst (λ q. Reaches clock (code_of ds) q o) (same_item (sym h.1 ∙ f)) h.2)

pub script_bounded : (clock : ClockChoice) (ds : List Fn) (R : State → ℕ → Type 0) → RanksFall (code_of ds) (MayTick clock (code_of ds)) R → (k m : ℕ) (s r : State) → first_of ds ≡ Some s → EagerSteps (code_of ds) k s r → R r m → ¬ IsEndless clock ds
script_bounded clock ds R fall k m s r f c i =
    bound_ends clock ds (k + m) (λ q u es g run.
    ranks_bound (code_of ds) (MayTick clock (code_of ds)) (clock_stable clock (code_of ds)) R fall k m s r c i es u
    (subst (λ z. RunWithTicks (code_of ds) (MayTick clock (code_of ds)) z es u) (same_item (sym g ∙ f)) run))

pub script_ends : (clock : ClockChoice) (ds : List Fn) (V : State → Type 0) (rank : State → ℕ) → RankFalls (code_of ds) (MayTick clock (code_of ds)) V rank → (k : ℕ) (s r : State) → first_of ds ≡ Some s → EagerSteps (code_of ds) k s r → V r → ¬ IsEndless clock ds
script_ends clock ds V rank falls k s r f c i =
    script_bounded clock ds (λ q n. V q × (rank q ≡ n)) (ranked (code_of ds) (MayTick clock (code_of ds)) V rank falls) k (rank r) s r f c (i, refl)

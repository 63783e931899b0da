-- A run that comes back goes on for ever, and a rank bounds every run.
use Rattle.std.proofs.Common.{◌≡◌, ◌≤◌, ◌<◌, ◌+◌, ℕ, Bool, true, zero, suc, List, [], ◌∷◌, ◌++◌, length, Some, refl, sym, subst, arith, length-append}
use Rattle.hs_base.specs.declared.clock_choice.ClockChoice.{ClockChoice}
use Rattle.hs_base.specs.declared.clock_choice.ClockChoice.TheVariants.{Real}
use Rattle.hs_rules.specs.declared.entry.Entry.{Entry}
use Rattle.hs_rules.specs.declared.entry.Entry.TheVariants as entry
use Rattle.rules_expansion.specs.trees.Programs.{Fn}
use Rattle.rules_meaning.specs.CoreMeaning.{Code, code_of}
use Rattle.hs_rules.specs.State.{State}
use Rattle.hs_rules.specs.Entries.{Leads}
use Rattle.hs_rules.specs.Runs.{Run, first_of, IsRun}
use Rattle.outcome_laws.specs.timing.WithoutTime.{timeless, LeadsTimeless, TimelessRun, NeverReadsClock, without_ticks}
use Rattle.outcome_laws.proofs.timing_lemmas.Timing.{run_forth, run_back}
use Rattle.outcome_laws.specs.Timings.{MayTick, TickFits, RunWithTicks, TimedRun, RunsPast, IsEndlessFrom, IsEndless}
use Rattle.outcome_laws.proofs.Timed.{real_run, run_of_timed, timed_join}

-- ---- so many times, one after another

abbrev times : ℕ → List Entry → List Entry
times zero es = []
times (suc n) es = es ++ times n es

long : (n : ℕ) (e : Entry) (es : List Entry) → n ≤ length (times n (e ∷ es))
long zero e es = omega arith
long (suc n) e es = omega (arith, long n e es, length-append (e ∷ es) (times n (e ∷ es)))

-- how many entries of a list are no Ticks
pub count_more : (e : Entry) (es : List Entry) → length (without_ticks (e ∷ es)) ≡ length (without_ticks (e ∷ [])) + length (without_ticks es)
count_more (entry.Tick at) es = omega arith
count_more _ es = omega arith

count_both : (es fs : List Entry) → length (without_ticks (es ++ fs)) ≡ length (without_ticks es) + length (without_ticks fs)
count_both [] fs = omega arith
count_both (e ∷ es) fs = omega (arith, count_more e (es ++ fs), count_more e es, count_both es fs)

long_timed : (n : ℕ) (es : List Entry) → 0 < length (without_ticks es) → n ≤ length (without_ticks (times n es))
long_timed zero es h = omega arith
long_timed (suc n) es h = omega (arith, h, long_timed n es h, count_both es (times n es))

module _ (code : Code) where
  -- ---- timeless runs

  timeless_join : (s m u : State) (es fs : List Entry) → TimelessRun code s es m → TimelessRun code m fs u → TimelessRun code s (es ++ fs) u
  timeless_join s m u [] fs h k = subst (λ q. TimelessRun code q fs u) (sym h) k
  timeless_join s m u (e ∷ es) fs h k = (h.0, h.1, timeless_join h.0 m u es fs h.2 k)

  timeless_round : (n : ℕ) (w : State) (es : List Entry) → TimelessRun code w es w → TimelessRun code w (times n es) w
  timeless_round zero w es h = refl
  timeless_round (suc n) w es h = timeless_join w w w es (times n es) h (timeless_round n w es h)

  pub goes_on : (s w : State) (es round : List Entry) (e : Entry) → TimelessRun code (timeless s) es w → TimelessRun code w (e ∷ round) w → (n : ℕ) → RunsPast Real code s n
  goes_on s w es round e h k n =
      let b = run_back code s w (es ++ times (suc n) (e ∷ round)) (timeless_join (timeless s) w w es (times (suc n) (e ∷ round)) h (timeless_round (suc n) w (e ∷ round) k)) in
      (b.0, b.1, real_run code b.0 s b.1 b.2, subst (λ ds. n < length ds) (sym b.4) (omega (arith, long (suc n) e round, length-append es (times (suc n) (e ∷ round)))))

  module _ (visited : State → Bool) (rank : State → ℕ) (falls : (r q : State) (e : Entry) → visited r ≡ true → LeadsTimeless code r e q → (visited q ≡ true) × (rank q < rank r)) where
    timeless_bounded : (r u : State) (es : List Entry) → visited r ≡ true → TimelessRun code r es u → length es ≤ rank r
    timeless_bounded r u [] v h = omega arith
    timeless_bounded r u (e ∷ es) v h = let f = falls r h.0 e v h.1 in omega (arith, f.1, timeless_bounded h.0 u es f.0 h.2)

  pub bounded : (s : State) (visited : State → Bool) (rank : State → ℕ) → NeverReadsClock code (timeless s) → visited (timeless s) ≡ true →
      ((r q : State) (e : Entry) → visited r ≡ true → LeadsTimeless code r e q → (visited q ≡ true) × (rank q < rank r)) → (u : State) (es : List Entry) → Run code s es u → length (without_ticks es) ≤ rank (timeless s)
  bounded s visited rank n v falls u es h = timeless_bounded visited rank falls (timeless s) (timeless u) (without_ticks es) v (run_forth code s u es n h)

  -- ---- runs of a timing

  module _ (T : State → ℕ → Type 0) where
    timed_round : (n : ℕ) (w : State) (es : List Entry) → RunWithTicks code T w es w → RunWithTicks code T w (times n es) w
    timed_round zero w es h = refl
    timed_round (suc n) w es h = timed_join code T es (times n es) w w w h (timed_round n w es h)

    module _ (visited : State → Bool) (rank : State → ℕ) (falls : (r q : State) (e : Entry) → visited r ≡ true → Leads code r e q → TickFits T r e → (visited q ≡ true) × (length (without_ticks (e ∷ [])) + rank q ≤ rank r)) where
      pub timed_bounded : (r u : State) (es : List Entry) → visited r ≡ true → RunWithTicks code T r es u → length (without_ticks es) ≤ rank r
      timed_bounded r u [] v h = omega arith
      timed_bounded r u (e ∷ es) v h = let f = falls r h.0 e v h.1 h.2 in omega (arith, f.1, timed_bounded h.0 u es f.0 h.3, count_more e es)

  pub timed_goes_on : (clock : ClockChoice) (s w : State) (es round : List Entry) → TimedRun clock code s es w → TimedRun clock code w round w → 0 < length (without_ticks round) → IsEndlessFrom clock code s
  timed_goes_on clock s w es round h k some n = (
    es ++ times (suc n) round,
    w,
    timed_join code (MayTick clock code) es (times (suc n) round) s w w h (timed_round (MayTick clock code) (suc n) w round k),
    omega (arith, long_timed (suc n) round some, count_both es (times (suc n) round)),
  )

-- ---- of a script

pub endless_histories : (clock : ClockChoice) (ds : List Fn) → IsEndless clock ds → (n : ℕ) → (es : List Entry) × (u : State) × IsRun ds es u × (n < length (without_ticks es))
endless_histories clock ds h n = let r = h.2 n in (r.0, r.1, (h.0, h.1, run_of_timed (code_of ds) (MayTick clock (code_of ds)) r.0 h.0 r.1 r.2), r.3)

pub bound_ends : (clock : ClockChoice) (ds : List Fn) (m : ℕ) → ((s u : State) (es : List Entry) → first_of ds ≡ Some s → TimedRun clock (code_of ds) s es u → length (without_ticks es) ≤ m) → ¬ IsEndless clock ds
bound_ends clock ds m b h = let r = h.2 m in let le : length (without_ticks r.0) ≤ m = b h.0 r.1 r.0 h.1 r.2 in absurd (omega (arith, le, r.3))

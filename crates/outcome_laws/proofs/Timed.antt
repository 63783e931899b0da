-- Runs of a timing are runs.
use Rattle.std.proofs.Common.{ℕ, List, [], ◌∷◌, ◌++◌, sym, subst}
use Rattle.hs_base.specs.declared.clock_choice.ClockChoice.TheVariants.{Real}
use Rattle.hs_rules.specs.declared.entry.Entry.{Entry}
use Rattle.hs_rules.specs.declared.entry.Entry.TheVariants as entry
use Rattle.rules_meaning.specs.CoreMeaning.{Code}
use Rattle.hs_rules.specs.State.{State}
use Rattle.hs_rules.specs.Runs.{Run}
use Rattle.outcome_laws.specs.Timings.{MayTick, TickFits, RunWithTicks, TimedRun}

real_fits : (code : Code) (s : State) (e : Entry) → TickFits (MayTick Real code) s e
real_fits code s (entry.Tick at) = tt
real_fits code s _ = tt

pub real_run : (code : Code) (es : List Entry) (s u : State) → Run code s es u → TimedRun Real code s es u
real_run code [] s u h = h
real_run code (e ∷ es) s u h = (h.0, h.1, real_fits code s e, real_run code es h.0 u h.2)

module _ (code : Code) (T : State → ℕ → Type 0) where
  pub run_of_timed : (es : List Entry) (s u : State) → RunWithTicks code T s es u → Run code s es u
  run_of_timed [] s u h = h
  run_of_timed (e ∷ es) s u h = (h.0, h.1, run_of_timed es h.0 u h.3)

  pub timed_join : (es fs : List Entry) (s m u : State) → RunWithTicks code T s es m → RunWithTicks code T m fs u → RunWithTicks code T s (es ++ fs) u
  timed_join [] fs s m u h k = subst (λ q. RunWithTicks code T q fs u) (sym h) k
  timed_join (e ∷ es) fs s m u h k = (h.0, h.1, h.2, timed_join es fs h.0 m u h.3 k)

-- What Ticks are kept to, as a history and the count of early waits go on.
use Rattle.std.proofs.Common.{◌≡◌, ℕ, suc, ◌+◌, ◌-◌, ◌^◌, ◌≤◌, min, List, [], ◌∷◌, ◌++◌, Some, sym, subst, arith, ◌⊎◌, inl, inr, ⊎_elim}
use Rattle.hs_rules.specs.declared.entry.Entry.{Entry}
use Rattle.hs_rules.specs.declared.entry.Entry.TheVariants as entry
use Rattle.rules_expansion.specs.trees.Programs.{Fn}
use Rattle.rules_meaning.specs.CoreMeaning.{code_of}
use Rattle.hs_rules.specs.State.{State}
use Rattle.hs_rules.specs.Endings.{IsTick}
use Rattle.hs_rules.specs.Runs.{after}
use Rattle.hs_laws.specs.ClockLaw.{TickStands, IsPunctual}
use Rattle.hs_laws.proofs.Ticking.{clock_begins, clock_works, clock_ticks, clock_ticks_early}
use Rattle.hs_io.specs.Causes.{Rose}
use Rattle.hs_io.specs.Outside.{Waits}
use Rattle.run_course.specs.clocked.Clocks.{TicksKept}

-- ---- counts, where the greatest one is this

still_few : (top lent early before now : ℕ) → before ≤ now → (top ≤ before) ⊎ (lent + early ≤ before) → (top ≤ now) ⊎ (lent + early ≤ now)
still_few top lent early before now le few = ⊎_elim (λ h. inl (omega (arith, le, h))) (λ h. inr (omega (arith, le, h))) few

one_more : (top lent early before now : ℕ) → before ≤ now → min (before + 1) top ≤ now → (top ≤ before) ⊎ (lent + early ≤ before) → (top ≤ now) ⊎ (lent + suc early ≤ now)
one_more top lent early before now le rose few = grind arith

-- a wait, and a reading after it
pub read_after : (due last waited at before now then_ : ℕ) → Waits due last waited before now → waited ≤ at → then_ ≡ now → Waits due last at before then_
read_after due last waited at before now then_ h le e = record {
  forward = omega (arith, h.forward, le);
  counted = omega (arith, h.counted, e);
  reached = ⊎_elim (λ k. inl (omega (arith, k, le))) (λ k. inr (subst (Rose before) (sym e) k)) h.reached;
}

-- ---- Ticks

module _ (ds : List Fn) where
  -- where no entry stands
  pub ticks_begin : (lent : ℕ) → TicksKept ds [] lent lent
  ticks_begin lent = record { early = 0; kept = clock_begins ds; few = inr (omega arith) }

  module _ (es : List Entry) (lent before now : ℕ) (le : before ≤ now) (h : TicksKept ds es lent before) where
    -- where only the count goes on
    pub ticks_later : TicksKept ds es lent now
    ticks_later = record { early = h.early; kept = h.kept; few = still_few (2 ^ 64 - 1) lent h.early before now le h.few }

    -- after an entry that isn't a Tick
    pub ticks_worked : (e : Entry) → ¬ IsTick e → TicksKept ds (es ++ e ∷ []) lent now
    ticks_worked e other = record { early = h.early; kept = clock_works ds es e h.early other h.kept; few = still_few (2 ^ 64 - 1) lent h.early before now le h.few }

    module _ (at : ℕ) (s : State) (is : after ds es ≡ Some s) (stands : TickStands (code_of ds) es s at) where
      -- after a punctual Tick
      pub ticks_ticked : IsPunctual (code_of ds) s at → TicksKept ds (es ++ entry.Tick at ∷ []) lent now
      ticks_ticked p = record { early = h.early; kept = clock_ticks ds es at h.early s is h.kept stands p; few = still_few (2 ^ 64 - 1) lent h.early before now le h.few }

      -- after a Tick that was counted as early
      pub ticks_early : Rose before now → TicksKept ds (es ++ entry.Tick at ∷ []) lent now
      ticks_early rose = record { early = suc h.early; kept = clock_ticks_early ds es at h.early s is h.kept stands; few = one_more (2 ^ 64 - 1) lent h.early before now le rose h.few }

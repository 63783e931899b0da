-- Witnesses of timeless runs, and ranks that bound runs (own).
use Rattle.std.specs.Prelude.{◌≡◌, ◌≤◌, ◌<◌, ◌+◌, ℕ, Bool, true, List, [], ◌∷◌, length, Some}
use Rattle.hs_base.specs.declared.clock_choice.ClockChoice.{ClockChoice}
use Rattle.hs_rules.specs.declared.entry.Entry.{Entry}
use Rattle.rules_expansion.specs.trees.Programs.{Fn}
use Rattle.rules_meaning.specs.CoreMeaning.{Code, code_of}
use Rattle.hs_rules.specs.State.{State}
use Rattle.hs_rules.specs.Entries.{Leads}
use Rattle.hs_rules.specs.Runs.{Run, first_of, IsRun}
use Rattle.hs_laws.specs.ClockLaw.{ClockKept}
use Rattle.outcome_laws.specs.timing.WithoutTime.{timeless, LeadsTimeless, TimelessRun, NeverReadsClock, without_ticks}
use Rattle.outcome_laws.specs.Timings.{MayTick, TickFits, TimedRun}

-- Each timeless run from the first state of a script is, but for Ticks, a history of it that keeps the law of the clock with no
-- early Tick, and the two come to the same but for time.
abbrev pub TimelessRunsHaveWitnesses : Type 0
TimelessRunsHaveWitnesses =
    (ds : List Fn) (s w : State) (es : List Entry) → first_of ds ≡ Some s → TimelessRun (code_of ds) (timeless s) es w →
    (fs : List Entry) × (u : State) × IsRun ds fs u × (timeless u ≡ w) × (without_ticks fs ≡ es) × ClockKept ds fs 0

-- Where no timeless run reads the clock, and each entry from a visited state without time leads to a visited one of a lower
-- rank, no run has more entries other than Ticks than the rank of its first state without time.
abbrev pub RanksBoundTimelessRuns : Type 0
RanksBoundTimelessRuns =
    (code : Code) (s : State) (visited : State → Bool) (rank : State → ℕ) → NeverReadsClock code (timeless s) →
    visited (timeless s) ≡ true →
    ((r q : State) (e : Entry) → visited r ≡ true → LeadsTimeless code r e q → (visited q ≡ true) × (rank q < rank r)) →
    (u : State) (es : List Entry) → Run code s es u →
    length (without_ticks es) ≤ rank (timeless s)

-- Where each entry of a timing from a visited state leads to a visited one of a lower rank, or of no higher rank where it is a
-- Tick, no run of the timing has more entries other than Ticks than the rank of its first state.
abbrev pub RanksBoundTimedRuns : Type 0
RanksBoundTimedRuns =
    (clock : ClockChoice) (code : Code) (s : State) (visited : State → Bool) (rank : State → ℕ) → visited s ≡ true →
    ((r q : State) (e : Entry) → visited r ≡ true → Leads code r e q → TickFits (MayTick clock code) r e →
    (visited q ≡ true) × (length (without_ticks (e ∷ [])) + rank q ≤ rank r)) →
    (u : State) (es : List Entry) → TimedRun clock code s es u →
    length (without_ticks es) ≤ rank s

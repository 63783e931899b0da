-- What a set of states has that taken entries and eager steps lead back into (own).
use Rattle.std.specs.Prelude.{◌≡◌, ◌≤◌, ◌+◌, ℕ, Bool, true, List, length, Some}
use Rattle.hs_base.specs.declared.clock_choice.ClockChoice.{ClockChoice}
use Rattle.rules_expansion.specs.trees.Programs.{Fn}
use Rattle.rules_meaning.specs.CoreMeaning.{Code, code_of}
use Rattle.hs_rules.specs.declared.entry.Entry.{Entry}
use Rattle.hs_rules.specs.State.{State}
use Rattle.hs_rules.specs.Runs.{first_of}
use Rattle.outcome_laws.specs.timing.WithoutTime.{without_ticks}
use Rattle.outcome_laws.specs.Timings.{MayTick, TimedRun, IsEndless}
use Rattle.outcome_laws.specs.Outcomes.{Outcome, ShowsOutcome, Reaches, IsOutcomeOf}
use Rattle.outcome_laws.specs.reduction.EagerRules.{EagerSteps}
use Rattle.outcome_laws.specs.reduction.Paths.{HasEnded, InSet, IsClosed, HasEndingLike, RankFalls}

-- Where eager steps lead from a state to one of a closed set, the set has an ending like each that a run of the timing from
-- that state comes to.
abbrev pub ClosedSetsHaveEndings : Type 0
ClosedSetsHaveEndings =
    (clock : ClockChoice) (code : Code) (V : State → Bool) → IsClosed code (MayTick clock code) (InSet V) →
    (k : ℕ) (s r : State) → EagerSteps code k s r → V r ≡ true →
    (es : List Entry) (z : State) → TimedRun clock code s es z → HasEnded code z →
    HasEndingLike (InSet V) z

-- The same of outcomes: each that is reached from that state shows in some state of the set.
abbrev pub ClosedSetsHaveOutcomes : Type 0
ClosedSetsHaveOutcomes =
    (clock : ClockChoice) (code : Code) (V : State → Bool) → IsClosed code (MayTick clock code) (InSet V) →
    (k : ℕ) (s r : State) → EagerSteps code k s r → V r ≡ true →
    (o : Outcome) → Reaches clock code s o →
    (w : State) × (V w ≡ true) × ShowsOutcome code w o

-- So where eager steps lead from the first state of a script to one of a closed set, each outcome of the script shows in some
-- state of the set.
abbrev pub ClosedSetsHaveOutcomesOfScripts : Type 0
ClosedSetsHaveOutcomesOfScripts =
    (clock : ClockChoice) (ds : List Fn) (V : State → Bool) → IsClosed (code_of ds) (MayTick clock (code_of ds)) (InSet V) →
    (k : ℕ) (s r : State) → first_of ds ≡ Some s → EagerSteps (code_of ds) k s r → V r ≡ true →
    (o : Outcome) → IsOutcomeOf clock ds o →
    (w : State) × (V w ≡ true) × ShowsOutcome (code_of ds) w o

-- Where a rank falls in a set, and eager steps lead from a state to one of the set, no run of the timing from that state has
-- more entries other than Ticks than there are eager steps to the set, and the rank there.
abbrev pub FallingRanksBoundRuns : Type 0
FallingRanksBoundRuns =
    (clock : ClockChoice) (code : Code) (V : State → Bool) (rank : State → ℕ) →
    RankFalls code (MayTick clock code) (InSet V) rank →
    (k : ℕ) (s r : State) → EagerSteps code k s r → V r ≡ true →
    (es : List Entry) (z : State) → TimedRun clock code s es z →
    length (without_ticks es) ≤ k + rank r

-- So where eager steps lead from the first state of a script to one of such a set, the script isn't endless.
abbrev pub FallingRanksEndScripts : Type 0
FallingRanksEndScripts =
    (clock : ClockChoice) (ds : List Fn) (V : State → Bool) (rank : State → ℕ) →
    RankFalls (code_of ds) (MayTick clock (code_of ds)) (InSet V) rank →
    (k : ℕ) (s r : State) → first_of ds ≡ Some s → EagerSteps (code_of ds) k s r → V r ≡ true →
    ¬ IsEndless clock ds

-- The outcomes of a script (own): what a run that ended of itself printed, and how it ended.
use Rattle.std.specs.Prelude.{◌≡◌, ℕ, List, Some}
use Rattle.std.specs.Ordering.{nat_cmp, on, then_cmp}
use Rattle.std.specs.declared.cmp.Ordering.{Ordering}
use Rattle.std.specs.Cmp.Lexicographic.{slice_cmp}
use Rattle.hs_base.specs.declared.clock_choice.ClockChoice.{ClockChoice}
use Rattle.hs_rules.specs.declared.entry.Entry.{Entry}
use Rattle.rules_expansion.specs.trees.Programs.{Fn}
use Rattle.rules_meaning.specs.CoreMeaning.{Code, code_of}
use Rattle.hs_rules.specs.State.{State}
use Rattle.hs_rules.specs.Endings as endings
use Rattle.hs_rules.specs.Endings.{RunEnding, Ends}
use Rattle.hs_rules.specs.Runs.{first_of, IsRun}
use Rattle.outcome_laws.specs.timing.WithoutTime.{TimelessRun}
use Rattle.outcome_laws.specs.Timings.{TimedRun}

-- how a run may have ended of itself
pub data Final : Type 0 where
  Done : Final
  Uncaught : Final
  Deadlock : Final

-- the bytes of both outputs are those of the run alone, without a line that a program adds
pub record Outcome : Type 0 where
  pub end : Final
  pub output : List ℕ
  pub errors : List ℕ

abbrev pub ending_of : Final → RunEnding
ending_of Done = endings.Done
ending_of Uncaught = endings.Uncaught
ending_of Deadlock = endings.Deadlock

-- a run that leaves this state has ended so, by the rules of endings, in which steps and fuel decide nothing but Fuel
abbrev pub EndsBy : Final → Code → State → Type 0
EndsBy f code s = Ends (ending_of f) code s 0 0

-- a run that leaves this state has come to this outcome
abbrev pub ShowsOutcome : Code → State → Outcome → Type 0
ShowsOutcome code s o = (s.output ≡ o.output) × (s.errors ≡ o.errors) × EndsBy o.end code s

-- ---- of runs from any state

-- some run of a timing comes to it
abbrev pub Reaches : ClockChoice → Code → State → Outcome → Type 0
Reaches clock code s o = (es : List Entry) × (u : State) × TimedRun clock code s es u × ShowsOutcome code u o

-- some timeless run comes to it
abbrev pub ReachesTimeless : Code → State → Outcome → Type 0
ReachesTimeless code s o = (es : List Entry) × (u : State) × TimelessRun code s es u × ShowsOutcome code u o

-- ---- of a script

-- a history is a run of a script, and comes to it
abbrev pub HasOutcome : List Fn → List Entry → Outcome → Type 0
HasOutcome ds es o = (u : State) × IsRun ds es u × ShowsOutcome (code_of ds) u o

-- some run of a timing from the first state of a script comes to it, whatever its steps and whatever a state of it has
abbrev pub IsOutcomeOf : ClockChoice → List Fn → Outcome → Type 0
IsOutcomeOf clock ds o = (s : State) × (first_of ds ≡ Some s) × Reaches clock (code_of ds) s o

-- ---- the order of outcomes: Done, Uncaught, Deadlock, then by output, then by errors, byte by byte

abbrev pub place_of : Final → ℕ
place_of Done = 0
place_of Uncaught = 1
place_of Deadlock = 2

abbrev pub outcome_cmp : Outcome → Outcome → Ordering
outcome_cmp = then_cmp (on (λ (o : Outcome). place_of o.end) nat_cmp) (then_cmp (on (λ (o : Outcome). o.output) (slice_cmp nat_cmp)) (on (λ (o : Outcome). o.errors) (slice_cmp nat_cmp)))

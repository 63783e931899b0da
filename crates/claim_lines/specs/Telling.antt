-- What verdicts say of all runs of a script (own). Whoever listed the outcomes owes what is asked of the list; the search of all
-- schedules has it.
use Rattle.std.specs.Prelude.{◌≡◌, ℕ, ◌+◌, List, ◌∷◌, ◌++◌, length}
use Rattle.std.specs.List.{AllByRecursion, AllZip, Contains}
use Rattle.hs_base.specs.declared.clock_choice.ClockChoice.{ClockChoice}
use Rattle.rules_expansion.specs.trees.Programs.{Fn}
use Rattle.outcome_laws.specs.Outcomes.{Outcome, IsOutcomeOf}
use Rattle.outcome_laws.specs.Timings.{IsEndless}
use Rattle.outcome_listing.specs.declared.explored.Extent.TheVariants.{All}
use Rattle.outcome_listing.specs.declared.explored.Endless.TheVariants as endless
use Rattle.outcome_listing.specs.declared.explored.Explored.{Explored}
use Rattle.outcome_listing.specs.Finals.{outcomes_of}
use Rattle.claim_lines.specs.declared.claim.Says.{Says}
use Rattle.claim_lines.specs.declared.claim.Says.TheVariants.{Always, Never, Sometimes, Terminates}
use Rattle.claim_lines.specs.declared.claim.Claim.{Claim}
use Rattle.claim_lines.specs.declared.verdict.Verdict.{Verdict}
use Rattle.claim_lines.specs.declared.verdict.Verdict.TheVariants.{Holds, FailsBy, Fails, FailsForEver, Open}
use Rattle.claim_lines.specs.Meaning.{Meets}
use Rattle.claim_lines.specs.Verdicts.{HasCause, HasRound}

-- ---- what a list has to be

-- each that is listed is an outcome of the script in this timing; where all are listed there is no other; what is said of endless
-- schedules is so
pub record IsListOf (clock : ClockChoice) (ds : List Fn) (e : Explored) : Type 0 where
  pub each : AllByRecursion (IsOutcomeOf clock ds) (outcomes_of e.outcomes)
  pub all : e.extent ≡ All → (o : Outcome) → IsOutcomeOf clock ds o → Contains (outcomes_of e.outcomes) o
  pub ends : e.endless ≡ endless.Never → ¬ IsEndless clock ds
  pub round : HasRound e.endless → IsEndless clock ds

-- ---- what a verdict tells

-- the outcome that is listed with this number, from 1, is one of the script, and shows it
pub record Shows (clock : ClockChoice) (ds : List Fn) (e : Explored) (number : ℕ) (Breaks : Outcome → Type 0) : Type 0 where
  pub before : List Outcome
  pub broken : Outcome
  pub behind : List Outcome
  pub split : outcomes_of e.outcomes ≡ before ++ broken ∷ behind
  pub place : number ≡ length before + 1
  pub outcome : IsOutcomeOf clock ds broken
  pub breaks : Breaks broken

-- `always`, `never`, `terminates` that hold are true of every run of the timing, of any number of steps, and `sometimes` that holds
-- of a listed one. One that fails has an outcome that shows it, or an endless schedule, or, for `sometimes`, no run meets it. One is
-- open only beside a cause of the list.
abbrev pub Tells : ClockChoice → List Fn → Explored → Says → Verdict → Type 0
Tells clock ds e (Always parts) Holds = (o : Outcome) → IsOutcomeOf clock ds o → Meets parts o
Tells clock ds e (Always parts) (FailsBy number) = Shows clock ds e number (λ o. ¬ Meets parts o)
Tells clock ds e (Never parts) Holds = (o : Outcome) → IsOutcomeOf clock ds o → ¬ Meets parts o
Tells clock ds e (Never parts) (FailsBy number) = Shows clock ds e number (λ o. Meets parts o)
Tells clock ds e (Sometimes parts) Holds = (o : Outcome) × Contains (outcomes_of e.outcomes) o × IsOutcomeOf clock ds o × Meets parts o
Tells clock ds e (Sometimes parts) Fails = (o : Outcome) → IsOutcomeOf clock ds o → ¬ Meets parts o
Tells clock ds e Terminates Holds = ¬ IsEndless clock ds
Tells clock ds e Terminates FailsForEver = IsEndless clock ds
Tells clock ds e says (Open cause) = HasCause e.extent cause
Tells clock ds e says verdict = ⊥

-- each claim's verdict tells this
abbrev pub AllTell : ClockChoice → List Fn → Explored → List Claim → List Verdict → Type 0
AllTell clock ds e claims verdicts = AllZip (λ c v. Tells clock ds e c.says v) claims verdicts

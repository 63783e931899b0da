-- What a list of outcomes decides of a claim, and its line (own). A listed outcome that breaks `always` or `never`, or meets `sometimes`,
-- decides it though there may be others, and so does a round for `terminates`. Else a claim is open where there may be others.
use Rattle.std.specs.Prelude.{◌≡◌, ℕ, ◌+◌, Bool, true, false, cond, List, [], ◌∷◌, ◌++◌, length, codes, ⊤}
use Rattle.std.specs.Fmt.{decimal}
use Rattle.std.specs.List.{AllByRecursion, AllZip, Contains, list_any}
use Rattle.outcome_laws.specs.Outcomes.{Outcome}
use Rattle.outcome_listing.specs.declared.explored.Cause.{Cause}
use Rattle.outcome_listing.specs.declared.explored.Extent.{Extent}
use Rattle.outcome_listing.specs.declared.explored.Extent.TheVariants.{All, NotAll}
use Rattle.outcome_listing.specs.declared.explored.Endless.{Endless}
use Rattle.outcome_listing.specs.declared.explored.Endless.TheVariants as endless
use Rattle.outcome_listing.specs.declared.explored.Explored.{Explored}
use Rattle.outcome_listing.specs.Finals.{outcomes_of}
use Rattle.outcome_listing.specs.Listing.{cause_words}
use Rattle.claim_lines.specs.declared.claim.Part.{Part}
use Rattle.claim_lines.specs.declared.claim.Says.{Says}
use Rattle.claim_lines.specs.declared.claim.Says.TheVariants.{Always, Never, Sometimes, Terminates}
use Rattle.claim_lines.specs.declared.claim.Claim.{Claim}
use Rattle.claim_lines.specs.declared.verdict.Verdict.{Verdict}
use Rattle.claim_lines.specs.declared.verdict.Verdict.TheVariants.{Holds, FailsBy, Fails, FailsForEver, Open}
use Rattle.claim_lines.specs.declared.verdict.Judged.{Judged}
use Rattle.claim_lines.specs.declared.verdict.Judged.TheVariants as judged
use Rattle.claim_lines.specs.Meaning.{Meets}

-- ---- one claim

-- The outcome of this number, from 1, breaks what each should be, and those before it keep it.
pub record IsFirst (Keeps Breaks : Outcome → Type 0) (outcomes : List Outcome) (number : ℕ) : Type 0 where
  pub before : List Outcome
  pub broken : Outcome
  pub behind : List Outcome
  pub split : outcomes ≡ before ++ broken ∷ behind
  pub place : number ≡ length before + 1
  pub kept : AllByRecursion Keeps before
  pub breaks : Breaks broken

-- there may be others, for this cause
abbrev pub HasCause : Extent → Cause → Type 0
HasCause All cause = ⊥
HasCause (NotAll why run) cause = cause ≡ why

-- what is decided of a claim on each outcome
abbrev pub JudgesEach : (Keeps Breaks : Outcome → Type 0) → List Outcome → Extent → Verdict → Type 0
JudgesEach Keeps Breaks outcomes extent Holds = (extent ≡ All) × AllByRecursion Keeps outcomes
JudgesEach Keeps Breaks outcomes extent (FailsBy number) = IsFirst Keeps Breaks outcomes number
JudgesEach Keeps Breaks outcomes extent Fails = ⊥
JudgesEach Keeps Breaks outcomes extent FailsForEver = ⊥
JudgesEach Keeps Breaks outcomes extent (Open cause) = HasCause extent cause × AllByRecursion Keeps outcomes

-- what is decided of a claim on some outcome
abbrev pub JudgesSome : List Part → List Outcome → Extent → Verdict → Type 0
JudgesSome parts outcomes extent Holds = (o : Outcome) × Contains outcomes o × Meets parts o
JudgesSome parts outcomes extent (FailsBy number) = ⊥
JudgesSome parts outcomes extent Fails = (extent ≡ All) × AllByRecursion (λ o. ¬ Meets parts o) outcomes
JudgesSome parts outcomes extent FailsForEver = ⊥
JudgesSome parts outcomes extent (Open cause) = HasCause extent cause × AllByRecursion (λ o. ¬ Meets parts o) outcomes

-- a schedule that comes back to its state was found
abbrev pub HasRound : Endless → Type 0
HasRound endless.Never = ⊥
HasRound (endless.Round to round) = ⊤
HasRound endless.Unknown = ⊥

-- what is decided of the claim that every schedule ends
abbrev pub JudgesEnds : Extent → Endless → Verdict → Type 0
JudgesEnds extent ends Holds = ends ≡ endless.Never
JudgesEnds extent ends (FailsBy number) = ⊥
JudgesEnds extent ends Fails = ⊥
JudgesEnds extent ends FailsForEver = HasRound ends
JudgesEnds extent ends (Open cause) = (ends ≡ endless.Unknown) × HasCause extent cause

abbrev pub Judges : Explored → Says → Verdict → Type 0
Judges e (Always parts) verdict = JudgesEach (λ o. Meets parts o) (λ o. ¬ Meets parts o) (outcomes_of e.outcomes) e.extent verdict
Judges e (Never parts) verdict = JudgesEach (λ o. ¬ Meets parts o) (λ o. Meets parts o) (outcomes_of e.outcomes) e.extent verdict
Judges e (Sometimes parts) verdict = JudgesSome parts (outcomes_of e.outcomes) e.extent verdict
Judges e Terminates verdict = JudgesEnds e.extent e.endless verdict

-- ---- all claims

-- each claim has the verdict of its place
abbrev pub JudgeAll : Explored → List Claim → List Verdict → Type 0
JudgeAll e claims verdicts = AllZip (λ c v. Judges e c.says v) claims verdicts

abbrev pub fails : Verdict → Bool
fails Holds = false
fails (FailsBy number) = true
fails Fails = true
fails FailsForEver = true
fails (Open cause) = false

abbrev pub is_open : Verdict → Bool
is_open Holds = false
is_open (FailsBy number) = false
is_open Fails = false
is_open FailsForEver = false
is_open (Open cause) = true

-- some fails; none fails, and some is open; all hold
abbrev pub judged_of : List Verdict → Judged
judged_of verdicts = cond (list_any fails verdicts) judged.Fail (cond (list_any is_open verdicts) judged.Open judged.Hold)

-- ---- the text

abbrev pub verdict_words : Verdict → List ℕ
verdict_words Holds = codes "holds"
verdict_words (FailsBy number) = codes "fails: outcome " ++ decimal number
verdict_words Fails = codes "fails"
verdict_words FailsForEver = codes "fails: a schedule may run for ever"
verdict_words (Open cause) = codes "open: " ++ cause_words cause

-- line L: VERDICT
abbrev pub verdict_line : ℕ → Verdict → List ℕ
verdict_line line verdict = codes "line " ++ decimal line ++ codes ": " ++ verdict_words verdict ++ codes "\n"

-- a line for each claim
abbrev pub verdict_lines : List Claim → List Verdict → List ℕ
verdict_lines [] verdicts = []
verdict_lines (c ∷ cs) [] = []
verdict_lines (c ∷ cs) (v ∷ vs) = verdict_line c.line v ++ verdict_lines cs vs

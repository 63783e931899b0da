-- What the verdicts on a script's claims tell of its runs.
use Rattle.std.proofs.Common.{ℕ, List, [], ◌∷◌, ◌++◌, subst}
use Rattle.std.specs.List.{AllByRecursion, Contains}
use Rattle.std.proofs.lemmas.List.Elements.{All-contains, All-from_recursion}
use Rattle.hs_base.specs.declared.clock_choice.ClockChoice.{ClockChoice}
use Rattle.rules_expansion.specs.trees.Programs.{Fn}
use Rattle.outcome_laws.specs.Outcomes.{Outcome, IsOutcomeOf}
use Rattle.outcome_listing.specs.declared.explored.Explored.{Explored}
use Rattle.outcome_listing.specs.Finals.{outcomes_of}
use Rattle.claim_lines.specs.declared.claim.Says.{Says}
use Rattle.claim_lines.specs.declared.claim.Says.TheVariants.{Always, Never, Sometimes, Terminates}
use Rattle.claim_lines.specs.declared.claim.Claim.{Claim}
use Rattle.claim_lines.specs.declared.verdict.Verdict.{Verdict}
use Rattle.claim_lines.specs.declared.verdict.Verdict.TheVariants.{Holds, FailsBy, Fails, FailsForEver, Open}
use Rattle.claim_lines.specs.Meaning.{Meets}
use Rattle.claim_lines.specs.Verdicts.{IsFirst, Judges, JudgeAll}
use Rattle.claim_lines.specs.Telling.{IsListOf, Shows, Tells, AllTell}

of_middle : {X : Type 0} (P : X → Type 0) (xs : List X) (x : X) (ys : List X) → AllByRecursion P (xs ++ x ∷ ys) → P x
of_middle P [] x ys h = h.0
of_middle P (y ∷ xs) x ys h = of_middle P xs x ys h.1

-- what each listed outcome is, each outcome is where all are listed
of_listed : (P : Outcome → Type 0) (os : List Outcome) → AllByRecursion P os → (o : Outcome) → Contains os o → P o
of_listed P os h o there = All-contains P os o (All-from_recursion P os h) there

shown : (clock : ClockChoice) (ds : List Fn) (e : Explored) (Keeps Breaks : Outcome → Type 0) (number : ℕ) → IsListOf clock ds e → IsFirst Keeps Breaks (outcomes_of e.outcomes) number → Shows clock ds e number Breaks
shown clock ds e Keeps Breaks number list first = record {
  before = first.before;
  broken = first.broken;
  behind = first.behind;
  split = first.split;
  place = first.place;
  outcome = of_middle (IsOutcomeOf clock ds) first.before first.broken first.behind (subst (AllByRecursion (IsOutcomeOf clock ds)) first.split list.each);
  breaks = first.breaks;
}

told : (clock : ClockChoice) (ds : List Fn) (e : Explored) → IsListOf clock ds e → (says : Says) (verdict : Verdict) → Judges e says verdict → Tells clock ds e says verdict
told clock ds e list (Always parts) Holds h = λ o is. of_listed (λ x. Meets parts x) (outcomes_of e.outcomes) h.1 o (list.all h.0 o is)
told clock ds e list (Always parts) (FailsBy number) h = shown clock ds e (λ o. Meets parts o) (λ o. ¬ Meets parts o) number list h
told clock ds e list (Always parts) Fails h = h
told clock ds e list (Always parts) FailsForEver h = h
told clock ds e list (Always parts) (Open cause) h = h.0
told clock ds e list (Never parts) Holds h = λ o is. of_listed (λ x. ¬ Meets parts x) (outcomes_of e.outcomes) h.1 o (list.all h.0 o is)
told clock ds e list (Never parts) (FailsBy number) h = shown clock ds e (λ o. ¬ Meets parts o) (λ o. Meets parts o) number list h
told clock ds e list (Never parts) Fails h = h
told clock ds e list (Never parts) FailsForEver h = h
told clock ds e list (Never parts) (Open cause) h = h.0
told clock ds e list (Sometimes parts) Holds h = (h.0, h.1, of_listed (IsOutcomeOf clock ds) (outcomes_of e.outcomes) list.each h.0 h.1, h.2)
told clock ds e list (Sometimes parts) (FailsBy number) h = h
told clock ds e list (Sometimes parts) Fails h = λ o is. of_listed (λ x. ¬ Meets parts x) (outcomes_of e.outcomes) h.1 o (list.all h.0 o is)
told clock ds e list (Sometimes parts) FailsForEver h = h
told clock ds e list (Sometimes parts) (Open cause) h = h.0
told clock ds e list Terminates Holds h = list.ends h
told clock ds e list Terminates (FailsBy number) h = h
told clock ds e list Terminates Fails h = h
told clock ds e list Terminates FailsForEver h = list.round h
told clock ds e list Terminates (Open cause) h = h.1

pub all_tell : (clock : ClockChoice) (ds : List Fn) (e : Explored) → IsListOf clock ds e → (claims : List Claim) (verdicts : List Verdict) → JudgeAll e claims verdicts → AllTell clock ds e claims verdicts
all_tell clock ds e list [] [] h = h
all_tell clock ds e list [] (v ∷ vs) h = h
all_tell clock ds e list (c ∷ cs) [] h = h
all_tell clock ds e list (c ∷ cs) (v ∷ vs) h = (told clock ds e list c.says v h.0, all_tell clock ds e list cs vs h.1)

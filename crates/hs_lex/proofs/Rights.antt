-- An answer that is right is complete, since there is one outcome at most.
use Rattle.std.proofs.Common.{◌≡◌, ℕ, List, Option, Some, None, Result}
use Rattle.std.specs.Prelude.{MatchOption, ⊤}
use Rattle.rules_tokens.specs.declared.token.Tokens.{Tokens}
use Rattle.rules_tokens.specs.Tokens.{Outcome, LexesTo}
use Rattle.hs_lex.specs.declared.fault.LexFault.{LexFault}
use Rattle.hs_lex.specs.Answers.{said, IsRight, IsComplete}
use Rattle.hs_lex.proofs.Outcomes.{outcome_same}

all_that_is_said : (bytes : List ℕ) (o : Option Outcome) (outcome : Outcome) → MatchOption o ⊤ (LexesTo bytes) → LexesTo bytes outcome → MatchOption o ⊤ (λ a. a ≡ outcome)
all_that_is_said bytes None outcome right h = tt
all_that_is_said bytes (Some a) outcome right h = outcome_same bytes a outcome right h

pub complete_from_right : (bytes : List ℕ) (answer : Result Tokens LexFault) → IsRight bytes answer → IsComplete bytes answer
complete_from_right bytes answer right outcome h = all_that_is_said bytes (said answer) outcome right h

-- What an answer of `lex` says.
use Rattle.std.specs.Prelude.{◌≡◌, ℕ, ◌<◌, ◌≤◌, List, [], ◌∷◌, Option, Some, None, Result, Ok, Err, MatchOption, ⊤, slice_range}
use Rattle.std.specs.Str.{encode_utf8_all}
use Rattle.rules_tokens.specs.declared.token.Token.{Token}
use Rattle.rules_tokens.specs.declared.token.Tokens.{Tokens}
use Rattle.rules_tokens.specs.Tokens.{Outcome, Lexed, NotUtf8, Faulty, BadChar, OpenText, BigNumber, Spells, LexesTo}
use Rattle.hs_lex.specs.declared.fault.LexFault.{LexFault}
use Rattle.hs_lex.specs.declared.fault.LexFault.TheVariants as fault

-- what the answer says of the bytes; want of memory says nothing
abbrev pub said : Result Tokens LexFault → Option Outcome
said (Ok tokens) = Some (Lexed tokens)
said (Err (fault.NotUtf8 at)) = Some (NotUtf8 at)
said (Err (fault.BadChar at)) = Some (Faulty BadChar at)
said (Err (fault.OpenText at)) = Some (Faulty OpenText at)
said (Err (fault.BigNumber at)) = Some (Faulty BigNumber at)
said (Err fault.NoMemory) = None

-- The answer is right: the bytes have these tokens, or this is their first fault.
abbrev pub IsRight : List ℕ → Result Tokens LexFault → Type 0
IsRight bytes answer = MatchOption (said answer) ⊤ (LexesTo bytes)

-- What is right of the bytes is what the answer says.
abbrev pub IsComplete : List ℕ → Result Tokens LexFault → Type 0
IsComplete bytes answer = (outcome : Outcome) → LexesTo bytes outcome → MatchOption (said answer) ⊤ (λ o. o ≡ outcome)

-- The spans rise from here on: each token has bytes, and begins at the end of the one before it or later.
abbrev pub AreRising : ℕ → List Token → Type 0
AreRising from [] = Unit {0}
AreRising from (t ∷ ts) = (from ≤ t.start) × (t.start < t.end) × AreRising t.end ts

-- The token is spelled by the bytes of the source in its span.
abbrev pub IsSlice : List ℕ → Token → Type 0
IsSlice source t = (cs : List ℕ) × Spells cs t.tok × (slice_range source t.start t.end ≡ encode_utf8_all cs)

abbrev pub AreSlices : List ℕ → List Token → Type 0
AreSlices source [] = Unit {0}
AreSlices source (t ∷ ts) = IsSlice source t × AreSlices source ts

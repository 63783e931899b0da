-- The answers of the stages are what the verdict says.
use Rattle.std.proofs.Common.{◌≡◌, ℕ, List, refl}
use Rattle.std.specs.Prelude.{Err}
use Rattle.rules_tokens.specs.declared.token.Tokens.{Tokens}
use Rattle.rules_tokens.specs.Tokens.{HasTokens}
use Rattle.hs_base.specs.declared.tree.script.Script.{Script}
use Rattle.hs_types.specs.Faults as types
use Rattle.typing_parts.specs.declared.fault.TypeFault.{TypeFault}
use Rattle.typing_parts.specs.declared.fault.TypeFault.TheVariants as fault
use Rattle.hs_parse.specs.Parsed.{Parsed}
use Rattle.hs_parse.specs.declared.fault.ParseFault.{ParseFault}
use Rattle.hs_parse.specs.declared.fault.ParseFault.TheVariants as parse
use Rattle.hs_lex.specs.Answers.{IsRight}
use Rattle.hs_lex.specs.declared.fault.LexFault.{LexFault}
use Rattle.hs_lex.specs.declared.fault.LexFault.TheVariants as lex
use Rattle.hs_compile.specs.Verdicts.{IsFirstFault, IsMisspelled, IsMistyped, IsSpelled}

-- ---- the lexer's answer

pub first_fault : (bytes : List ℕ) (f : LexFault) → (f ≡ lex.NoMemory → ⊥) → IsRight bytes (Err f) → IsFirstFault f bytes
first_fault bytes (lex.NotUtf8 at) other right = right
first_fault bytes (lex.BadChar at) other right = right
first_fault bytes (lex.OpenText at) other right = right
first_fault bytes (lex.BigNumber at) other right = right
first_fault bytes lex.NoMemory other right = absurd (other refl)

-- ---- the parser's answer

pub misspelled : (bytes : List ℕ) (tokens : Tokens) (f : ParseFault) → (f ≡ parse.NoMemory → ⊥) → HasTokens bytes tokens → Parsed tokens (Err f) → IsMisspelled f bytes
misspelled bytes tokens (parse.Unexpected at) other has parsed = (tokens, has, parsed)
misspelled bytes tokens (parse.Deep at) other has parsed = (tokens, has, parsed)
misspelled bytes tokens parse.NoMemory other has parsed = absurd (other refl)

-- ---- the checker's answer

pub mistyped : (bytes : List ℕ) (s : Script) (f : TypeFault) → (f ≡ fault.NoMemory → ⊥) → IsSpelled bytes s → types.Refused f s → IsMistyped f bytes
mistyped bytes s f other spelled refused = (s, spelled, refused, other)

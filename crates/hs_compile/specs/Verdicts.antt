-- What the bytes of an input are: an accepted script, or refused (own).
--
-- The causes of a refusal in their order: too many bytes, no tokens, no script, a broken typing rule. Each holds only where
-- none before it does, since a later one speaks of the tokens or of the script that the bytes have.
use Rattle.std.specs.Prelude.{Result, Err, ◌≡◌, ◌≤◌, ◌<◌, ℕ, List, length, ⊤}
use Rattle.hs_base.specs.declared.tree.script.Script.{Script}
use Rattle.rules_grammar.specs.Grammar.{SpellsWithin}
use Rattle.rules_tokens.specs.declared.token.Tokens.{Tokens}
use Rattle.rules_tokens.specs.Tokens.{HasTokens, LexesTo, NotUtf8, Faulty, BadChar, OpenText, BigNumber}
use Rattle.rules_typing.specs.TypingScripts as typing
use Rattle.hs_lex.specs.declared.fault.LexFault.{LexFault}
use Rattle.hs_lex.specs.declared.fault.LexFault.TheVariants as lex
use Rattle.hs_parse.specs.Parsed.{Parsed}
use Rattle.hs_parse.specs.declared.fault.ParseFault.{ParseFault}
use Rattle.hs_parse.specs.declared.fault.ParseFault.TheVariants as parse
use Rattle.hs_types.specs.Faults as types
use Rattle.typing_parts.specs.declared.fault.TypeFault.{TypeFault}
use Rattle.typing_parts.specs.declared.fault.TypeFault.TheVariants as fault
use Rattle.hs_compile.specs.declared.refusal.Refusal.{Refusal}
use Rattle.hs_compile.specs.declared.refusal.Refusal.TheVariants.{TooLong, Lex, Parse, Types}
use Rattle.hs_compile.specs.declared.refusal.CompileFault.{CompileFault}
use Rattle.hs_compile.specs.declared.refusal.CompileFault.TheVariants.{Refused, NoMemory}

-- A script has at most so many bytes.
abbrev pub script_limit : ℕ
script_limit = 1048576

-- How many openers may nest.
abbrev pub depth_limit : ℕ
depth_limit = 200

-- ---- scripts

-- The bytes are not too many, and their tokens spell this script.
abbrev pub IsSpelled : List ℕ → Script → Type 0
IsSpelled bytes s = (length bytes ≤ script_limit) × (tokens : Tokens) × HasTokens bytes tokens × SpellsWithin depth_limit s tokens.list

-- These bytes are this script, which the typing rules accept.
abbrev pub IsAccepted : List ℕ → Script → Type 0
IsAccepted bytes s = IsSpelled bytes s × typing.Accepted s

-- ---- refusals

-- the first fault of bytes that have no tokens; want of memory is none
abbrev pub IsFirstFault : LexFault → List ℕ → Type 0
IsFirstFault (lex.NotUtf8 at) bytes = LexesTo bytes (NotUtf8 at)
IsFirstFault (lex.BadChar at) bytes = LexesTo bytes (Faulty BadChar at)
IsFirstFault (lex.OpenText at) bytes = LexesTo bytes (Faulty OpenText at)
IsFirstFault (lex.BigNumber at) bytes = LexesTo bytes (Faulty BigNumber at)
IsFirstFault lex.NoMemory bytes = ⊥

-- the fault of tokens that spell no script; want of memory is none
abbrev pub IsParseFault : ParseFault → Tokens → Type 0
IsParseFault (parse.Unexpected at) tokens = Parsed tokens (Err (parse.Unexpected at))
IsParseFault (parse.Deep at) tokens = Parsed tokens (Err (parse.Deep at))
IsParseFault parse.NoMemory tokens = ⊥

-- the bytes have tokens, and these spell no script
abbrev pub IsMisspelled : ParseFault → List ℕ → Type 0
IsMisspelled fault bytes = (tokens : Tokens) × HasTokens bytes tokens × IsParseFault fault tokens

-- the bytes are a script that breaks a typing rule: the one that is named comes before all others; want of memory is none
abbrev pub IsMistyped : TypeFault → List ℕ → Type 0
IsMistyped f bytes = (s : Script) × IsSpelled bytes s × types.Refused f s × (f ≡ fault.NoMemory → ⊥)

-- the cause of a refusal
abbrev pub IsRefused : Refusal → List ℕ → Type 0
IsRefused TooLong bytes = script_limit < length bytes
IsRefused (Lex fault) bytes = (length bytes ≤ script_limit) × IsFirstFault fault bytes
IsRefused (Parse fault) bytes = (length bytes ≤ script_limit) × IsMisspelled fault bytes
IsRefused (Types f) bytes = IsMistyped f bytes

-- why there is no accepted script; memory may be refused for any bytes
abbrev pub Denied : List ℕ → CompileFault → Type 0
Denied bytes (Refused r) = IsRefused r bytes
Denied bytes NoMemory = ⊤

-- the same before the typing rules are looked at
abbrev pub Misspelled : List ℕ → CompileFault → Type 0
Misspelled bytes (Refused TooLong) = IsRefused TooLong bytes
Misspelled bytes (Refused (Lex fault)) = IsRefused (Lex fault) bytes
Misspelled bytes (Refused (Parse fault)) = IsRefused (Parse fault) bytes
Misspelled bytes (Refused (Types f)) = ⊥
Misspelled bytes NoMemory = ⊤

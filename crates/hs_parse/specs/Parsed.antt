-- What the answer of `parse` says of the tokens (own).
use Rattle.std.specs.Prelude.{◌≡◌, List, [], ◌∷◌, ◌++◌, Result, Ok, Err}
use Rattle.hs_base.specs.declared.pos.Pos.{Pos}
use Rattle.hs_base.specs.declared.tree.script.Script.{Script}
use Rattle.rules_tokens.specs.declared.token.Token.{Token}
use Rattle.rules_tokens.specs.declared.token.Tokens.{Tokens}
use Rattle.rules_grammar.specs.Grammar.{SpellsWithin, IsUnexpected, IsTooDeep}
use Rattle.hs_parse.specs.declared.fault.ParseFault.{ParseFault}
use Rattle.hs_parse.specs.declared.fault.ParseFault.TheVariants as fault

-- the position of the first of these tokens, or the end
abbrev pub place : List Token → Pos → Pos
place [] end = end
place (t ∷ ts) end = t.pos

-- The script is the one that the tokens spell within 200 nested openers. A fault is at the first token with which no script
-- goes on, or at the end; and no script is spelled by the tokens. Or it is at the first opener that stands in 200, in a
-- script that goes on from it; and no script is spelled by the tokens within 200 nested openers.
abbrev pub Parsed : Tokens → Result Script ParseFault → Type 0
Parsed tokens (Ok x) = SpellsWithin 200 x tokens.list
Parsed tokens (Err (fault.Unexpected p)) =
    (read left : List Token) × (read ++ left ≡ tokens.list) × IsUnexpected 200 read left × (p ≡ place left tokens.end)
Parsed tokens (Err (fault.Deep p)) =
    (read : List Token) × (t : Token) × (left : List Token) × (read ++ t ∷ left ≡ tokens.list) × IsTooDeep 200 read t
    × ((x : Script) → SpellsWithin 200 x tokens.list → ⊥) × (p ≡ t.pos)
Parsed tokens (Err fault.NoMemory) = Unit {0}

-- What the parts of the reading answer of the text before them (own).
use Rattle.std.specs.Prelude.{◌≡◌, ℕ, ◌<◌, List, [], ◌∷◌, ◌++◌, ◌⊎◌, Some, None, length, IsTrue, IsFalse}
use Rattle.rules_tokens.specs.Tokens.{quote, backslash, line_feed, LiteralPart, may_stand, parts_text, meaning, escaped}
use Rattle.claim_lines.specs.declared.claim.Says.{Says}
use Rattle.claim_lines.specs.declared.claim.Claim.{Claim}
use Rattle.claim_lines.specs.declared.claim.ClaimFault.{ClaimFault}
use Rattle.claim_lines.specs.declared.claim.ClaimFault.TheVariants.{Refused, NoMemory}
use Rattle.claim_lines.specs.declared.literal.Inside.{Inside}
use Rattle.claim_lines.specs.declared.literal.Inside.TheVariants.{Quote, Character, Neither}
use Rattle.claim_lines.specs.declared.words.Word.{Word}
use Rattle.claim_lines.specs.declared.lines.Body.{Body}
use Rattle.claim_lines.specs.declared.lines.Body.TheVariants as body
use Rattle.claim_lines.specs.declared.lines.Line.{Line}
use Rattle.claim_lines.specs.declared.lines.Line.TheVariants as line
use Rattle.claim_lines.specs.Lines.{separates, IsNoClaim}
use Rattle.claim_lines.specs.Words.{IsTextOf, Spells, Piece, text_then, Read, words_in}
use Rattle.claim_lines.specs.Grammar.{IsClaim}
use Rattle.claim_lines.specs.Reading.{BreaksOff, IsUnfinished, IsWritten, IsWrongAt}

-- the text, cut behind its first n characters
pub record IsCut (text : List ℕ) (n : ℕ) (front after : List ℕ) : Type 0 where
  pub whole : front ++ after ≡ text
  pub len : length front ≡ n

-- ---- Text literals

-- behind a backslash: no character that makes an escape with it
abbrev pub IsNoEscape : List ℕ → Type 0
IsNoEscape [] = Unit {0}
IsNoEscape (c ∷ cs) = escaped c ≡ None

-- neither a part of a literal that means something begins here nor its closing quote
abbrev pub IsStuck : List ℕ → Type 0
IsStuck [] = Unit {0}
IsStuck (c ∷ cs) = (c ≡ line_feed) ⊎ ((c ≡ backslash) × IsNoEscape cs)

-- this stands next inside a literal
abbrev pub IsNext : List ℕ → Inside → Type 0
IsNext rest Quote = (more : List ℕ) × (rest ≡ quote ∷ more)
IsNext rest (Character c n) = (p : LiteralPart) × (more : List ℕ) × IsTrue (may_stand p) × (rest ≡ parts_text (p ∷ []) ++ more) × (meaning p ≡ Some c)
    × (length (parts_text (p ∷ [])) ≡ n)
IsNext rest Neither = IsStuck rest

-- behind a quote the first n characters end a literal that stands for these bytes
abbrev pub IsText : List ℕ → List ℕ → ℕ → Type 0
IsText inside bytes n = (cs : List ℕ) × (after : List ℕ) × IsTextOf (quote ∷ cs) bytes × IsCut inside n cs after

-- ---- Words

-- a word begins here
abbrev pub BeginsWord : List ℕ → Type 0
BeginsWord [] = ⊥
BeginsWord (c ∷ cs) = IsFalse (separates c)

-- the first n characters are this word
abbrev pub IsFirstWord : List ℕ → ℕ → Word → Type 0
IsFirstWord rest n word = (cs : List ℕ) × (after : List ℕ) × IsCut rest n cs after × Spells cs word after × (0 < n)

-- ---- Lines

-- what stands behind the mark says this, or goes wrong before its last characters
abbrev pub IsBody : List ℕ → Body → Type 0
IsBody rest (body.Says says) = (pieces : List Piece) × (text_then pieces [] ≡ rest) × Read pieces [] × IsClaim (words_in pieces) says
IsBody rest (body.WrongBefore left) = (pieces : List Piece) × (after : List ℕ) × (rest ≡ text_then pieces after) × Read pieces after
    × (BreaksOff pieces after ⊎ IsUnfinished pieces after) × (length after ≡ left)

-- what words say that are all those of a claim, or that it goes wrong before so many characters
abbrev pub IsEnded : List Word → ℕ → Body → Type 0
IsEnded words left (body.Says says) = IsClaim words says
IsEnded words left (body.WrongBefore before) = (before ≡ left) × ((says : Says) → ¬ IsClaim words says)

abbrev pub IsLine : List ℕ → Line → Type 0
IsLine text line.Other = IsNoClaim text
IsLine text (line.Says says) = IsWritten text says
IsLine text (line.WrongAt column) = IsWrongAt text column

-- the claim of a line of this number is added, if it is one
abbrev pub AddsLine : List ℕ → ℕ → List Claim → List Claim → Type 0
AddsLine text number old new = (IsNoClaim text × (new ≡ old)) ⊎ ((says : Says) × IsWritten text says × (new ≡ old ++ record { line = number; says = says } ∷ []))

abbrev pub IsLineFault : List ℕ → ℕ → ClaimFault → Type 0
IsLineFault text number (Refused at) = (at.line ≡ number) × IsWrongAt text at.col
IsLineFault text number NoMemory = Unit {0}

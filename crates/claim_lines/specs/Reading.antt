-- The claims of a text, or the first place at which one is not written as claims are (own).
use Rattle.std.specs.Prelude.{◌≡◌, ℕ, ◌+◌, List, [], ◌∷◌, ◌++◌, ◌⊎◌, length}
use Rattle.hs_base.specs.declared.pos.Pos.{Pos}
use Rattle.claim_lines.specs.declared.claim.Claim.{Claim}
use Rattle.claim_lines.specs.declared.claim.Says.{Says}
use Rattle.claim_lines.specs.declared.claim.ClaimFault.{ClaimFault}
use Rattle.claim_lines.specs.declared.claim.ClaimFault.TheVariants.{Refused, NoMemory}
use Rattle.claim_lines.specs.Lines.{lines_of, BeginsClaim, IsNoClaim}
use Rattle.claim_lines.specs.declared.words.Word.{Word}
use Rattle.claim_lines.specs.Words.{Piece, Blank, Lexeme, Spells, text_then, Read, words_in}
use Rattle.claim_lines.specs.Grammar.{IsClaim, BeginsSomeClaim}

-- the line is a claim that says this
pub record IsWritten (line : List ℕ) (says : Says) : Type 0 where
  pub head : List ℕ
  pub rest : List ℕ
  pub pieces : List Piece
  pub begins : BeginsClaim line head rest
  pub split : text_then pieces [] ≡ rest
  pub read : Read pieces []
  pub claim : IsClaim (words_in pieces) says

-- the lines from this number on have these claims
abbrev pub HaveClaims : ℕ → List (List ℕ) → List Claim → Type 0
HaveClaims number [] claims = claims ≡ []
HaveClaims number (line ∷ lines) claims = (IsNoClaim line × HaveClaims (number + 1) lines claims)
    ⊎ ((says : Says) × (more : List Claim) × (claims ≡ record { line = number; says = says } ∷ more) × IsWritten line says × HaveClaims (number + 1) lines more)

-- the characters have these claims
abbrev pub HasClaims : List ℕ → List Claim → Type 0
HasClaims text claims = HaveClaims 1 (lines_of text) claims

-- the last of the pieces is a word, or there is none
abbrev pub EndsInWord : List Piece → Type 0
EndsInWord [] = Unit {0}
EndsInWord (Blank c ∷ []) = ⊥
EndsInWord (Lexeme cs word ∷ []) = Unit {0}
EndsInWord (p ∷ q ∷ ps) = EndsInWord (q ∷ ps)

abbrev pub AreBlanks : List Piece → Type 0
AreBlanks [] = Unit {0}
AreBlanks (Blank c ∷ ps) = AreBlanks ps
AreBlanks (Lexeme cs word ∷ ps) = ⊥

-- Behind `pieces` begins a word with which no claim goes on, though some claim begins with those before it.
pub record BreaksOff (pieces : List Piece) (after : List ℕ) : Type 0 where
  pub characters : List ℕ
  pub word : Word
  pub behind : List ℕ
  pub split : after ≡ characters ++ behind
  pub spells : Spells characters word behind
  pub begun : BeginsSomeClaim (words_in pieces)
  pub none : ¬ BeginsSomeClaim (words_in pieces ++ word ∷ [])

-- Behind `pieces`, whose last is a word, nothing but blanks stands, and more must come: their words are no claim, but some begins so.
pub record IsUnfinished (pieces : List Piece) (after : List ℕ) : Type 0 where
  pub blanks : List Piece
  pub word : EndsInWord pieces
  pub blank : AreBlanks blanks
  pub split : after ≡ text_then blanks []
  pub read : Read blanks []
  pub begun : BeginsSomeClaim (words_in pieces)
  pub none : (says : Says) → ¬ IsClaim (words_in pieces) says

-- The line begins as a claim and is none, first in this column.
pub record IsWrongAt (line : List ℕ) (column : ℕ) : Type 0 where
  pub head : List ℕ
  pub rest : List ℕ
  pub pieces : List Piece
  pub after : List ℕ
  pub begins : BeginsClaim line head rest
  pub split : rest ≡ text_then pieces after
  pub read : Read pieces after
  pub wrong : BreaksOff pieces after ⊎ IsUnfinished pieces after
  pub place : column ≡ length (head ++ text_then pieces []) + 1

-- The first line of the text that begins as a claim and is none is that of this place, and there it goes wrong.
pub record IsRefusedAt (text : List ℕ) (at : Pos) : Type 0 where
  pub before : List (List ℕ)
  pub line : List ℕ
  pub behind : List (List ℕ)
  pub claims : List Claim
  pub split : lines_of text ≡ before ++ line ∷ behind
  pub right : HaveClaims 1 before claims
  pub number : at.line ≡ length before + 1
  pub wrong : IsWrongAt line at.col

-- why no claims are answered
abbrev pub IsFault : List ℕ → ClaimFault → Type 0
IsFault text (Refused at) = IsRefusedAt text at
IsFault text NoMemory = Unit {0}

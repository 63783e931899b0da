-- What stands at the front of the characters that are left, as the lexer's functions say it to one another.
use Rattle.std.specs.Prelude.{◌≡◌, ◌≢◌, ℕ, ◌<◌, ◌≤◌, Bool, List, [], ◌∷◌, ◌++◌, length, take, Some, None, IsTrue, IsFalse, slice_get, map}
use Rattle.std.specs.List.{list_all}
use denote.Ref.{Bor}
use Rattle.std.specs.Char.{is_ascii_digit}
use Rattle.std.specs.Str.{encode_utf8_all}
use Rattle.rules_tokens.specs.Tokens.{Piece, Blank, Comment, Lexeme, piece_text, Fits, Fault, BadChar, OpenText, BigNumber, IsFaulty, LiteralPart, Escape, may_stand, parts_text, StandFor, escaped, position_after, is_blank, quote, starts_word, IsSymbolNumber}
use Rattle.hs_lex.specs.declared.front.Front.{Front}
use Rattle.hs_lex.specs.declared.front.Front.TheVariants as front
use Rattle.hs_lex.specs.declared.front.Flaw.{Flaw}
use Rattle.hs_lex.specs.declared.front.Flaw.TheVariants as flaw
use Rattle.hs_lex.specs.declared.literal.Meaning.{Meaning}
use Rattle.hs_lex.specs.declared.literal.Meaning.TheVariants as meaning
use Rattle.hs_lex.specs.declared.place.Place.{Place}

abbrev pub fault_of : Flaw → Fault
fault_of flaw.BadChar = BadChar
fault_of flaw.OpenText = OpenText
fault_of flaw.BigNumber = BigNumber

-- the piece is a blank or a comment
abbrev pub IsGap : Piece → Type 0
IsGap (Blank c) = Unit {0}
IsGap (Comment body) = Unit {0}
IsGap (Lexeme cs t) = ⊥

-- n characters, and what follows them
pub record IsCut (rest : List ℕ) (n : ℕ) (front after : List ℕ) : Type 0 where
  pub whole : front ++ after ≡ rest
  pub len : length front ≡ n

-- this stands at the front of the rest
abbrev pub StandsAt : List ℕ → Front → Type 0
StandsAt rest (front.Gap n) = (p : Piece) × (after : List ℕ) × IsCut rest n (piece_text p) after × IsGap p × Fits p after
StandsAt rest (front.Token n t) = (cs after : List ℕ) × IsCut rest n cs after × Fits (Lexeme cs t) after
StandsAt rest (front.Wrong f n) = (read after : List ℕ) × IsCut rest n read after × IsFaulty (fault_of f) read rest

-- the first character passes the test
abbrev pub Begins : (ℕ → Bool) → List ℕ → Type 0
Begins p [] = ⊥
Begins p (c ∷ cs) = IsTrue (p c)

-- the place stands behind this many of the characters
pub record IsPlace (chars : List ℕ) (place : Place) : Type 0 where
  pub within : place.at ≤ length chars
  pub byte : place.byte ≡ length (encode_utf8_all (take place.at chars))
  pub pos : place.pos ≡ position_after (take place.at chars)

-- The first character begins no blank, text, number or word.
abbrev pub BeginsOther : List ℕ → Type 0
BeginsOther [] = ⊥
BeginsOther (c ∷ cs) = IsFalse (is_blank c) × (c ≢ quote) × IsFalse (is_ascii_digit c) × IsFalse (starts_word c)

-- none of the first n symbols begins the text
abbrev pub NoneBelow : ℕ → List ℕ → Type 0
NoneBelow n text = (m : ℕ) (cs left : List ℕ) → m < n → IsSymbolNumber m cs → cs ++ left ≢ text

-- these parts, which may stand in a literal, are all of the characters
abbrev pub IsBody : List LiteralPart → List ℕ → Type 0
IsBody ps cs = IsTrue (list_all may_stand ps) × (parts_text ps ≡ cs)

-- The first n characters are parts, and then the literal is closed.
abbrev pub IsClosedAt : List ℕ → ℕ → Type 0
IsClosedAt inside n = (ps : List LiteralPart) × (body after : List ℕ) × IsCut inside n body (quote ∷ after) × IsBody ps body

-- what the parts of a body say: a text, or that a wrong escape stands behind so many characters
abbrev pub MeansAll : List ℕ → Meaning → Type 0
MeansAll body (meaning.Text text) = (ps : List LiteralPart) × (meant : List ℕ) × IsBody ps body × StandFor ps meant × (text ≡ encode_utf8_all meant)
MeansAll body (meaning.Wrong n) = (good more : List LiteralPart) × (wrong : ℕ) × (meant : List ℕ) × IsBody (good ++ Escape wrong ∷ more) body × StandFor good meant
    × (escaped wrong ≡ None) × (length (parts_text good) ≡ n)

-- the text stands in the table at this place
abbrev pub IsRow : List (Bor (List ℕ)) → ℕ → List ℕ → Type 0
IsRow table n text = slice_get (map (λ row. row.now) table) n ≡ Some text

-- none of the first n texts of the table begins the rest
abbrev pub NoneOf : ℕ → List (Bor (List ℕ)) → List ℕ → Type 0
NoneOf n table rest = (m : ℕ) (cs left : List ℕ) → m < n → IsRow table m cs → cs ++ left ≢ rest

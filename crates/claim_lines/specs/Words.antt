-- The words of a claim (own): runs of the letters a to z, and texts as scripts have them. Spaces, tabs and carriage returns separate
-- them and may stand behind the last one. Any other character, and a text that isn't closed or has a wrong escape, is a word that no
-- claim goes on with. A `Word` has the letters, or what a text stands for, as bytes.
use Rattle.std.specs.Prelude.{◌≡◌, ◌≢◌, ℕ, List, [], ◌∷◌, ◌++◌, IsTrue, IsFalse}
use Rattle.std.specs.List.{list_all}
use Rattle.std.specs.Char.{is_ascii_lowercase}
use Rattle.std.specs.Str.{encode_utf8_all}
use Rattle.rules_tokens.specs.Tokens.{LiteralPart, may_stand, literal_text, StandFor}
use Rattle.claim_lines.specs.declared.words.Word.{Word}
use Rattle.claim_lines.specs.declared.words.Word.TheVariants.{Letters, Text, Wrong}
use Rattle.claim_lines.specs.Lines.{separates}

-- The characters are a text literal that is closed on its line and has no wrong escape, and stand for these bytes.
abbrev pub IsTextOf : List ℕ → List ℕ → Type 0
IsTextOf cs bytes = (ps : List LiteralPart) × (meant : List ℕ) × IsTrue (list_all may_stand ps) × (cs ≡ literal_text ps) × StandFor ps meant
    × (bytes ≡ encode_utf8_all meant)

abbrev pub BeginsWithNoLetter : List ℕ → Type 0
BeginsWithNoLetter [] = Unit {0}
BeginsWithNoLetter (c ∷ cs) = IsFalse (is_ascii_lowercase c)

-- with this character, behind which that stands, no text begins
abbrev pub BeginsNoText : ℕ → List ℕ → Type 0
BeginsNoText c behind = (front left bytes : List ℕ) → IsTextOf front bytes → front ++ left ≢ c ∷ behind

-- The characters are this word where those that follow are `after`: letters go on as far as they can, and a wrong word is one
-- character that is no blank and no letter, and with which no text begins.
abbrev pub Spells : List ℕ → Word → List ℕ → Type 0
Spells cs (Letters letters) after = (cs ≢ []) × IsTrue (list_all is_ascii_lowercase cs) × (letters ≡ cs) × BeginsWithNoLetter after
Spells cs (Text bytes) after = IsTextOf cs bytes
Spells cs Wrong after = (c : ℕ) × (cs ≡ c ∷ []) × IsFalse (separates c) × IsFalse (is_ascii_lowercase c) × BeginsNoText c after

-- a blank, or the characters of a word
pub data Piece : Type 0 where
  Blank : ℕ → Piece
  Lexeme : List ℕ → Word → Piece

-- the piece may stand before these characters
abbrev pub Fits : Piece → List ℕ → Type 0
Fits (Blank c) after = IsTrue (separates c)
Fits (Lexeme cs word) after = Spells cs word after

abbrev pub piece_text : Piece → List ℕ
piece_text (Blank c) = c ∷ []
piece_text (Lexeme cs word) = cs

-- the characters of the pieces, and then these
abbrev pub text_then : List Piece → List ℕ → List ℕ
text_then [] after = after
text_then (p ∷ ps) after = piece_text p ++ text_then ps after

-- each piece may stand before what follows it
abbrev pub Read : List Piece → List ℕ → Type 0
Read [] after = Unit {0}
Read (p ∷ ps) after = Fits p (text_then ps after) × Read ps after

-- the words among the pieces
abbrev pub words_in : List Piece → List Word
words_in [] = []
words_in (Blank c ∷ ps) = words_in ps
words_in (Lexeme cs word ∷ ps) = word ∷ words_in ps

-- What it means that a script has these tokens, and where a script without tokens is at fault (own).
--
-- The bytes of a script are the UTF-8 of its characters. The characters are read as a list of pieces, one behind the
-- other: a blank, a comment, or a token. Where a piece begins, the text before it says its position.
use Rattle.std.specs.Prelude.{◌≡◌, ◌≢◌, ℕ, ◌+◌, ◌-◌, ◌*◌, ◌^◌, ◌<◌, ◌≤◌, Bool, false, ◌||◌, not, ◌==◌, if◌then◌else◌, ◌⊎◌, List, [], ◌∷◌, ◌++◌, map, length, Option, Some, None, slice_get, IsTrue, IsFalse, pos}
use Rattle.std.specs.List.{list_all, list_any}
use Rattle.std.specs.Char.{is_ascii_digit, is_ascii_uppercase}
use Rattle.std.specs.Str.{encode_utf8_all, all_scalars, StartsWithNoChar}
use Rattle.unicode_ident.specs.Ident.{is_xid_start, is_xid_continue}
use Rattle.hs_base.specs.declared.pos.Pos.{Pos}
use Rattle.rules_tokens.specs.declared.token.Tok.{Tok}
use Rattle.rules_tokens.specs.declared.token.Tok.TheVariants as tok
use Rattle.rules_tokens.specs.declared.token.Token.{Token}
use Rattle.rules_tokens.specs.declared.token.Tokens.{Tokens}
use Rattle.rules_tokens.specs.declared.word.TheConstants as word
use Rattle.rules_tokens.specs.declared.symbol.TheConstants as symbol

-- ---- Characters

abbrev pub tab : ℕ
tab = 9

abbrev pub line_feed : ℕ
line_feed = 10

abbrev pub carriage_return : ℕ
carriage_return = 13

abbrev pub space : ℕ
space = 32

abbrev pub quote : ℕ
quote = 34

abbrev pub apostrophe : ℕ
apostrophe = 39

abbrev pub dash : ℕ
dash = 45

abbrev pub backslash : ℕ
backslash = 92

abbrev pub underscore : ℕ
underscore = 95

-- a character that separates tokens
abbrev pub is_blank : ℕ → Bool
is_blank c = (c == space) || (c == tab) || (c == carriage_return) || (c == line_feed)

-- a character that may begin a word: `_`, or one that may begin an identifier (XID_Start of Unicode)
abbrev pub starts_word : ℕ → Bool
starts_word c = (c == underscore) || is_xid_start c

-- a character that may stand in a word behind its first: `'`, or one that may stand in an identifier (XID_Continue)
abbrev pub continues_word : ℕ → Bool
continues_word c = (c == apostrophe) || is_xid_continue c

-- ---- Positions

abbrev pub is_line_feed : ℕ → Bool
is_line_feed c = c == line_feed

-- how many line feeds there are
abbrev pub line_feeds : List ℕ → ℕ
line_feeds [] = 0
line_feeds (c ∷ cs) = if is_line_feed c then 1 + line_feeds cs else line_feeds cs

-- the characters behind the last line feed
abbrev pub last_line : List ℕ → List ℕ
last_line [] = []
last_line (c ∷ cs) = if list_any is_line_feed (c ∷ cs) then last_line cs else c ∷ cs

-- the position behind these characters: a line ends at a line feed, and a column counts characters
abbrev pub position_after : List ℕ → Pos
position_after before = record { line = line_feeds before + 1; col = length (last_line before) + 1 }

-- ---- Words, numbers and symbols

-- a first character that may begin a word, and then such as may stand in one
abbrev pub IsWord : List ℕ → Type 0
IsWord [] = ⊥
IsWord (c ∷ cs) = IsTrue (starts_word c) × IsTrue (list_all continues_word cs)

-- the reserved words, in the order of their numbers
abbrev pub reserved_words : List (List ℕ)
reserved_words = map (λ text. text.now) word.TEXTS

-- the characters are the reserved word of this number
abbrev pub IsReserved : ℕ → List ℕ → Type 0
IsReserved n cs = slice_get reserved_words n ≡ Some (encode_utf8_all cs)

-- one of the digits 0 to 9, and then more of them
abbrev pub IsNumber : List ℕ → Type 0
IsNumber [] = ⊥
IsNumber (c ∷ cs) = IsTrue (list_all is_ascii_digit (c ∷ cs))

-- the number whose decimal digits are those of n and then these
abbrev pub number_from : ℕ → List ℕ → ℕ
number_from n [] = n
number_from n (c ∷ cs) = number_from (10 * n + (c - 48)) cs

-- the number that the digits write
abbrev pub number_of : List ℕ → ℕ
number_of cs = number_from 0 cs

-- the greatest number that a script may write: 9223372036854775807
abbrev pub greatest_number : ℕ
greatest_number = 2 ^ 63 - 1

-- the symbols, in the order of their numbers
abbrev pub symbols : List (List ℕ)
symbols = map (λ text. text.now) symbol.TEXTS

-- the characters are the symbol of this number
abbrev pub IsSymbolNumber : ℕ → List ℕ → Type 0
IsSymbolNumber n cs = slice_get symbols n ≡ Some cs

abbrev pub IsSymbol : List ℕ → Type 0
IsSymbol cs = (n : ℕ) × IsSymbolNumber n cs

-- ---- Text literals

-- What stands between the quotes: a character, or a backslash and the character that it takes into the literal.
pub data LiteralPart : Type 0 where
  Plain : ℕ → LiteralPart
  Escape : ℕ → LiteralPart

-- A quote ends a literal and a backslash begins an escape, so neither is plain. No literal holds a line feed.
abbrev pub may_stand : LiteralPart → Bool
may_stand (Plain c) = not ((c == quote) || (c == backslash) || (c == line_feed))
may_stand (Escape c) = not (c == line_feed)

abbrev pub parts_text : List LiteralPart → List ℕ
parts_text [] = []
parts_text (Plain c ∷ ps) = c ∷ parts_text ps
parts_text (Escape c ∷ ps) = backslash ∷ c ∷ parts_text ps

-- the literal with these parts
abbrev pub literal_text : List LiteralPart → List ℕ
literal_text ps = quote ∷ (parts_text ps ++ quote ∷ [])

-- The character that an escape stands for. The escapes are \" \\ \n and \t.
abbrev pub escaped : ℕ → Option ℕ
escaped c = if c == quote then Some quote
    else (if c == backslash then Some backslash
    else (if c == 110 then Some line_feed
    else (if c == 116 then Some tab else None)))

-- the character that a part stands for
abbrev pub meaning : LiteralPart → Option ℕ
meaning (Plain c) = Some c
meaning (Escape c) = escaped c

-- the parts stand for these characters, one for one
abbrev pub StandFor : List LiteralPart → List ℕ → Type 0
StandFor ps cs = map meaning ps ≡ map Some cs

-- the characters are a literal that is closed on its line; its escapes may be wrong ones
abbrev pub IsLiteral : List ℕ → Type 0
IsLiteral cs = (ps : List LiteralPart) × IsTrue (list_all may_stand ps) × (cs ≡ literal_text ps)

-- ---- Tokens

-- The characters have the form of a token. What they say may still be wrong: a number too big, an escape that is none.
abbrev pub HasForm : List ℕ → Type 0
HasForm cs = IsWord cs ⊎ IsNumber cs ⊎ IsSymbol cs ⊎ IsLiteral cs

abbrev pub is_capital : List ℕ → Bool
is_capital [] = false
is_capital (c ∷ cs) = is_ascii_uppercase c

-- the characters spell the token
abbrev pub Spells : List ℕ → Tok → Type 0
Spells cs (tok.Name text) = IsWord cs × ((n : ℕ) → ¬ IsReserved n cs) × IsFalse (is_capital cs) × (text ≡ encode_utf8_all cs)
Spells cs tok.Upper = IsWord cs × ((n : ℕ) → ¬ IsReserved n cs) × IsTrue (is_capital cs)
Spells cs (tok.Int value) = IsNumber cs × (number_of cs ≤ greatest_number) × (value ≡ pos (number_of cs))
Spells cs (tok.Text text) = (ps : List LiteralPart) × (meant : List ℕ) × IsTrue (list_all may_stand ps) × (cs ≡ literal_text ps) × StandFor ps meant
    × (text ≡ encode_utf8_all meant)
Spells cs (tok.Word n) = IsWord cs × IsReserved n cs
Spells cs (tok.Sym n) = IsSymbolNumber n cs

-- of what begins here, with `after` behind it, nothing longer has the form of a token
abbrev pub IsLongest : List ℕ → List ℕ → Type 0
IsLongest cs after = (longer left : List ℕ) → HasForm longer → longer ++ left ≡ cs ++ after → length longer ≤ length cs

-- two dashes begin a comment
abbrev pub BeginsComment : List ℕ → Type 0
BeginsComment cs = (more : List ℕ) × (cs ≡ dash ∷ dash ∷ more)

-- the line ends here
abbrev pub EndsLine : List ℕ → Type 0
EndsLine [] = Unit {0}
EndsLine (c ∷ cs) = IsTrue (is_line_feed c)

-- ---- The pieces of a script

pub data Piece : Type 0 where
  Blank : ℕ → Piece
  Comment : List ℕ → Piece
  Lexeme : List ℕ → Tok → Piece

-- the characters of a piece; a comment's are two dashes and what it says
abbrev pub piece_text : Piece → List ℕ
piece_text (Blank c) = c ∷ []
piece_text (Comment body) = dash ∷ dash ∷ body
piece_text (Lexeme cs t) = cs

-- The piece may stand before these characters. A comment goes up to the end of its line, and a token is the longest
-- where no comment begins.
abbrev pub Fits : Piece → List ℕ → Type 0
Fits (Blank c) after = IsTrue (is_blank c)
Fits (Comment body) after = IsFalse (list_any is_line_feed body) × EndsLine after
Fits (Lexeme cs t) after = Spells cs t × IsLongest cs after × (¬ BeginsComment (cs ++ after))

-- the characters of the pieces, and then these
abbrev pub text_then : List Piece → List ℕ → List ℕ
text_then [] after = after
text_then (p ∷ ps) after = piece_text p ++ text_then ps after

-- each piece may stand before what follows it
abbrev pub Read : List Piece → List ℕ → Type 0
Read [] after = Unit {0}
Read (p ∷ ps) after = Fits p (text_then ps after) × Read ps after

-- the token with these characters, behind the characters `before`
abbrev pub token_behind : List ℕ → List ℕ → Tok → Token
token_behind before cs t = record {
  tok = t;
  start = length (encode_utf8_all before);
  end = length (encode_utf8_all (before ++ cs));
  pos = position_after before;
}

-- the tokens among the pieces, which stand behind the characters `before`
abbrev pub tokens_behind : List ℕ → List Piece → List Token
tokens_behind before [] = []
tokens_behind before (Blank c ∷ ps) = tokens_behind (before ++ c ∷ []) ps
tokens_behind before (Comment body ∷ ps) = tokens_behind (before ++ dash ∷ dash ∷ body) ps
tokens_behind before (Lexeme cs t ∷ ps) = token_behind before cs t ∷ tokens_behind (before ++ cs) ps

-- ---- Faults

-- Here begins a character that begins no token.
abbrev pub BeginsNothing : List ℕ → Type 0
BeginsNothing [] = ⊥
BeginsNothing (c ∷ cs) = IsFalse (is_blank c) × (c ≢ quote) × ((front after : List ℕ) → HasForm front → front ++ after ≢ c ∷ cs)

-- Here begins a closed literal, whose first wrong escape stands behind `read`.
pub record HasWrongEscape (read rest : List ℕ) : Type 0 where
  pub good : List LiteralPart
  pub wrong : ℕ
  pub more : List LiteralPart
  pub meant : List ℕ
  pub after : List ℕ
  pub literal : rest ≡ literal_text (good ++ Escape wrong ∷ more) ++ after
  pub stands : IsTrue (list_all may_stand (good ++ Escape wrong ∷ more))
  pub right : StandFor good meant
  pub none : escaped wrong ≡ None
  pub place : read ≡ quote ∷ parts_text good

-- Here begins a literal that is not closed on its line.
abbrev pub IsOpen : List ℕ → Type 0
IsOpen [] = ⊥
IsOpen (c ∷ cs) = (c ≡ quote) × ((front after : List ℕ) → IsLiteral front → front ++ after ≢ c ∷ cs)

-- Here begins a number that is too big.
pub record IsTooBig (rest : List ℕ) : Type 0 where
  pub digits : List ℕ
  pub after : List ℕ
  pub split : rest ≡ digits ++ after
  pub number : IsNumber digits
  pub longest : IsLongest digits after
  pub big : greatest_number < number_of digits

-- what may be wrong with the characters of a script
pub data Fault : Type 0 where
  BadChar : Fault
  OpenText : Fault
  BigNumber : Fault

-- No piece can be read here, for this reason, which lies behind the characters `read` of the rest.
abbrev pub IsFaulty : Fault → List ℕ → List ℕ → Type 0
IsFaulty BadChar read rest = ((read ≡ []) × BeginsNothing rest) ⊎ HasWrongEscape read rest
IsFaulty OpenText read rest = (read ≡ []) × IsOpen rest
IsFaulty BigNumber read rest = (read ≡ []) × IsTooBig rest

-- ---- Whole scripts

-- the bytes are the UTF-8 of these characters
abbrev pub IsTextOf : List ℕ → List ℕ → Type 0
IsTextOf bytes cs = IsTrue (all_scalars cs) × (bytes ≡ encode_utf8_all cs)

-- The bytes have these tokens: their characters are pieces from the first to the last, and these are the tokens among
-- them. The end is the position behind the last byte.
pub record HasTokens (bytes : List ℕ) (tokens : Tokens) : Type 0 where
  pub characters : List ℕ
  pub pieces : List Piece
  pub text : IsTextOf bytes characters
  pub split : text_then pieces [] ≡ characters
  pub read : Read pieces []
  pub list : tokens.list ≡ tokens_behind [] pieces
  pub source : tokens.source ≡ bytes
  pub last : tokens.end ≡ position_after characters

-- The characters are pieces up to a place where none can be read, and that is the first fault.
pub record HasFault (bytes : List ℕ) (fault : Fault) (at : Pos) : Type 0 where
  pub characters : List ℕ
  pub pieces : List Piece
  pub rest : List ℕ
  pub behind : List ℕ
  pub text : IsTextOf bytes characters
  pub split : text_then pieces rest ≡ characters
  pub read : Read pieces rest
  pub faulty : IsFaulty fault behind rest
  pub place : at ≡ position_after (text_then pieces [] ++ behind)

-- The bytes are characters up to a byte where none begins.
pub record IsNoText (bytes : List ℕ) (at : Pos) : Type 0 where
  pub characters : List ℕ
  pub rest : List ℕ
  pub scalars : IsTrue (all_scalars characters)
  pub split : bytes ≡ encode_utf8_all characters ++ rest
  pub more : 0 < length rest
  pub none : StartsWithNoChar rest
  pub place : at ≡ position_after characters

-- what a lexer answers
pub data Outcome : Type 0 where
  Lexed : Tokens → Outcome
  NotUtf8 : Pos → Outcome
  Faulty : Fault → Pos → Outcome

-- this is the right answer at these bytes
abbrev pub LexesTo : List ℕ → Outcome → Type 0
LexesTo bytes (Lexed tokens) = HasTokens bytes tokens
LexesTo bytes (NotUtf8 at) = IsNoText bytes at
LexesTo bytes (Faulty fault at) = HasFault bytes fault at

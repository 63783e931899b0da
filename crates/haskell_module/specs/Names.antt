-- Names and texts of a script, as a Haskell module has them (Haskell 2010 Language Report, 2.4 and 2.6; the spelling is own).
--
-- A name of a script is `v_`, and then its bytes: a letter, a digit and `_` as they are, a prime as two, and each other byte as a
-- prime and its two digits of base 16. So each is a variable of Haskell, no two become one (`laws.rt`), and none is a reserved
-- word or a name of the support module, which has none that begins so.
use Rattle.std.specs.Prelude.{ℕ, ◌+◌, ◌/◌, ◌%◌, ◌==◌, nat_lt, ◌&&◌, ◌||◌, not, Bool, cond, List, [], ◌∷◌, ◌++◌, codes, take, bytes_eq}
use Rattle.std.specs.Fmt.{decimal}
use Rattle.std.specs.Char.{is_ascii_alphanumeric}
use Rattle.std.specs.List.{flat_map}

-- ---- names

abbrev pub hex_digit : ℕ → ℕ
hex_digit d = cond (nat_lt d 10) (48 + d) (87 + d)

-- the byte of a name that stands for itself
abbrev pub is_plain : ℕ → Bool
is_plain b = is_ascii_alphanumeric b || (b == 95)

abbrev pub name_piece : ℕ → List ℕ
name_piece b = cond (is_plain b) (b ∷ []) (cond (b == 39) (codes "''") (codes "'" ++ hex_digit (b / 16) ∷ hex_digit (b % 16) ∷ []))

abbrev pub name_text : List ℕ → List ℕ
name_text x = codes "v_" ++ flat_map name_piece x

-- ---- texts

-- the byte of a text that stands for itself in a literal: what ASCII can print, but for `"` and `\`
abbrev pub is_printed : ℕ → Bool
is_printed b = nat_lt 31 b && nat_lt b 127 && not (b == 34) && not (b == 92)

-- each other byte stands by its number, and `\&`, which is no character, ends that
abbrev pub literal_piece : ℕ → List ℕ
literal_piece b = cond (is_printed b) (b ∷ []) (codes "\\" ++ decimal b ++ codes "\\&")

-- the literal of the characters that have these bytes as their numbers
abbrev pub literal_text : List ℕ → List ℕ
literal_text x = codes "\"" ++ flat_map literal_piece x ++ codes "\""

-- ---- other words

-- the reserved words of Haskell, and the names that the text of a module binds itself or has of the support module
abbrev pub other_words : List (List ℕ)
other_words =
    codes "case" ∷ codes "class" ∷ codes "data" ∷ codes "default" ∷ codes "deriving" ∷ codes "do" ∷ codes "else" ∷ codes "foreign"
    ∷ codes "if" ∷ codes "import" ∷ codes "in" ∷ codes "infix" ∷ codes "infixl" ∷ codes "infixr" ∷ codes "instance" ∷ codes "let"
    ∷ codes "module" ∷ codes "newtype" ∷ codes "of" ∷ codes "then" ∷ codes "type" ∷ codes "where" ∷ codes "_"
    ∷ codes "main" ∷ codes "run" ∷ codes "script" ∷ codes "en" ∷ codes "a" ∷ codes "b" ∷ codes "at" ∷ codes "end" ∷ codes "evaluate"
    ∷ codes "strict" ∷ codes "text" ∷ codes "list" ∷ codes "pair" ∷ codes "div" ∷ codes "mod" ∷ codes "just" ∷ codes "left" ∷ codes "right"
    ∷ codes "errorCall" ∷ codes "not" ∷ codes "fst" ∷ codes "snd" ∷ codes "show" ∷ codes "negate" ∷ codes "threadKilled"
    ∷ codes "userInterrupt" ∷ codes "divideByZero" ∷ codes "overflow" ∷ codes "return" ∷ codes "throwIO" ∷ codes "catch"
    ∷ codes "onException" ∷ codes "finally" ∷ codes "bracket" ∷ codes "mask" ∷ codes "mask_" ∷ codes "uninterruptibleMask"
    ∷ codes "uninterruptibleMask_" ∷ codes "getMaskingState" ∷ codes "newMVar" ∷ codes "newEmptyMVar" ∷ codes "takeMVar"
    ∷ codes "readMVar" ∷ codes "putMVar" ∷ codes "tryTakeMVar" ∷ codes "tryPutMVar" ∷ codes "modifyMVar_" ∷ codes "forkIO"
    ∷ codes "forkIOWithUnmask" ∷ codes "myThreadId" ∷ codes "throwTo" ∷ codes "killThread" ∷ codes "threadDelay" ∷ codes "timeout"
    ∷ codes "clockMicros" ∷ codes "putStr" ∷ codes "putStrLn" ∷ codes "hPutStrLn" ∷ codes "withAsync" ∷ codes "wait"
    ∷ codes "cancel" ∷ codes "race" ∷ codes "concurrently" ∷ []

-- whether a word begins as the names of a script do
abbrev pub begins_as_name : List ℕ → Bool
begins_as_name word = bytes_eq (take 2 word) (codes "v_")

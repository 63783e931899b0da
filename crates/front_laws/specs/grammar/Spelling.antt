-- Each constant for a reserved word or a symbol is the number of that word or symbol: its place in the table that the lexer
-- reads (own).
use Rattle.std.specs.Prelude.{◌≡◌, ℕ, List, [], ◌∷◌, map, Option, Some, slice_get, codes}
use Rattle.rules_tokens.specs.Tokens.{reserved_words, symbols}
use Rattle.rules_tokens.specs.declared.word.TheConstants as word
use Rattle.rules_tokens.specs.declared.symbol.TheConstants as symbol

-- the words, by their constants
abbrev pub spelled_words : List (ℕ × List ℕ)
spelled_words =
    (word.TRUE, codes "True") ∷ (word.FALSE, codes "False") ∷ (word.NOTHING, codes "Nothing") ∷ (word.JUST, codes "Just")
    ∷ (word.LEFT, codes "Left") ∷ (word.RIGHT, codes "Right") ∷ (word.ERROR_CALL, codes "ErrorCall")
    ∷ (word.THREAD_KILLED, codes "ThreadKilled") ∷ (word.USER_INTERRUPT, codes "UserInterrupt")
    ∷ (word.DIVIDE_BY_ZERO, codes "DivideByZero") ∷ (word.OVERFLOW, codes "Overflow") ∷ (word.INT, codes "Int")
    ∷ (word.BOOL, codes "Bool") ∷ (word.TEXT, codes "Text") ∷ (word.THREAD_ID, codes "ThreadId")
    ∷ (word.SOME_EXCEPTION, codes "SomeException") ∷ (word.MAYBE, codes "Maybe") ∷ (word.EITHER, codes "Either")
    ∷ (word.MVAR, codes "MVar") ∷ (word.IO, codes "IO") ∷ (word.IF, codes "if") ∷ (word.THEN, codes "then")
    ∷ (word.ELSE, codes "else") ∷ (word.CASE, codes "case") ∷ (word.OF, codes "of") ∷ (word.LET, codes "let")
    ∷ (word.IN, codes "in") ∷ (word.DIV, codes "div") ∷ (word.MOD, codes "mod") ∷ (word.NOT, codes "not")
    ∷ (word.FST, codes "fst") ∷ (word.SND, codes "snd") ∷ (word.SHOW, codes "show") ∷ (word.RETURN, codes "return")
    ∷ (word.THROW_IO, codes "throwIO") ∷ (word.PUT_STR, codes "putStr") ∷ (word.PUT_STR_LN, codes "putStrLn")
    ∷ (word.H_PUT_STR_LN, codes "hPutStrLn") ∷ (word.STDERR, codes "stderr") ∷ (word.NEW_MVAR, codes "newMVar")
    ∷ (word.NEW_EMPTY_MVAR, codes "newEmptyMVar") ∷ (word.TAKE_MVAR, codes "takeMVar") ∷ (word.PUT_MVAR, codes "putMVar")
    ∷ (word.READ_MVAR, codes "readMVar") ∷ (word.TRY_TAKE_MVAR, codes "tryTakeMVar")
    ∷ (word.TRY_PUT_MVAR, codes "tryPutMVar") ∷ (word.MODIFY_MVAR, codes "modifyMVar_") ∷ (word.FORK_IO, codes "forkIO")
    ∷ (word.FORK_IO_WITH_UNMASK, codes "forkIOWithUnmask") ∷ (word.MY_THREAD_ID, codes "myThreadId")
    ∷ (word.THROW_TO, codes "throwTo") ∷ (word.KILL_THREAD, codes "killThread") ∷ (word.THREAD_DELAY, codes "threadDelay")
    ∷ (word.CLOCK_MICROS, codes "clockMicros") ∷ (word.GET_MASKING_STATE, codes "getMaskingState")
    ∷ (word.CATCH, codes "catch") ∷ (word.MASK, codes "mask") ∷ (word.MASK_BLOCK, codes "mask_")
    ∷ (word.UNINTERRUPTIBLE_MASK, codes "uninterruptibleMask")
    ∷ (word.UNINTERRUPTIBLE_MASK_BLOCK, codes "uninterruptibleMask_") ∷ (word.RESTORE, codes "restore")
    ∷ (word.ON_EXCEPTION, codes "onException") ∷ (word.BRACKET, codes "bracket") ∷ (word.FINALLY, codes "finally")
    ∷ (word.TIMEOUT, codes "timeout") ∷ (word.ASYNC, codes "Async") ∷ (word.WITH_ASYNC, codes "withAsync")
    ∷ (word.WAIT, codes "wait") ∷ (word.CANCEL, codes "cancel") ∷ (word.RACE, codes "race")
    ∷ (word.CONCURRENTLY, codes "concurrently") ∷ []

-- the symbols, by their constants
abbrev pub spelled_symbols : List (ℕ × List ℕ)
spelled_symbols =
    (symbol.DOUBLE_COLON, codes "::") ∷ (symbol.ARROW, codes "->") ∷ (symbol.LEFT_ARROW, codes "<-")
    ∷ (symbol.EQUAL_EQUAL, codes "==") ∷ (symbol.SLASH_EQUAL, codes "/=") ∷ (symbol.LESS_EQUAL, codes "<=")
    ∷ (symbol.GREATER_EQUAL, codes ">=") ∷ (symbol.AND, codes "&&") ∷ (symbol.OR, codes "||")
    ∷ (symbol.PLUS_PLUS, codes "++") ∷ (symbol.EQUAL, codes "=") ∷ (symbol.LESS, codes "<") ∷ (symbol.GREATER, codes ">")
    ∷ (symbol.PLUS, codes "+") ∷ (symbol.MINUS, codes "-") ∷ (symbol.STAR, codes "*") ∷ (symbol.COLON, codes ":")
    ∷ (symbol.SEMICOLON, codes ";") ∷ (symbol.COMMA, codes ",") ∷ (symbol.AT, codes "@") ∷ (symbol.OPEN_PAREN, codes "(")
    ∷ (symbol.CLOSE_PAREN, codes ")") ∷ (symbol.OPEN_BRACKET, codes "[") ∷ (symbol.CLOSE_BRACKET, codes "]")
    ∷ (symbol.OPEN_BRACE, codes "{") ∷ (symbol.CLOSE_BRACE, codes "}") ∷ []

-- what a table has at the numbers of these rows
abbrev pub read_at : List (List ℕ) → List (ℕ × List ℕ) → List (Option (List ℕ))
read_at table rows = map (λ r. slice_get table r.0) rows

abbrev pub texts : List (ℕ × List ℕ) → List (List ℕ)
texts rows = map (λ r. r.1) rows

-- A table has at each constant its text, and no other text.
pub record IsSpelledBy (table : List (List ℕ)) (rows : List (ℕ × List ℕ)) : Type 0 where
  pub each : read_at table rows ≡ map (λ t. Some t) (texts rows)
  pub no_other : texts rows ≡ table

pub record AreSpelled : Type 0 where
  pub all_words : IsSpelledBy reserved_words spelled_words
  pub all_symbols : IsSpelledBy symbols spelled_symbols

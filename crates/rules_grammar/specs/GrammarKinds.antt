-- The kinds of the symbols, and of the reserved words that stand in no table of the grammar or that others name too (own).
use Rattle.rules_tokens.specs.declared.symbol.TheConstants as symbols
use Rattle.rules_tokens.specs.declared.word.TheConstants as words
use Rattle.rules_grammar.specs.GrammarParts.{TokenKind, word, symbol}

abbrev pub True : TokenKind
True = word words.TRUE

abbrev pub False : TokenKind
False = word words.FALSE

abbrev pub Nothing : TokenKind
Nothing = word words.NOTHING

abbrev pub Just : TokenKind
Just = word words.JUST

abbrev pub Left : TokenKind
Left = word words.LEFT

abbrev pub Right : TokenKind
Right = word words.RIGHT

abbrev pub ThreadKilled : TokenKind
ThreadKilled = word words.THREAD_KILLED

abbrev pub UserInterrupt : TokenKind
UserInterrupt = word words.USER_INTERRUPT

abbrev pub DivideByZero : TokenKind
DivideByZero = word words.DIVIDE_BY_ZERO

abbrev pub Overflow : TokenKind
Overflow = word words.OVERFLOW

abbrev pub Int : TokenKind
Int = word words.INT

abbrev pub Bool : TokenKind
Bool = word words.BOOL

abbrev pub Text : TokenKind
Text = word words.TEXT

abbrev pub ThreadId : TokenKind
ThreadId = word words.THREAD_ID

abbrev pub SomeException : TokenKind
SomeException = word words.SOME_EXCEPTION

abbrev pub Maybe : TokenKind
Maybe = word words.MAYBE

abbrev pub Either : TokenKind
Either = word words.EITHER

abbrev pub MVar : TokenKind
MVar = word words.MVAR

abbrev pub IO : TokenKind
IO = word words.IO

abbrev pub if' : TokenKind
if' = word words.IF

abbrev pub then' : TokenKind
then' = word words.THEN

abbrev pub else' : TokenKind
else' = word words.ELSE

abbrev pub case' : TokenKind
case' = word words.CASE

abbrev pub of' : TokenKind
of' = word words.OF

abbrev pub let' : TokenKind
let' = word words.LET

abbrev pub in' : TokenKind
in' = word words.IN

abbrev pub div : TokenKind
div = word words.DIV

abbrev pub mod' : TokenKind
mod' = word words.MOD

abbrev pub throwIO : TokenKind
throwIO = word words.THROW_IO

abbrev pub hPutStrLn : TokenKind
hPutStrLn = word words.H_PUT_STR_LN

abbrev pub stderr : TokenKind
stderr = word words.STDERR

abbrev pub newEmptyMVar : TokenKind
newEmptyMVar = word words.NEW_EMPTY_MVAR

abbrev pub modifyMVar_ : TokenKind
modifyMVar_ = word words.MODIFY_MVAR

abbrev pub catch' : TokenKind
catch' = word words.CATCH

abbrev pub restore : TokenKind
restore = word words.RESTORE

abbrev pub bracket : TokenKind
bracket = word words.BRACKET

abbrev pub timeout : TokenKind
timeout = word words.TIMEOUT

abbrev pub Async : TokenKind
Async = word words.ASYNC

abbrev pub withAsync : TokenKind
withAsync = word words.WITH_ASYNC

-- ::
abbrev pub double_colon : TokenKind
double_colon = symbol symbols.DOUBLE_COLON

-- ->
abbrev pub arrow : TokenKind
arrow = symbol symbols.ARROW

-- <-
abbrev pub left_arrow : TokenKind
left_arrow = symbol symbols.LEFT_ARROW

-- ==
abbrev pub equal_equal : TokenKind
equal_equal = symbol symbols.EQUAL_EQUAL

-- /=
abbrev pub slash_equal : TokenKind
slash_equal = symbol symbols.SLASH_EQUAL

-- <=
abbrev pub less_equal : TokenKind
less_equal = symbol symbols.LESS_EQUAL

-- >=
abbrev pub greater_equal : TokenKind
greater_equal = symbol symbols.GREATER_EQUAL

-- &&
abbrev pub and_and : TokenKind
and_and = symbol symbols.AND

-- ||
abbrev pub or_or : TokenKind
or_or = symbol symbols.OR

-- ++
abbrev pub plus_plus : TokenKind
plus_plus = symbol symbols.PLUS_PLUS

-- =
abbrev pub equal : TokenKind
equal = symbol symbols.EQUAL

-- <
abbrev pub less : TokenKind
less = symbol symbols.LESS

-- >
abbrev pub greater : TokenKind
greater = symbol symbols.GREATER

-- +
abbrev pub plus : TokenKind
plus = symbol symbols.PLUS

-- -
abbrev pub minus : TokenKind
minus = symbol symbols.MINUS

-- *
abbrev pub star : TokenKind
star = symbol symbols.STAR

-- :
abbrev pub colon : TokenKind
colon = symbol symbols.COLON

-- ;
abbrev pub semicolon : TokenKind
semicolon = symbol symbols.SEMICOLON

-- ,
abbrev pub comma : TokenKind
comma = symbol symbols.COMMA

-- @
abbrev pub at_sign : TokenKind
at_sign = symbol symbols.AT

-- (
abbrev pub open_paren : TokenKind
open_paren = symbol symbols.OPEN_PAREN

-- )
abbrev pub close_paren : TokenKind
close_paren = symbol symbols.CLOSE_PAREN

-- [
abbrev pub open_bracket : TokenKind
open_bracket = symbol symbols.OPEN_BRACKET

-- ]
abbrev pub close_bracket : TokenKind
close_bracket = symbol symbols.CLOSE_BRACKET

-- {
abbrev pub open_brace : TokenKind
open_brace = symbol symbols.OPEN_BRACE

-- }
abbrev pub close_brace : TokenKind
close_brace = symbol symbols.CLOSE_BRACE

-- The status of an ending, and its line on the error sink (own).
use Rattle.std.specs.Prelude.{ℕ, List, [], ◌++◌, codes, string_bytes, ⊤}
use Rattle.std.specs.Fmt.{decimal}
use Rattle.hs_base.specs.declared.pos.Pos.{Pos}
use Rattle.hs_lex.specs.declared.fault.LexFault.{LexFault}
use Rattle.hs_lex.specs.declared.fault.LexFault.TheVariants as lex
use Rattle.hs_parse.specs.declared.fault.ParseFault.{ParseFault}
use Rattle.hs_parse.specs.declared.fault.ParseFault.TheVariants as parse
use Rattle.typing_parts.specs.declared.fault.TypeFault.{TypeFault}
use Rattle.typing_parts.specs.declared.fault.TypeFault.TheVariants as types
use Rattle.hs_rules.specs.Primitives.{line_feed}
use Rattle.hs_rules.specs.Endings.{limit_line, memory_line}
use Rattle.conc_caps.specs.RunEnd.{RunEnd}
use Rattle.conc_caps.specs.RunEnd.TheVariants as end
use Rattle.hs_compile.specs.declared.refusal.Refusal.{Refusal}
use Rattle.hs_compile.specs.declared.refusal.Refusal.TheVariants as refusal
use Rattle.trace_report.specs.Verified.{Verified as VerifiedRun}
use Rattle.outcome_listing.specs.declared.explored.Extent.{Extent}
use Rattle.outcome_listing.specs.declared.explored.Extent.TheVariants.{All, NotAll}
use Rattle.trace_report.specs.Reached.{Reached}
use Rattle.trace_report.specs.Reached.TheVariants as reached
use Rattle.claim_lines.specs.declared.verdict.Judged.{Judged}
use Rattle.claim_lines.specs.declared.verdict.Judged.TheVariants as judged
use Rattle.conc_top.specs.declared.ending.NotRun.{NotRun as NoRun}
use Rattle.conc_top.specs.declared.ending.NotRun.TheVariants as norun
use Rattle.conc_top.specs.declared.ending.Line.{Line}
use Rattle.conc_top.specs.declared.ending.Line.TheVariants.{Fixed, Made}
use Rattle.conc_top.specs.declared.ending.Ending.{Ending}
use Rattle.conc_top.specs.declared.ending.Ending.TheVariants.{Ran, Accepted, Words, Refused, Read, Memory, Write, Verified, Reported, Pictured, NotRun, NotDrawn, Outcomes, NoOutcome, Claims, ClaimRefused, NoClaim, Printed}

abbrev pub run_status : RunEnd → ℕ
run_status end.Done = 0
run_status end.Uncaught = 1
run_status end.Deadlock = 4
run_status end.Fuel = 5
run_status end.Memory = 6
run_status end.Write = 8
run_status (end.Limit kind entry) = 9

abbrev pub extent_status : Extent → ℕ
extent_status All = 0
extent_status (NotAll why run) = 11

abbrev pub judged_status : Judged → ℕ
judged_status judged.Hold = 0
judged_status judged.Fail = 14
judged_status judged.Open = 11

-- the status with which the program ends
abbrev pub status_of : Ending → ℕ
status_of (Ran r) = run_status r
status_of Accepted = 0
status_of Words = 2
status_of (Refused r) = 3
status_of Memory = 6
status_of Read = 7
status_of Write = 8
status_of (Verified v) = 0
status_of Reported = 0
status_of Pictured = 0
status_of (NotRun why) = 10
status_of (NotDrawn n) = 13
status_of (Outcomes extent) = extent_status extent
status_of (NoOutcome k) = 12
status_of (Claims j) = judged_status j
status_of (ClaimRefused at) = 3
status_of NoClaim = 12
status_of Printed = 0

abbrev pub run_line : RunEnd → List ℕ
run_line end.Done = []
run_line end.Uncaught = []
run_line end.Deadlock = codes "deadlock" ++ line_feed
run_line end.Fuel = codes "out of fuel" ++ line_feed
run_line end.Memory = memory_line
run_line end.Write = []
run_line (end.Limit kind entry) = limit_line kind

-- refused: KIND at L:C
abbrev pub placed_line : List ℕ → Pos → List ℕ
placed_line kind at = codes "refused: " ++ kind ++ codes " at " ++ decimal at.line ++ codes ":" ++ decimal at.col ++ line_feed

abbrev pub lex_line : LexFault → List ℕ
lex_line (lex.NotUtf8 at) = placed_line (codes "NotUtf8") at
lex_line (lex.BadChar at) = placed_line (codes "BadChar") at
lex_line (lex.OpenText at) = placed_line (codes "OpenText") at
lex_line (lex.BigNumber at) = placed_line (codes "BigNumber") at
-- this one is no refusal
lex_line lex.NoMemory = memory_line

abbrev pub parse_line : ParseFault → List ℕ
parse_line (parse.Unexpected at) = placed_line (codes "Unexpected") at
parse_line (parse.Deep at) = placed_line (codes "Deep") at
-- this one is no refusal
parse_line parse.NoMemory = memory_line

-- the missing `main` is shown at the first place
abbrev pub types_line : TypeFault → List ℕ
types_line (types.Twice at) = placed_line (codes "Twice") at
types_line (types.Unknown at) = placed_line (codes "Unknown") at
types_line (types.Kind at) = placed_line (codes "Kind") at
types_line (types.Forward at) = placed_line (codes "Forward") at
types_line (types.Arity at want got) = placed_line (codes "Arity") at
types_line (types.Mismatch at want got) = placed_line (codes "Mismatch") at
types_line (types.Scope at) = placed_line (codes "Scope") at
types_line (types.Wide at) = placed_line (codes "Wide") at
types_line (types.Large at) = placed_line (codes "Large") at
types_line types.NoMain = codes "refused: NoMain at 1:1" ++ line_feed
-- this one is no refusal
types_line types.NoMemory = memory_line

abbrev pub refusal_line : Refusal → List ℕ
refusal_line refusal.TooLong = codes "refused: TooLong" ++ line_feed
refusal_line (refusal.Lex fault) = lex_line fault
refusal_line (refusal.Parse fault) = parse_line fault
refusal_line (refusal.Types fault) = types_line fault

-- the line that goes to the output sink where `check` accepts a script
abbrev pub accepted_line : List ℕ
accepted_line = codes "accepted" ++ line_feed

-- what a run came to that is verified
abbrev pub reached_word : Reached → List ℕ
reached_word reached.Done = codes "done"
reached_word reached.Uncaught = codes "uncaught"
reached_word reached.Deadlock = codes "deadlock"
reached_word reached.Open = codes "open"

-- the line that goes to the output sink where `verify` finds a run
abbrev pub verified_line : VerifiedRun → List ℕ
verified_line v = codes "a run: " ++ decimal v.entries ++ codes " entries, " ++ decimal v.steps ++ codes " steps, " ++ reached_word v.end ++ line_feed

-- not a run: KIND at line N
abbrev pub numbered_line : List ℕ → ℕ → List ℕ
numbered_line kind number = kind ++ decimal number ++ line_feed

abbrev pub norun_line : NoRun → List ℕ
norun_line norun.NoScript = codes "not a run: NoScript" ++ line_feed
norun_line (norun.Spelling number) = numbered_line (codes "not a run: Spelling at line ") number
norun_line (norun.Long number) = numbered_line (codes "not a run: Long at line ") number
norun_line (norun.Illegal number) = numbered_line (codes "not a run: Illegal at line ") number

-- not drawn: N entries, at most 10000
abbrev pub undrawn_line : ℕ → List ℕ
undrawn_line n = codes "not drawn: " ++ decimal n ++ codes " entries, at most 10000\n"

-- no outcome K
abbrev pub absent_line : ℕ → List ℕ
absent_line k = codes "no outcome " ++ decimal k ++ line_feed

-- the line that goes to the error sink, or nothing
abbrev pub line_of : Ending → List ℕ
line_of (Ran r) = run_line r
line_of Accepted = []
line_of Words = codes "words not understood" ++ line_feed
line_of (Refused r) = refusal_line r
line_of Memory = memory_line
line_of Read = codes "read fault" ++ line_feed
line_of Write = []
line_of (Verified v) = []
line_of Reported = []
line_of Pictured = []
line_of (NotRun why) = norun_line why
line_of (NotDrawn n) = undrawn_line n
line_of (Outcomes extent) = []
line_of (NoOutcome k) = absent_line k
line_of (Claims j) = []
line_of (ClaimRefused at) = placed_line (codes "Claim") at
line_of NoClaim = codes "no claim" ++ line_feed
line_of Printed = []

-- the line has a place in it; that of a missing `main` is the same text each time
abbrev pub PlacesLexFault : LexFault → Type 0
PlacesLexFault (lex.NotUtf8 at) = ⊤
PlacesLexFault (lex.BadChar at) = ⊤
PlacesLexFault (lex.OpenText at) = ⊤
PlacesLexFault (lex.BigNumber at) = ⊤
PlacesLexFault lex.NoMemory = ⊥

abbrev pub PlacesParseFault : ParseFault → Type 0
PlacesParseFault (parse.Unexpected at) = ⊤
PlacesParseFault (parse.Deep at) = ⊤
PlacesParseFault parse.NoMemory = ⊥

abbrev pub PlacesTypeFault : TypeFault → Type 0
PlacesTypeFault (types.Twice at) = ⊤
PlacesTypeFault (types.Unknown at) = ⊤
PlacesTypeFault (types.Kind at) = ⊤
PlacesTypeFault (types.Forward at) = ⊤
PlacesTypeFault (types.Arity at want got) = ⊤
PlacesTypeFault (types.Mismatch at want got) = ⊤
PlacesTypeFault (types.Scope at) = ⊤
PlacesTypeFault (types.Wide at) = ⊤
PlacesTypeFault (types.Large at) = ⊤
PlacesTypeFault types.NoMain = ⊥
PlacesTypeFault types.NoMemory = ⊥

abbrev pub RefusesAPlace : Refusal → Type 0
RefusesAPlace refusal.TooLong = ⊥
RefusesAPlace (refusal.Lex fault) = PlacesLexFault fault
RefusesAPlace (refusal.Parse fault) = PlacesParseFault fault
RefusesAPlace (refusal.Types fault) = PlacesTypeFault fault

abbrev pub NumbersALine : NoRun → Type 0
NumbersALine norun.NoScript = ⊥
NumbersALine (norun.Spelling number) = ⊤
NumbersALine (norun.Long number) = ⊤
NumbersALine (norun.Illegal number) = ⊤

abbrev pub HasPlace : Ending → Type 0
HasPlace (Ran r) = ⊥
HasPlace Accepted = ⊥
HasPlace Words = ⊥
HasPlace (Refused r) = RefusesAPlace r
HasPlace Memory = ⊥
HasPlace Read = ⊥
HasPlace Write = ⊥
HasPlace (Verified v) = ⊥
HasPlace Reported = ⊥
HasPlace Pictured = ⊥
HasPlace (NotRun why) = NumbersALine why
HasPlace (NotDrawn n) = ⊤
HasPlace (Outcomes extent) = ⊥
HasPlace (NoOutcome k) = ⊤
HasPlace (Claims j) = ⊥
HasPlace (ClaimRefused at) = ⊤
HasPlace NoClaim = ⊥
HasPlace Printed = ⊥

-- the bytes of a line as it is told
abbrev pub text_of : Line → List ℕ
text_of (Fixed text) = text.now
text_of (Made text) = string_bytes text

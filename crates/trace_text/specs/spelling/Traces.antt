-- Written histories (own): the lines that spell entries, traces, and documents.
use Rattle.std.specs.Prelude.{◌≡◌, ◌≢◌, ℕ, ◌+◌, ◌-◌, ◌<◌, ◌^◌, ◌⊎◌, List, [], ◌++◌, codes, length, take, drop, slice_index}
use Rattle.std.specs.Fmt.{decimal}
use Rattle.std.specs.List.{flat_map, AllByRecursion}
use Rattle.hs_rules.specs.declared.entry.Entry.{Entry}
use Rattle.hs_rules.specs.declared.entry.Entry.TheVariants.{Local, Op, Receive, Wake, Finish, Tick, Stranded}

-- ---- Lines

-- The line of an entry: a letter, its numbers in decimal without leading zeros, one blank before each, and a line feed.
abbrev pub line_of : Entry → List ℕ
line_of (Local t k) = codes "L " ++ decimal t ++ codes " " ++ decimal k ++ codes "\n"
line_of (Op t) = codes "O " ++ decimal t ++ codes "\n"
line_of (Receive t) = codes "R " ++ decimal t ++ codes "\n"
line_of (Wake t) = codes "W " ++ decimal t ++ codes "\n"
line_of (Finish t) = codes "F " ++ decimal t ++ codes "\n"
line_of (Tick at) = codes "T " ++ decimal at ++ codes "\n"
line_of Stranded = codes "S\n"

-- the numbers of an entry are within their types
abbrev pub Fits : Entry → Type 0
Fits (Local t k) = (t < 2 ^ 32) × (k < 2 ^ 32)
Fits (Op t) = t < 2 ^ 32
Fits (Receive t) = t < 2 ^ 32
Fits (Wake t) = t < 2 ^ 32
Fits (Finish t) = t < 2 ^ 32
Fits (Tick at) = at < 2 ^ 64
Fits Stranded = Unit {0}

-- no line of an entry stands at the begin of these bytes
abbrev pub BeginsNoLine : List ℕ → Type 0
BeginsNoLine bytes = (e : Entry) (rest : List ℕ) → Fits e → bytes ≢ line_of e ++ rest

-- ---- Traces

-- the first line of a trace
unfoldable pub header : List ℕ
header = codes "conc-trace 1\n"

-- the trace of these entries: the first line, and then a line for each
abbrev pub trace_of : List Entry → List ℕ
trace_of es = header ++ flat_map line_of es

-- The text is the trace of these entries as far as it has been read, and then goes on with these bytes.
pub record Reads (text : List ℕ) (es : List Entry) (rest : List ℕ) : Type 0 where
  pub fit : AllByRecursion Fits es
  pub spelled : text ≡ trace_of es ++ rest

-- The text is the trace that spells these entries.
abbrev pub Spells : List ℕ → List Entry → Type 0
Spells text es = Reads text es []

-- the text doesn't begin with the first line of a trace
abbrev pub HasNoHeader : List ℕ → Type 0
HasNoHeader text = (rest : List ℕ) → text ≢ header ++ rest

-- Behind the lines of these entries the text goes on, and with no line of an entry: the next line is wrong, or cut off
-- by the end of the text.
pub record GoesWrong (text : List ℕ) (es : List Entry) (rest : List ℕ) : Type 0 where
  pub read : Reads text es rest
  pub more : rest ≢ []
  pub wrong : BeginsNoLine rest

-- The first line of the text that isn't as a trace has it has this number, from 1 on; the end of the text within a line,
-- or in place of the first one, is a fault of that line.
abbrev pub IsMisspelled : List ℕ → ℕ → Type 0
IsMisspelled text line = (HasNoHeader text × (line ≡ 1)) ⊎ ((es : List Entry) × (rest : List ℕ) × GoesWrong text es rest × (line ≡ length es + 2))

-- ---- Documents

-- the line between a trace and its script
unfoldable pub script_line : List ℕ
script_line = codes "script\n"

-- a document: a trace, the line `script`, and the bytes of a script
abbrev pub document_of : List Entry → List ℕ → List ℕ
document_of es script = trace_of es ++ script_line ++ script

-- a line begins at this place: at the begin of the text, or behind a line feed
abbrev pub BeginsLine : List ℕ → ℕ → Type 0
BeginsLine text at = (at ≡ 0) ⊎ (slice_index text (at - 1) ≡ 10)

-- a line that is exactly `script` and ends with a line feed begins at this place
pub record IsScriptLine (text : List ℕ) (at : ℕ) : Type 0 where
  pub begins : BeginsLine text at
  pub line : take 7 (drop at text) ≡ script_line

-- What reading a text line by line answers.
use Rattle.std.specs.Prelude.{◌≡◌, ◌≢◌, ℕ, ◌+◌, ◌≤◌, List, [], ◌∷◌, ◌++◌, length, take, drop}
use Rattle.std.specs.List.{flat_map, AllByRecursion}
use Rattle.hs_rules.specs.declared.entry.Entry.{Entry}
use Rattle.trace_text.specs.spelling.Traces.{Fits, line_of, trace_of, BeginsNoLine, Reads, Spells, IsMisspelled, IsScriptLine, document_of}
use Rattle.trace_text.specs.declared.lines.Line.{Line}
use Rattle.trace_text.specs.declared.lines.Line.TheVariants as line

-- how many lines were read, the first one of the trace among them, and the bytes behind them
pub record Place : Type 0 where
  pub lines : ℕ
  pub rest : List ℕ

abbrev pub place_of : ℕ → List ℕ → Place
place_of n bytes = record { lines = n; rest = bytes }

-- From a place the next line is read, and then this one is reached: an entry with its line behind it, or nothing more, or a
-- line that isn't as a trace has it, which is counted but not passed.
abbrev pub Answers : Place → Place → Line → Type 0
Answers old new (line.Entry e) = Fits e × (old.rest ≡ line_of e ++ new.rest) × (new.lines ≡ old.lines + 1)
Answers old new (line.Spelling n) = BeginsNoLine old.rest × (old.rest ≢ []) × (n ≡ old.lines + 1) × (new ≡ old)
Answers old new line.End = (old.rest ≡ []) × (new ≡ old)

-- these entries begin with those, and so do the bytes behind them
pub record GoesOn (es fs : List Entry) (rest after : List ℕ) : Type 0 where
  pub others : List Entry
  pub entries : fs ≡ es ++ others
  pub bytes : rest ≡ flat_map line_of others ++ after

-- a text that is read on by a line is read on by its entry
abbrev pub ReadsOn : Type 0
ReadsOn = (text : List ℕ) (es : List Entry) (e : Entry) (rest : List ℕ) → Reads text es (line_of e ++ rest) → Fits e → Reads text (es ++ e ∷ []) rest

-- two lists of entries that spell one text are one
abbrev pub OneSpelling : Type 0
OneSpelling = (text : List ℕ) (es fs : List Entry) → Spells text es → Spells text fs → es ≡ fs

-- A text is read in one way: where it is read as far as some entries and as far as no fewer others, these begin with those,
-- and what stood behind the first is the lines of the others that follow.
abbrev pub OneReading : Type 0
OneReading = (text : List ℕ) (es fs : List Entry) (rest after : List ℕ) → length es ≤ length fs → Reads text es rest → Reads text fs after → GoesOn es fs rest after

-- the line that isn't as a trace has it comes after all lines that were read
abbrev pub FaultsComeLater : Type 0
FaultsComeLater = (text : List ℕ) (es : List Entry) (rest : List ℕ) (n : ℕ) → Reads text es rest → IsMisspelled text n → length es + 2 ≤ n

-- a text has one first such line
abbrev pub OneFault : Type 0
OneFault = (text : List ℕ) (m n : ℕ) → IsMisspelled text m → IsMisspelled text n → m ≡ n

-- and a trace has none
abbrev pub TracesAreFaultless : Type 0
TracesAreFaultless = (text : List ℕ) (es : List Entry) (n : ℕ) → Spells text es → ¬ IsMisspelled text n

-- a document is parted where its trace ends
pub record IsPartedBy (document trace script : List ℕ) : Type 0 where
  pub line : IsScriptLine document (length trace)
  pub first : (at : ℕ) → IsScriptLine document at → length trace ≤ at
  pub before : take (length trace) document ≡ trace
  pub behind : drop (length trace + 7) document ≡ script

-- no line of a trace is `script`, so a document has one trace and one script
abbrev pub DocumentsPart : Type 0
DocumentsPart = (es : List Entry) (script : List ℕ) → AllByRecursion Fits es → IsPartedBy (document_of es script) (trace_of es) script

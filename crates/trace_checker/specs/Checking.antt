-- What the check of a trace answers (own).
use Rattle.std.specs.Prelude.{◌≡◌, ℕ, ◌+◌, ◌≤◌, ◌<◌, ◌⊎◌, List, [], ◌∷◌, ◌++◌, length, Result, Ok, Err}
use Rattle.hs_rules.specs.declared.entry.Entry.{Entry}
use Rattle.hs_rules.specs.Histories.{steps_of}
use Rattle.hs_rules.specs.Runs.{IsRun}
use Rattle.hs_rules.specs.State.{State}
use Rattle.rules_meaning.specs.CoreMeaning.{code_of}
use Rattle.rules_expansion.specs.trees.Programs.{Fn}
use Rattle.trace_text.specs.spelling.Traces.{Reads, Spells, HasNoHeader, GoesWrong}
use Rattle.trace_checker.specs.player.Playing.{ReachedAs}
use Rattle.trace_checker.specs.declared.verdict.Verified.{Verified}
use Rattle.trace_checker.specs.declared.verdict.RunFault.{RunFault}
use Rattle.trace_checker.specs.declared.verdict.RunFault.TheVariants as fault

-- so many steps may a run have that is checked
abbrev pub most_steps : ℕ
most_steps = 4000000

-- the entries are a run of the script that leaves this state, and have no more steps than may be
pub record RunsTo (ds : List Fn) (es : List Entry) (s : State) : Type 0 where
  pub run : IsRun ds es s
  pub within : steps_of es ≤ most_steps

-- the same, whatever state they leave
abbrev pub Runs : List Fn → List Entry → Type 0
Runs ds es = (s : State) × RunsTo ds es s

-- the entry behind these has this line: the first line of a trace is line 1, and each entry has one
abbrev pub line_behind : List Entry → ℕ
line_behind es = length es + 2

-- ---- a row for each answer

-- the text is the trace of these entries, they are such a run, and this is how many they are, their steps, and what they come to
pub record IsVerified (ds : List Fn) (text : List ℕ) (v : Verified) : Type 0 where
  pub list : List Entry
  pub state : State
  pub spelled : Spells text list
  pub runs : RunsTo ds list state
  pub entries : v.entries ≡ length list
  pub steps : v.steps ≡ steps_of list
  pub end : ReachedAs v.end (code_of ds) state

-- the line is the first that isn't as a trace has it, and the entries before it are such a run
abbrev pub IsMisspelledBehind : List Fn → List ℕ → ℕ → Type 0
IsMisspelledBehind ds text line = (HasNoHeader text × (line ≡ 1)) ⊎ ((es : List Entry) × (rest : List ℕ) × GoesWrong text es rest × Runs ds es × (line ≡ line_behind es))

-- the line spells an entry behind those of such a run
pub record GoesOn (ds : List Fn) (text : List ℕ) (number : ℕ) (es : List Entry) (e : Entry) : Type 0 where
  pub rest : List ℕ
  pub read : Reads text (es ++ e ∷ []) rest
  pub runs : Runs ds es
  pub line : number ≡ line_behind es

-- the line's entry has more steps than are left
abbrev pub IsLong : List Fn → List ℕ → ℕ → Type 0
IsLong ds text line = (es : List Entry) × (e : Entry) × GoesOn ds text line es e × (most_steps < steps_of (es ++ e ∷ []))

-- the line's entry has no more steps than are left, and isn't legal after those before it
abbrev pub IsIllegal : List Fn → List ℕ → ℕ → Type 0
IsIllegal ds text line = (es : List Entry) × (e : Entry) × GoesOn ds text line es e × (steps_of (es ++ e ∷ []) ≤ most_steps) × ((u : State) → ¬ IsRun ds (es ++ e ∷ []) u)

-- ---- all of them

abbrev pub Row : List Fn → List ℕ → Result Verified RunFault → Type 0
Row ds text (Ok v) = IsVerified ds text v
Row ds text (Err (fault.Spelling line)) = IsMisspelledBehind ds text line
Row ds text (Err (fault.Long line)) = IsLong ds text line
Row ds text (Err (fault.Illegal line)) = IsIllegal ds text line
Row ds text (Err fault.NoMemory) = Unit {0}

-- this is so of the text and of the script with these definitions
abbrev pub Judges : List Fn → List ℕ → Result Verified RunFault → Type 0
Judges ds text answer = ∥ Row ds text answer ∥₁

-- it says something of the text
abbrev pub IsVerdict : Result Verified RunFault → Type 0
IsVerdict (Ok v) = Unit {0}
IsVerdict (Err (fault.Spelling line)) = Unit {0}
IsVerdict (Err (fault.Long line)) = Unit {0}
IsVerdict (Err (fault.Illegal line)) = Unit {0}
IsVerdict (Err fault.NoMemory) = ⊥

-- a text has one verdict for a script
abbrev pub OneVerdict : Type 0
OneVerdict = (ds : List Fn) (text : List ℕ) (a b : Result Verified RunFault) → IsVerdict a → IsVerdict b → Judges ds text a → Judges ds text b → a ≡ b

-- ---- what is told of a run

-- The text is the trace of a run of the script, of no more steps than may be.
abbrev pub IsRunText : List Fn → List ℕ → Type 0
IsRunText ds text = ∥ ((es : List Entry) × (s : State) × Spells text es × RunsTo ds es s) ∥₁

-- The text is one, and this is told of that run.
abbrev pub TellsOfRun : (List Fn → List Entry → State → List ℕ) → List Fn → (text told : List ℕ) → Type 0
TellsOfRun telling ds text told = ∥ ((es : List Entry) × (s : State) × Spells text es × RunsTo ds es s × (told ≡ telling ds es s)) ∥₁

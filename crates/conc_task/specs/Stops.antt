-- Why there is nothing to run, and nothing is accepted (own).
use Rattle.std.specs.Prelude.{◌≡◌, ◌≤◌, ◌<◌, ◌⊎◌, ℕ, List, Option, Some, None, IsSome, length, ⊤}
use Rattle.conc_task.specs.declared.words.command.Command.{Command}
use Rattle.conc_task.specs.declared.words.command.Command.TheVariants.{Run, Check, Bench, Trace, Outcomes, Claims, Haskell, Ask}
use Rattle.hs_compile.specs.declared.refusal.Refusal.{Refusal}
use Rattle.hs_compile.specs.declared.refusal.Refusal.TheVariants as refusal
use Rattle.hs_compile.specs.declared.refusal.CompileFault.{CompileFault}
use Rattle.hs_compile.specs.declared.refusal.CompileFault.TheVariants as compile
use Rattle.hs_compile.specs.Verdicts.{IsRefused, script_limit}
use Rattle.conc_task.specs.declared.stop.Stop.{Stop}
use Rattle.conc_task.specs.declared.stop.Stop.TheVariants.{Words, Refused, Read, NoScript, Memory}
use Rattle.conc_task.specs.Documents.{document_limit, HasBareDocument, HasDocument, HasLongDocument, HasNoScript, IsLeft, IsParted}
use Rattle.conc_task.specs.Commands.{AsksSomething, IsInput, ReadsSource, source_limit}
use Rattle.conc_task.specs.Inputs.{ReadThrough, TookFew}

-- A document is refused: it is too long, or it is not, and its script is refused.
abbrev pub RefusesDocument : (before : Option (List ℕ)) → (bytes : List ℕ) → Refusal → Type 0
RefusesDocument before bytes r = ((trace : List ℕ) × HasDocument before trace bytes × IsRefused r bytes) ⊎ ((r ≡ refusal.TooLong) × HasLongDocument before)

-- The input of the command is refused.
abbrev pub RefusesInput : Option Command → (before : Option (List ℕ)) → (bytes : List ℕ) → Refusal → Type 0
RefusesInput None before bytes r = IsRefused r bytes
RefusesInput (Some (Run capabilities fuel clock)) before bytes r = IsRefused r bytes
RefusesInput (Some Check) before bytes r = IsRefused r bytes
RefusesInput (Some (Bench threads capabilities fuel)) before bytes r = IsRefused r bytes
RefusesInput (Some (Trace capabilities fuel clock)) before bytes r = IsRefused r bytes
RefusesInput (Some (Outcomes clock states fuel witness)) before bytes r = IsRefused r bytes
RefusesInput (Some (Claims clock states fuel)) before bytes r = IsRefused r bytes
RefusesInput (Some Haskell) before bytes r = IsRefused r bytes
RefusesInput (Some (Ask question)) before bytes r = RefusesDocument before bytes r

-- The cause of each, by the command that the words are, if they are one, what the source had left, and the bytes of the input.
-- Want of memory is free.
abbrev pub IsStopped : Option Command → (before : Option (List ℕ)) → (bytes : List ℕ) → (read_fault : Type 0) → Stop → Type 0
IsStopped command before bytes read_fault Words = command ≡ None
IsStopped command before bytes read_fault (Refused r) = IsSome command × RefusesInput command before bytes r
IsStopped command before bytes read_fault Read = ReadsSource command × read_fault
IsStopped command before bytes read_fault NoScript = AsksSomething command × HasBareDocument before
IsStopped command before bytes read_fault Memory = ⊤

-- How much of the source was taken: all of it where a script was refused or a document has none, and never more than one byte
-- past the limit.
abbrev pub WasRead : (limit : ℕ) → Stop → (before now : Option (List ℕ)) → Type 0
WasRead limit Words before now = ⊤
WasRead limit (Refused r) before now = ReadThrough limit before now
WasRead limit Read before now = TookFew limit before now
WasRead limit NoScript before now = ReadThrough limit before now
WasRead limit Memory before now = TookFew limit before now

-- there is nothing to run and nothing is accepted, for the cause that is named
pub record HasNone (command : Option Command) (read_fault : Type 0) (before now : Option (List ℕ)) (stop : Stop) : Type 0 where
  pub bytes : List ℕ
  pub input : IsInput command before bytes
  pub stopped : IsStopped command before bytes read_fault stop
  pub through : ReadsSource command → WasRead (source_limit command) stop before now

-- only a failed read raises the source's count of faults
abbrev pub Counted : Stop → (before now : ℕ) → Type 0
Counted Words before now = now ≡ before
Counted (Refused r) before now = now ≡ before
Counted Read before now = before ≤ now
Counted NoScript before now = now ≡ before
Counted Memory before now = now ≡ before

-- ---- the parts of it

-- the words are no command, or there was no memory to see what they are
abbrev pub IsUnclear : Option Command → Stop → Type 0
IsUnclear command Words = command ≡ None
IsUnclear command (Refused r) = ⊥
IsUnclear command Read = ⊥
IsUnclear command NoScript = ⊥
IsUnclear command Memory = ⊤

-- a read failed, or there was no memory
abbrev pub IsUnread : (limit : ℕ) → (read_fault : Type 0) → (before now : Option (List ℕ)) → Stop → Type 0
IsUnread limit read_fault before now Words = ⊥
IsUnread limit read_fault before now (Refused r) = ⊥
IsUnread limit read_fault before now Read = read_fault × TookFew limit before now
IsUnread limit read_fault before now NoScript = ⊥
IsUnread limit read_fault before now Memory = TookFew limit before now

-- the source had no accepted script, a read failed, or there was no memory
abbrev pub HadNone : (read_fault : Type 0) (before now : Option (List ℕ)) → Stop → Type 0
HadNone read_fault before now Words = ⊥
HadNone read_fault before now (Refused r) = (bytes : List ℕ) × IsLeft before bytes × IsRefused r bytes × ReadThrough script_limit before now
HadNone read_fault before now Read = read_fault × TookFew script_limit before now
HadNone read_fault before now NoScript = ⊥
HadNone read_fault before now Memory = TookFew script_limit before now

-- these bytes are no accepted script, or there was no memory to see what they are
abbrev pub IsDenied : List ℕ → Stop → Type 0
IsDenied bytes Words = ⊥
IsDenied bytes (Refused r) = IsRefused r bytes
IsDenied bytes Read = ⊥
IsDenied bytes NoScript = ⊥
IsDenied bytes Memory = ⊤

-- a document has no accepted script, it is too long, no line of it is `script`, or there was no memory
abbrev pub IsNoReplay : (document : List ℕ) → Stop → Type 0
IsNoReplay document Words = ⊥
IsNoReplay document (Refused r) =
    ((length document ≤ document_limit) × (trace : List ℕ) × (bytes : List ℕ) × IsParted document trace bytes × IsRefused r bytes)
    ⊎ ((r ≡ refusal.TooLong) × (document_limit < length document))
IsNoReplay document Read = ⊥
IsNoReplay document NoScript = (length document ≤ document_limit) × HasNoScript document
IsNoReplay document Memory = ⊤

-- why there is no script, where the front has none
abbrev pub stop_of : CompileFault → Stop
stop_of (compile.Refused r) = Refused r
stop_of compile.NoMemory = Memory

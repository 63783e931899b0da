-- When each answer of the top call comes (own).
use Rattle.std.specs.Prelude.{◌≡◌, ◌≤◌, ◌<◌, ◌⊎◌, ℕ, List, Option, Some, None, IsSome, Result, Ok, Err, length, ⊤}
use Rattle.hs_base.specs.declared.tree.script.Script.{Script}
use Rattle.hs_rules.specs.declared.entry.Entry.{Entry}
use Rattle.hs_rules.specs.State.{State}
use Rattle.rules_expansion.specs.trees.Programs.{Fn, script_of}
use Rattle.conc_caps.specs.RunEnd.{RunEnd}
use Rattle.conc_caps.specs.RunEnd.TheVariants as end
use Rattle.conc_task.specs.declared.words.command.Command.{Command}
use Rattle.conc_task.specs.declared.words.command.Command.TheVariants.{Check, Haskell}
use Rattle.conc_task.specs.declared.words.command.Question.{Question}
use Rattle.conc_task.specs.declared.words.command.Question.TheVariants.{Verify, Report, Picture}
use Rattle.hs_compile.specs.Verdicts as verdict
use Rattle.hs_compile.specs.declared.refusal.Refusal.TheVariants as refusal
use Rattle.trace_report.specs.Verified.{Verified as VerifiedRun}
use Rattle.trace_report.specs.RunFault.{RunFault}
use Rattle.trace_report.specs.RunFault.TheVariants as fault
use Rattle.trace_report.specs.Checking.{IsRunText, Judges, TellsOfRun}
use Rattle.trace_picture.specs.declared.fault.PictureFault.{PictureFault}
use Rattle.trace_picture.specs.declared.fault.PictureFault.TheVariants as picture
use Rattle.trace_picture.specs.Picturing.{IsLarge, Pictures}
use Rattle.conc_task.specs.declared.stop.Stop.{Stop}
use Rattle.conc_task.specs.declared.stop.Stop.TheVariants as stop
use Rattle.conc_task.specs.Documents.{document_limit, HasBareDocument, HasDocument, HasLongDocument, HasNoScript, IsParted}
use Rattle.conc_task.specs.Commands.{Asks, AsksSomething, ReadsSource, Runs}
use Rattle.conc_task.specs.Inputs.{IsScript, ReadThrough, TookFew}
use Rattle.conc_task.specs.Stops.{RefusesInput}
use Rattle.conc_top.specs.declared.ending.NotRun.{NotRun as NoRun}
use Rattle.conc_top.specs.declared.ending.NotRun.TheVariants as norun
use Rattle.conc_top.specs.declared.ending.Ending.{Ending}
use Rattle.conc_top.specs.declared.ending.Ending.TheVariants.{Ran, Accepted, Words, Refused, Read, Memory, Write, Verified, Reported, Pictured, NotRun, NotDrawn, Outcomes, NoOutcome, Claims, ClaimRefused, NoClaim, Printed}
use Rattle.conc_top.specs.Searches.{IsDecided, IsListed, LacksClaims, LacksOutcome, RefusesClaim}

-- How much of the source was taken: all of it where a script was refused, accepted or run, or a document looked at, and never
-- more than one byte past the limit.
abbrev pub IsReadThrough : (limit : ℕ) → Ending → (before now : Option (List ℕ)) → Type 0
IsReadThrough limit (Ran r) before now = ReadThrough limit before now
IsReadThrough limit (Refused r) before now = ReadThrough limit before now
IsReadThrough limit Accepted before now = ReadThrough limit before now
IsReadThrough limit Words before now = ⊤
IsReadThrough limit Read before now = TookFew limit before now
IsReadThrough limit Memory before now = TookFew limit before now
IsReadThrough limit Write before now = ⊤
IsReadThrough limit (Verified v) before now = ReadThrough limit before now
IsReadThrough limit Reported before now = ReadThrough limit before now
IsReadThrough limit Pictured before now = ReadThrough limit before now
IsReadThrough limit (NotRun why) before now = ReadThrough limit before now
IsReadThrough limit (NotDrawn n) before now = ReadThrough limit before now
IsReadThrough limit (Outcomes extent) before now = ReadThrough limit before now
IsReadThrough limit (NoOutcome k) before now = ReadThrough limit before now
IsReadThrough limit (Claims j) before now = ReadThrough limit before now
IsReadThrough limit (ClaimRefused at) before now = ReadThrough limit before now
IsReadThrough limit NoClaim before now = ReadThrough limit before now
IsReadThrough limit Printed before now = ReadThrough limit before now

-- a run ends by a failed put only where one failed
abbrev pub HasFault : RunEnd → (write_fault : Type 0) → Type 0
HasFault end.Done write_fault = ⊤
HasFault end.Uncaught write_fault = ⊤
HasFault end.Deadlock write_fault = ⊤
HasFault end.Fuel write_fault = ⊤
HasFault end.Memory write_fault = ⊤
HasFault end.Write write_fault = write_fault
HasFault (end.Limit kind entry) write_fault = ⊤

-- This holds of the definitions of the script in this document, an accepted one, and of the trace beside it.
abbrev pub IsIn : (List Fn → List ℕ → Type 0) → (document : List ℕ) → (bytes : List ℕ) → Type 0
IsIn P document bytes = (trace : List ℕ) × IsParted document trace bytes × (s : Script) × verdict.IsAccepted bytes s × P (script_of s) trace

-- The same of the document that the source had, which is not too long.
abbrev pub HasIn : (List Fn → List ℕ → Type 0) → (before : Option (List ℕ)) → (bytes : List ℕ) → Type 0
HasIn P before bytes = (trace : List ℕ) × HasDocument before trace bytes × (s : Script) × verdict.IsAccepted bytes s × P (script_of s) trace

-- the check of the trace gives this answer
abbrev pub IsJudged : (document : List ℕ) → (bytes : List ℕ) → Result VerifiedRun RunFault → Type 0
IsJudged document bytes answer = IsIn (λ ds trace. Judges ds trace answer) document bytes

abbrev pub HasVerdict : (before : Option (List ℕ)) → (bytes : List ℕ) → Result VerifiedRun RunFault → Type 0
HasVerdict before bytes answer = HasIn (λ ds trace. Judges ds trace answer) before bytes

-- the trace is that of a run
abbrev pub IsRunIn : (document : List ℕ) → (bytes : List ℕ) → Type 0
IsRunIn document bytes = IsIn IsRunText document bytes

abbrev pub HasRunIn : (before : Option (List ℕ)) → (bytes : List ℕ) → Type 0
HasRunIn before bytes = HasIn IsRunText before bytes

-- this is what is told of that run
abbrev pub HasTelling : (List Fn → List Entry → State → List ℕ) → (before : Option (List ℕ)) → (bytes told : List ℕ) → Type 0
HasTelling telling before bytes told = HasIn (λ ds trace. TellsOfRun telling ds trace told) before bytes

-- this text is the picture of a run that is the trace's
abbrev pub IsPictureOf : (text : List ℕ) → List Fn → (trace : List ℕ) → Type 0
IsPictureOf text ds trace = ∥ Pictures ds trace text ∥₁

-- it has a picture
abbrev pub HasPicture : List Fn → (trace : List ℕ) → Type 0
HasPicture ds trace = (text : List ℕ) × IsPictureOf text ds trace

-- it has so many entries, which are more than are drawn
abbrev pub HasTooMany : ℕ → List Fn → (trace : List ℕ) → Type 0
HasTooMany n ds trace = ∥ IsLarge ds trace n ∥₁

-- why a document is no run
abbrev pub IsNotRun : (before : Option (List ℕ)) → (bytes : List ℕ) → NoRun → Type 0
IsNotRun before bytes norun.NoScript = HasBareDocument before
IsNotRun before bytes (norun.Spelling number) = HasVerdict before bytes (Err (fault.Spelling number))
IsNotRun before bytes (norun.Long number) = HasVerdict before bytes (Err (fault.Long number))
IsNotRun before bytes (norun.Illegal number) = HasVerdict before bytes (Err (fault.Illegal number))

-- The cause of each answer, by the command that the words are, if they are one, what the source had left, the bytes of the input,
-- and the causes of a read fault and of a write fault. Want of memory is free.
abbrev pub IsDue : Option Command → (before : Option (List ℕ)) → (bytes : List ℕ) → (read_fault write_fault : Type 0) → Ending → Type 0
IsDue command before bytes read_fault write_fault Words = command ≡ None
IsDue command before bytes read_fault write_fault Read = ReadsSource command × read_fault
IsDue command before bytes read_fault write_fault (Refused r) = IsSome command × RefusesInput command before bytes r
IsDue command before bytes read_fault write_fault Accepted = (command ≡ Some Check) × IsScript bytes
IsDue command before bytes read_fault write_fault (Ran r) = Runs command × IsScript bytes × HasFault r write_fault
IsDue command before bytes read_fault write_fault Memory = ⊤
IsDue command before bytes read_fault write_fault Write = write_fault
IsDue command before bytes read_fault write_fault (Verified v) = Asks command Verify × HasVerdict before bytes (Ok v)
IsDue command before bytes read_fault write_fault Reported = Asks command Report × HasRunIn before bytes
IsDue command before bytes read_fault write_fault Pictured = Asks command Picture × HasIn HasPicture before bytes
IsDue command before bytes read_fault write_fault (NotRun why) = AsksSomething command × IsNotRun before bytes why
IsDue command before bytes read_fault write_fault (NotDrawn n) = Asks command Picture × HasIn (HasTooMany n) before bytes
IsDue command before bytes read_fault write_fault (Outcomes extent) = IsListed command bytes extent
IsDue command before bytes read_fault write_fault (NoOutcome k) = LacksOutcome command bytes k
IsDue command before bytes read_fault write_fault (Claims j) = IsDecided command bytes j
IsDue command before bytes read_fault write_fault (ClaimRefused at) = RefusesClaim command bytes at
IsDue command before bytes read_fault write_fault NoClaim = LacksClaims command bytes
IsDue command before bytes read_fault write_fault Printed = (command ≡ Some Haskell) × IsScript bytes

-- Where the words are a command, nothing fails and the input is an accepted script, only these answers come: a run's ending but
-- for that of a failed put, the word of `check`, what a document comes to of which something is asked, what a search or its claims come
-- to, the module of `haskell`, and want of memory, which is free.
abbrev pub IsExpected : Option Command → (before : Option (List ℕ)) → (bytes : List ℕ) → Ending → Type 0
IsExpected command before bytes (Ran r) = Runs command × (r ≡ end.Write → ⊥)
IsExpected command before bytes Accepted = command ≡ Some Check
IsExpected command before bytes Memory = ⊤
IsExpected command before bytes (Refused r) = AsksSomething command × (r ≡ refusal.TooLong) × HasLongDocument before
IsExpected command before bytes Words = ⊥
IsExpected command before bytes Read = ⊥
IsExpected command before bytes Write = ⊥
IsExpected command before bytes (Verified v) = Asks command Verify × HasVerdict before bytes (Ok v)
IsExpected command before bytes Reported = Asks command Report × HasRunIn before bytes
IsExpected command before bytes Pictured = Asks command Picture × HasIn HasPicture before bytes
IsExpected command before bytes (NotDrawn n) = Asks command Picture × HasIn (HasTooMany n) before bytes
IsExpected command before bytes (Outcomes extent) = IsListed command bytes extent
IsExpected command before bytes (NoOutcome k) = LacksOutcome command bytes k
IsExpected command before bytes (Claims j) = IsDecided command bytes j
IsExpected command before bytes (ClaimRefused at) = RefusesClaim command bytes at
IsExpected command before bytes NoClaim = LacksClaims command bytes
IsExpected command before bytes Printed = command ≡ Some Haskell
IsExpected command before bytes (NotRun why) = AsksSomething command × IsNotRun before bytes why

-- Where the words are a command, nothing fails and the input is refused, only a refusal of it comes, or want of memory; where
-- something is asked of a document, also that no line of it is `script`.
abbrev pub IsRefusal : Option Command → (before : Option (List ℕ)) → (bytes : List ℕ) → Ending → Type 0
IsRefusal command before bytes (Refused r) = RefusesInput command before bytes r
IsRefusal command before bytes Memory = ⊤
IsRefusal command before bytes (Ran r) = ⊥
IsRefusal command before bytes Accepted = ⊥
IsRefusal command before bytes Words = ⊥
IsRefusal command before bytes Read = ⊥
IsRefusal command before bytes Write = ⊥
IsRefusal command before bytes (Verified v) = ⊥
IsRefusal command before bytes Reported = ⊥
IsRefusal command before bytes Pictured = ⊥
IsRefusal command before bytes (NotDrawn n) = ⊥
IsRefusal command before bytes (Outcomes extent) = ⊥
IsRefusal command before bytes (NoOutcome k) = ⊥
IsRefusal command before bytes (Claims j) = ⊥
IsRefusal command before bytes (ClaimRefused at) = ⊥
IsRefusal command before bytes NoClaim = ⊥
IsRefusal command before bytes Printed = ⊥
IsRefusal command before bytes (NotRun why) = AsksSomething command × (why ≡ norun.NoScript) × HasBareDocument before

-- A document of which this is asked comes to this: it is too long; or no line of it is `script`; or its script is refused; or else what the check of its
-- trace answers, where `report` and `picture` answer in the place of a run what is told of it, or that it is too long to
-- be drawn. Each holds only where none before it does. Want of memory is free.
abbrev pub IsVerdict : Question → (document : List ℕ) → Ending → Type 0
IsVerdict question document (Refused r) =
    ((length document ≤ document_limit) × (trace : List ℕ) × (bytes : List ℕ) × IsParted document trace bytes × verdict.IsRefused r bytes)
    ⊎ ((r ≡ refusal.TooLong) × (document_limit < length document))
IsVerdict question document (NotRun norun.NoScript) = (length document ≤ document_limit) × HasNoScript document
IsVerdict question document (NotRun (norun.Spelling number)) = (length document ≤ document_limit) × (bytes : List ℕ) × IsJudged document bytes (Err (fault.Spelling number))
IsVerdict question document (NotRun (norun.Long number)) = (length document ≤ document_limit) × (bytes : List ℕ) × IsJudged document bytes (Err (fault.Long number))
IsVerdict question document (NotRun (norun.Illegal number)) = (length document ≤ document_limit) × (bytes : List ℕ) × IsJudged document bytes (Err (fault.Illegal number))
IsVerdict question document (Verified v) = (question ≡ Verify) × (length document ≤ document_limit) × (bytes : List ℕ) × IsJudged document bytes (Ok v)
IsVerdict question document Reported = (question ≡ Report) × (length document ≤ document_limit) × (bytes : List ℕ) × IsRunIn document bytes
IsVerdict question document Pictured = (question ≡ Picture) × (length document ≤ document_limit) × (bytes : List ℕ) × IsIn HasPicture document bytes
IsVerdict question document (NotDrawn n) = (question ≡ Picture) × (length document ≤ document_limit) × (bytes : List ℕ) × IsIn (HasTooMany n) document bytes
IsVerdict question document Memory = ⊤
IsVerdict question document (Ran r) = ⊥
IsVerdict question document Accepted = ⊥
IsVerdict question document Words = ⊥
IsVerdict question document Read = ⊥
IsVerdict question document Write = ⊥
IsVerdict question document (Outcomes extent) = ⊥
IsVerdict question document (NoOutcome k) = ⊥
IsVerdict question document (Claims j) = ⊥
IsVerdict question document (ClaimRefused at) = ⊥
IsVerdict question document NoClaim = ⊥
IsVerdict question document Printed = ⊥

-- a fault of the source or of a sink is told
abbrev pub IsFault : Ending → Type 0
IsFault Read = ⊤
IsFault Write = ⊤
IsFault (Ran r) = ⊥
IsFault (Refused r) = ⊥
IsFault Accepted = ⊥
IsFault Words = ⊥
IsFault Memory = ⊥
IsFault (Verified v) = ⊥
IsFault Reported = ⊥
IsFault Pictured = ⊥
IsFault (NotDrawn n) = ⊥
IsFault (Outcomes extent) = ⊥
IsFault (NoOutcome k) = ⊥
IsFault (Claims j) = ⊥
IsFault (ClaimRefused at) = ⊥
IsFault NoClaim = ⊥
IsFault Printed = ⊥
IsFault (NotRun why) = ⊥

-- these answers come without a run
abbrev pub IsUnrun : Ending → Type 0
IsUnrun Words = ⊤
IsUnrun (Refused r) = ⊤
IsUnrun Read = ⊤
IsUnrun Accepted = ⊤
IsUnrun (Ran r) = ⊥
IsUnrun Memory = ⊥
IsUnrun Write = ⊥
IsUnrun (Verified v) = ⊤
IsUnrun Reported = ⊤
IsUnrun Pictured = ⊤
IsUnrun (NotDrawn n) = ⊤
IsUnrun (Outcomes extent) = ⊤
IsUnrun (NoOutcome k) = ⊤
IsUnrun (Claims j) = ⊤
IsUnrun (ClaimRefused at) = ⊤
IsUnrun NoClaim = ⊤
IsUnrun Printed = ⊤
IsUnrun (NotRun why) = ⊤

-- the answer where there is nothing to run and nothing is accepted
abbrev pub ending_of : Stop → Ending
ending_of stop.Words = Words
ending_of (stop.Refused r) = Refused r
ending_of stop.Read = Read
ending_of stop.NoScript = NotRun norun.NoScript
ending_of stop.Memory = Memory

-- the answer where a trace is no run
abbrev pub unverified : RunFault → Ending
unverified (fault.Spelling number) = NotRun (norun.Spelling number)
unverified (fault.Long number) = NotRun (norun.Long number)
unverified (fault.Illegal number) = NotRun (norun.Illegal number)
unverified fault.NoMemory = Memory

-- the answer where there is nothing to tell of a trace
abbrev pub unfound : PictureFault → Ending
unfound (picture.Run f) = unverified f
unfound (picture.Large n) = NotDrawn n

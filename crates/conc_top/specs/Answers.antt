-- What a call of the top call keeps and tells (own).
use Rattle.std.specs.Prelude.{◌≡◌, ◌≢◌, ◌⊎◌, ◌<◌, ◌≤◌, ◌++◌, ℕ, Bool, true, false, List, [], length, take, Option, Some, None, IfSome, IsSome, Ok, Err, ⊤}
use Rattle.std.specs.Io.KnownBytes.{Appends}
use Rattle.hs_base.specs.declared.clock_choice.ClockChoice.{ClockChoice}
use Rattle.hs_base.specs.declared.tree.script.Script.{Script}
use Rattle.hs_io.specs.Causes.{Rose}
use Rattle.hs_rules.specs.declared.entry.Entry.{Entry}
use Rattle.hs_rules.specs.declared.kept.Plan.{Plan}
use Rattle.hs_rules.specs.State.{State}
use Rattle.hs_rules.specs.Histories.{steps_of}
use Rattle.hs_rules.specs.Runs.{IsRun, out, err}
use Rattle.rules_expansion.specs.trees.Programs.{Fn, script_of}
use Rattle.trace_text.specs.spelling.Traces.{document_of}
use Rattle.hs_laws.specs.BracketLaw.{Brackets}
use Rattle.hs_laws.specs.BracketPhases.{BracketsKept}
use Rattle.hs_laws.specs.CellLaw.{CellsKept}
use Rattle.hs_laws.specs.MaskLaw.{MasksKept}
use Rattle.hs_laws.specs.HistoryEndings.{StaysWithin}
use Rattle.scope_laws.specs.ScopesKept.{ScopesKept}
use Rattle.conc_caps.specs.Clocks.{TicksKept}
use Rattle.conc_caps.specs.RunEnd.{RunEnd}
use Rattle.conc_caps.specs.Told.{AppendsPart, IsCutOff, is_write}
use Rattle.conc_caps.specs.Endings.{EndedBy}
use Rattle.conc_caps.specs.Runs.{IsRunOf, Shown}
use Rattle.conc_task.specs.declared.words.command.Command.{Command}
use Rattle.conc_task.specs.declared.words.command.Command.TheVariants.{Run, Check, Bench, Trace, Ask}
use Rattle.conc_task.specs.declared.words.command.Command.TheVariants as commands
use Rattle.conc_task.specs.declared.words.command.Question.{Question}
use Rattle.conc_task.specs.declared.words.command.Question.TheVariants.{Verify, Report, Picture}
use Rattle.hs_compile.specs.declared.refusal.Refusal.{Refusal}
use Rattle.hs_compile.specs.Verdicts.{IsAccepted, IsRefused, script_limit}
use Rattle.rules_code.specs.Codes.{body_of}
use Rattle.conc_task.specs.declared.task.Asked.{Asked}
use Rattle.conc_task.specs.declared.task.Asked.TheVariants as asked
use Rattle.conc_task.specs.declared.task.Replay.{Replay}
use Rattle.conc_task.specs.Commands.{Asks, IsInput, ReadsSource, RunsWith, source_limit, Traces}
use Rattle.conc_task.specs.Inputs.{IsScript}
use Rattle.outcome_listing.specs.declared.explored.Extent.{Extent}
use Rattle.claim_lines.specs.declared.verdict.Judged.{Judged}
use Rattle.haskell_module.specs.Modules.{module_text}
use Rattle.trace_report.specs.Verified.{Verified as VerifiedRun}
use Rattle.trace_picture.specs.declared.fault.PictureFault.{PictureFault}
use Rattle.trace_picture.specs.declared.fault.PictureFault.TheVariants as picture
use Rattle.trace_report.specs.Checking.{Judges, TellsOfRun}
use Rattle.trace_report.specs.tally.Reporting.{report_of}
use Rattle.conc_top.specs.declared.ending.Ending.{Ending}
use Rattle.conc_top.specs.declared.ending.Ending.TheVariants.{Ran, Accepted, Words, Refused, Read, Memory, Write, Verified, Reported, Pictured, NotRun, NotDrawn, Outcomes, NoOutcome, Claims, ClaimRefused, NoClaim, Printed}
use Rattle.conc_top.specs.Searches.{HasDecision, HasListing, IsDecisionOf, IsListingOf, IsModule, IsUndecided, IsUnlisted, limits}
use Rattle.conc_top.specs.Causes.{HasFault, HasIn, HasTelling, HasTooMany, IsDue, IsExpected, IsPictureOf, IsReadThrough, IsRefusal, IsVerdict, unfound}
use Rattle.conc_top.specs.Lines.{accepted_line, HasPlace, line_of, run_line, verified_line}

-- the laws of every history hold of this one, which leaves this state; among them that each bracket of a finished thread was
-- released exactly once, and that no async scope was left before its child had ended its action
pub record KeepsLaws (ds : List Fn) (es : List Entry) (s : State) : Type 0 where
  pub released : Brackets s
  pub brackets : BracketsKept ds es
  pub cells : CellsKept ds es
  pub masks : MasksKept ds es
  pub scopes : ScopesKept ds es

-- What a run told: all that it printed, and then the line of its ending; where the put of that line failed, a part of the line,
-- and the answer is Write. A run that ended by a failed put told what all but its last entry print, and a part of what that one
-- prints.
abbrev pub TellsBy : Bool → RunEnd → (given : Ending) → List Fn → List Entry → (lent now : Shown) → Type 0
TellsBy true r given ds es lent now = (given ≡ Ran r) × IsCutOff ds es lent.output now.output lent.errors now.errors
TellsBy false r given ds es lent now = Appends lent.output now.output (out ds es)
    × (((given ≡ Ran r) × Appends lent.errors now.errors (err ds es ++ run_line r))
    ⊎ ((given ≡ Write) × AppendsPart lent.errors now.errors (err ds es) (err ds es ++ run_line r) × (run_line r ≢ []) × Rose lent.err_faults now.err_faults))

-- The document of a history and of the bytes that were read was put, and then the line of the ending; where a put failed, a part of
-- the one and nothing of the other, or all of the one and a part of the other, and the answer is Write.
abbrev pub PutsTrace : (bytes : List ℕ) → RunEnd → (given : Ending) → List Entry → (lent now : Shown) → Type 0
PutsTrace bytes r given es lent now =
    (Appends lent.output now.output (document_of es bytes)
    × (((given ≡ Ran r) × Appends lent.errors now.errors (run_line r))
    ⊎ ((given ≡ Write) × ((n : ℕ) × Appends lent.errors now.errors (take n (run_line r))) × (run_line r ≢ []) × Rose lent.err_faults now.err_faults)))
    ⊎ ((given ≡ Write) × ((n : ℕ) × Appends lent.output now.output (take n (document_of es bytes))) × (now.errors ≡ lent.errors) × Rose lent.out_faults now.out_faults)

-- What `trace` told of its run. The run itself puts nothing, so no failed put ended it: it went on to an ending of its own.
abbrev pub TellsTrace : (bytes : List ℕ) → RunEnd → (given : Ending) → List Entry → (lent now : Shown) → Type 0
TellsTrace bytes r given es lent now = (is_write (Some r) ≡ false) × PutsTrace bytes r given es lent now

-- what the command told of a run
abbrev pub Tells : Option Command → (bytes : List ℕ) → RunEnd → (given : Ending) → List Entry → (lent now : Shown) → List Fn → Type 0
Tells None bytes r given es lent now ds = TellsBy (is_write (Some r)) r given ds es lent now
Tells (Some (Run capabilities fuel clock)) bytes r given es lent now ds = TellsBy (is_write (Some r)) r given ds es lent now
Tells (Some Check) bytes r given es lent now ds = TellsBy (is_write (Some r)) r given ds es lent now
Tells (Some (Bench threads capabilities fuel)) bytes r given es lent now ds = TellsBy (is_write (Some r)) r given ds es lent now
Tells (Some (Trace capabilities fuel clock)) bytes r given es lent now ds = TellsTrace bytes r given es lent now
Tells (Some (commands.Outcomes clock states fuel witness)) bytes r given es lent now ds = TellsBy (is_write (Some r)) r given ds es lent now
Tells (Some (commands.Claims clock states fuel)) bytes r given es lent now ds = TellsBy (is_write (Some r)) r given ds es lent now
Tells (Some commands.Haskell) bytes r given es lent now ds = TellsBy (is_write (Some r)) r given ds es lent now
Tells (Some (Ask question)) bytes r given es lent now ds = TellsBy (is_write (Some r)) r given ds es lent now

-- This history is a run of the script that these bytes are, from its first state to its ending, which came for its cause. Its
-- clock never passed the last reading of the clock that was handed in. What was told is so of the script's definitions.
pub record RunsScript (fuel : ℕ) (bytes : List ℕ) (r : RunEnd) (es : List Entry) (lent now : Shown) (Told : List Fn → Type 0) : Type 0 where
  pub script : Script
  pub accepted : IsAccepted bytes script
  pub state : State
  pub run : IsRun (script_of script) es state
  pub clock : state.clock ≤ now.last
  pub within : steps_of es ≤ fuel
  pub limited : StaysWithin limits (script_of script) es
  pub laws : KeepsLaws (script_of script) es state
  pub ticks : TicksKept (script_of script) es lent.early now.early
  pub ended : ∥ EndedBy (Some r) (script_of script) es fuel limits lent.out_faults lent.err_faults now.out_faults now.err_faults ∥₁
  pub told : Told (script_of script)

-- A line was put on a sink: whole, or a part of it where the put failed, and the answer is Write then.
abbrev pub TellsLine : List ℕ → (came given : Ending) → (told told_now : Option (List ℕ)) → (faults faults_now : ℕ) → Type 0
TellsLine line came given told told_now faults faults_now = ((given ≡ came) × Appends told told_now line × (faults_now ≡ faults))
    ⊎ ((given ≡ Write) × ((n : ℕ) × Appends told told_now (take n line)) × (line ≢ []) × Rose faults faults_now × (faults ≤ faults_now))

-- the line of an answer was put, where want of memory stands in the place of an answer whose line has a place in it
abbrev pub TellsAnswer : (came given : Ending) → (told told_now : Option (List ℕ)) → (faults faults_now : ℕ) → Type 0
TellsAnswer came given told told_now faults faults_now = TellsLine (line_of came) came given told told_now faults faults_now
    ⊎ (HasPlace came × TellsLine (line_of Memory) Memory given told told_now faults faults_now)

-- Nothing ran: the line of the answer was put on the error sink, and the clock waited for nothing.
pub record IsIdle (came given : Ending) (es : List Entry) (lent now : Shown) : Type 0 where
  pub no_entry : es ≡ []
  pub no_output : (now.output ≡ lent.output) × (now.out_faults ≡ lent.out_faults)
  pub no_wait : now.early ≡ lent.early
  pub told : TellsLine (line_of came) came given lent.errors now.errors lent.err_faults now.err_faults

-- The script is accepted and nothing ran: `accepted` was put on the output sink, and the clock waited for nothing.
pub record IsChecked (given : Ending) (es : List Entry) (lent now : Shown) : Type 0 where
  pub no_entry : es ≡ []
  pub no_errors : (now.errors ≡ lent.errors) × (now.err_faults ≡ lent.err_faults)
  pub no_wait : now.early ≡ lent.early
  pub told : TellsLine accepted_line Accepted given lent.output now.output lent.out_faults now.out_faults

-- The document is a run and nothing ran: the line that says so was put on the output sink, and the clock waited for nothing.
pub record IsVerified (v : VerifiedRun) (given : Ending) (es : List Entry) (lent now : Shown) : Type 0 where
  pub no_entry : es ≡ []
  pub no_errors : (now.errors ≡ lent.errors) × (now.err_faults ≡ lent.err_faults)
  pub no_wait : now.early ≡ lent.early
  pub told : TellsLine (verified_line v) (Verified v) given lent.output now.output lent.out_faults now.out_faults

-- Nothing ran: a text of which this holds was put on the output sink, and the clock waited for nothing.
pub record IsShown (Shows : List ℕ → Type 0) (came given : Ending) (es : List Entry) (lent now : Shown) : Type 0 where
  pub no_entry : es ≡ []
  pub no_errors : (now.errors ≡ lent.errors) × (now.err_faults ≡ lent.err_faults)
  pub no_wait : now.early ≡ lent.early
  pub text : List ℕ
  pub shows : Shows text
  pub told : TellsLine text came given lent.output now.output lent.out_faults now.out_faults

-- No document was written for want of memory: its line was put on the error sink. Something may have run, which the clock alone
-- shows.
pub record IsUnwritten (given : Ending) (es : List Entry) (lent now : Shown) : Type 0 where
  pub no_entry : es ≡ []
  pub no_output : (now.output ≡ lent.output) × (now.out_faults ≡ lent.out_faults)
  pub told : TellsLine (line_of Memory) Memory given lent.errors now.errors lent.err_faults now.err_faults

-- what the answer keeps and tells: a run by the clock of the command, a line, or what is shown of a document or of a search
abbrev pub Keeps : Option Command → (before : Option (List ℕ)) → List ℕ → (choice : Option ClockChoice) → (came given : Ending) → List Entry → (lent now : Shown) → Type 0
Keeps command before bytes choice (Ran r) given es lent now =
    (fuel : ℕ) × (clock : ClockChoice) × RunsWith command fuel clock × (choice ≡ Some clock) × RunsScript fuel bytes r es lent now (Tells command bytes r given es lent now)
Keeps command before bytes choice Accepted given es lent now = IsChecked given es lent now
Keeps command before bytes choice Words given es lent now = IsIdle Words given es lent now
Keeps command before bytes choice (Refused r) given es lent now = IsIdle (Refused r) given es lent now
Keeps command before bytes choice Read given es lent now = IsIdle Read given es lent now
Keeps command before bytes choice Memory given es lent now = IsIdle Memory given es lent now ⊎ (Traces command × IsUnwritten given es lent now)
Keeps command before bytes choice Write given es lent now = ⊥
Keeps command before bytes choice (Verified v) given es lent now = IsVerified v given es lent now
Keeps command before bytes choice Reported given es lent now = IsShown (HasTelling report_of before bytes) Reported given es lent now
Keeps command before bytes choice Pictured given es lent now = IsShown (λ text. HasIn (IsPictureOf text) before bytes) Pictured given es lent now
Keeps command before bytes choice (NotRun why) given es lent now = IsIdle (NotRun why) given es lent now
Keeps command before bytes choice (NotDrawn n) given es lent now = IsIdle (NotDrawn n) given es lent now
Keeps command before bytes choice (Outcomes extent) given es lent now = IsShown (HasListing command bytes extent) (Outcomes extent) given es lent now
Keeps command before bytes choice (NoOutcome k) given es lent now = IsIdle (NoOutcome k) given es lent now
Keeps command before bytes choice (Claims j) given es lent now = IsShown (HasDecision command bytes j) (Claims j) given es lent now
Keeps command before bytes choice (ClaimRefused at) given es lent now = IsIdle (ClaimRefused at) given es lent now
Keeps command before bytes choice NoClaim given es lent now = IsIdle NoClaim given es lent now
Keeps command before bytes choice Printed given es lent now = IsShown (IsModule bytes) Printed given es lent now

-- some put failed
abbrev pub WriteFault : (lent now : Shown) → Type 0
WriteFault lent now = Rose lent.out_faults now.out_faults ⊎ Rose lent.err_faults now.err_faults

-- What is kept and told where a script is to run: its run, or want of memory before it began.
abbrev pub Plays : (fuel : ℕ) → List ℕ → (given : Ending) → List Entry → (lent now : Shown) → Type 0
Plays fuel bytes given es lent now = IsIdle Memory given es lent now
    ⊎ ((r : RunEnd) × HasFault r (WriteFault lent now) × RunsScript fuel bytes r es lent now (λ ds. TellsBy (is_write (Some r)) r given ds es lent now))

-- The same where the history is to be written.
abbrev pub Writes : (fuel : ℕ) → List ℕ → (given : Ending) → List Entry → (lent now : Shown) → Type 0
Writes fuel bytes given es lent now = IsUnwritten given es lent now
    ⊎ ((r : RunEnd) × HasFault r (WriteFault lent now) × RunsScript fuel bytes r es lent now (λ ds. TellsTrace bytes r given es lent now))

-- Under the answer of `trace` the output sink was told the document where something ran, a part of it after a failed put, and else
-- nothing.
abbrev pub IsWritten : (document : List ℕ) → (given : Ending) → (told told_now : Option (List ℕ)) → Type 0
IsWritten document (Ran r) told told_now = Appends told told_now document
IsWritten document Write told told_now = (n : ℕ) × Appends told told_now (take n document)
IsWritten document Accepted told told_now = told_now ≡ told
IsWritten document Words told told_now = told_now ≡ told
IsWritten document (Refused r) told told_now = told_now ≡ told
IsWritten document Read told told_now = told_now ≡ told
IsWritten document Memory told told_now = told_now ≡ told
IsWritten document (Verified v) told told_now = told_now ≡ told
IsWritten document Reported told told_now = told_now ≡ told
IsWritten document Pictured told told_now = told_now ≡ told
IsWritten document (NotDrawn n) told told_now = told_now ≡ told
IsWritten document (NotRun why) told told_now = told_now ≡ told
IsWritten document (Outcomes extent) told told_now = told_now ≡ told
IsWritten document (NoOutcome k) told told_now = told_now ≡ told
IsWritten document (Claims j) told told_now = told_now ≡ told
IsWritten document (ClaimRefused at) told told_now = told_now ≡ told
IsWritten document NoClaim told told_now = told_now ≡ told
IsWritten document Printed told told_now = told_now ≡ told

-- A text of which this holds was put on the output sink, and nothing on the error sink.
abbrev pub TellsText : (Shows : List ℕ → Type 0) → (told told_now errors errors_now : Option (List ℕ)) → Type 0
TellsText Shows told told_now errors errors_now = (text : List ℕ) × Shows text × Appends told told_now text × (errors_now ≡ errors)

-- Where `outcomes` has an answer it is exactly the list of the outcomes, or the document that is asked for; where `claims` has one, a
-- line for each claim; where `haskell` has one, the module of the script. Nothing is said of the other answers.
abbrev pub TellsShown : Option Command → (bytes : List ℕ) → (given : Ending) → (told told_now errors errors_now : Option (List ℕ)) → Type 0
TellsShown command bytes (Outcomes extent) told told_now errors errors_now = TellsText (HasListing command bytes extent) told told_now errors errors_now
TellsShown command bytes (Claims j) told told_now errors errors_now = TellsText (HasDecision command bytes j) told told_now errors errors_now
TellsShown command bytes Printed told told_now errors errors_now = TellsText (IsModule bytes) told told_now errors errors_now
TellsShown command bytes (Ran r) told told_now errors errors_now = ⊤
TellsShown command bytes Accepted told told_now errors errors_now = ⊤
TellsShown command bytes Words told told_now errors errors_now = ⊤
TellsShown command bytes (Refused r) told told_now errors errors_now = ⊤
TellsShown command bytes Read told told_now errors errors_now = ⊤
TellsShown command bytes Memory told told_now errors errors_now = ⊤
TellsShown command bytes Write told told_now errors errors_now = ⊤
TellsShown command bytes (Verified v) told told_now errors errors_now = ⊤
TellsShown command bytes Reported told told_now errors errors_now = ⊤
TellsShown command bytes Pictured told told_now errors errors_now = ⊤
TellsShown command bytes (NotRun why) told told_now errors errors_now = ⊤
TellsShown command bytes (NotDrawn n) told told_now errors errors_now = ⊤
TellsShown command bytes (NoOutcome k) told told_now errors errors_now = ⊤
TellsShown command bytes (ClaimRefused at) told told_now errors errors_now = ⊤
TellsShown command bytes NoClaim told told_now errors errors_now = ⊤

-- What a desk leaves that was run to its ending: this script ran with so much fuel and within the limits, since the sinks and the
-- clock showed the first until they showed the second.
pub record HasRun (most : ℕ) (s : Script) (final : Option RunEnd) (es : List Entry) (lent now : Shown) : Type 0 where
  pub plan : Plan
  pub script : plan.body.of.value ≡ s
  pub fuel : plan.fuel ≡ most
  pub bounds : plan.limits ≡ limits
  pub ended : IsSome final
  pub run : ∥ IsRunOf plan final es lent now ∥₁
  pub out_counted : lent.out_faults ≤ now.out_faults
  pub err_counted : lent.err_faults ≤ now.err_faults
  pub waited : lent.early ≤ now.early

-- the answers of a call that has a script to run, and the cause of each
abbrev pub IsPlayed : (write_fault : Type 0) → Ending → Type 0
IsPlayed write_fault (Ran r) = HasFault r write_fault
IsPlayed write_fault Memory = ⊤
IsPlayed write_fault Write = write_fault
IsPlayed write_fault (Refused r) = ⊥
IsPlayed write_fault Accepted = ⊥
IsPlayed write_fault Words = ⊥
IsPlayed write_fault Read = ⊥
IsPlayed write_fault (Verified v) = ⊥
IsPlayed write_fault Reported = ⊥
IsPlayed write_fault Pictured = ⊥
IsPlayed write_fault (NotDrawn n) = ⊥
IsPlayed write_fault (NotRun why) = ⊥
IsPlayed write_fault (Outcomes extent) = ⊥
IsPlayed write_fault (NoOutcome k) = ⊥
IsPlayed write_fault (Claims j) = ⊥
IsPlayed write_fault (ClaimRefused at) = ⊥
IsPlayed write_fault NoClaim = ⊥
IsPlayed write_fault Printed = ⊥

-- What a call came to, one answer that is due, and what it kept and told; where the put of its line failed, Write stands in the
-- answer's place.
pub record Call (command : Option Command) (read_fault read_rose : Type 0) (before left_now : Option (List ℕ)) (choice : Option ClockChoice) (given : Ending) (es : List Entry) (lent now : Shown) : Type 0 where
  -- the bytes of the input
  pub bytes : List ℕ
  pub input : IsInput command before bytes
  pub came : Ending
  pub due : IsDue command before bytes read_fault (WriteFault lent now) came
  -- where the source's count of faults rose
  pub faulty : read_rose → came ≡ Read
  pub through : ReadsSource command → IsReadThrough (source_limit command) came before left_now
  pub kept : Keeps command before bytes choice came given es lent now

-- a sink that tells its bytes was told nothing yet
abbrev pub WasToldNothing : Option (List ℕ) → Type 0
WasToldNothing told = IfSome told (λ bytes. bytes ≡ [])

-- ---- the steps of it

-- A document was put on one sink, and then the line of the ending on the other, unless the first put failed.
abbrev pub PutsDocument : (document : List ℕ) → RunEnd → (given : Ending) → (told told_now : Option (List ℕ)) → (faults faults_now : ℕ)
    → (errors errors_now : Option (List ℕ)) → (err_faults err_faults_now : ℕ) → Type 0
PutsDocument document r given told told_now faults faults_now errors errors_now err_faults err_faults_now =
    (Appends told told_now document × (faults_now ≡ faults) × TellsLine (run_line r) (Ran r) given errors errors_now err_faults err_faults_now)
    ⊎ ((given ≡ Write) × ((n : ℕ) × Appends told told_now (take n document)) × Rose faults faults_now × (faults ≤ faults_now) × (errors_now ≡ errors) × (err_faults_now ≡ err_faults))

-- The document of a history was put and the history is kept, or there was no memory for it.
abbrev pub WritesRun : (bytes : List ℕ) → RunEnd → (given : Ending) → (es es_now : List Entry) → (told told_now : Option (List ℕ)) → (faults faults_now : ℕ)
    → (errors errors_now : Option (List ℕ)) → (err_faults err_faults_now : ℕ) → Type 0
WritesRun bytes r given es es_now told told_now faults faults_now errors errors_now err_faults err_faults_now =
    ((es_now ≡ es) × PutsDocument (document_of es bytes) r given told told_now faults faults_now errors errors_now err_faults err_faults_now)
    ⊎ ((es_now ≡ []) × (told_now ≡ told) × (faults_now ≡ faults) × TellsLine (line_of Memory) Memory given errors errors_now err_faults err_faults_now)

-- What is asked of a trace and the script beside it has this answer, with this text.
abbrev pub IsFound : Question → List Fn → (trace : List ℕ) → (came : Ending) → (text : List ℕ) → Type 0
IsFound Verify ds trace came text = (v : VerifiedRun) × (came ≡ Verified v) × (text ≡ verified_line v) × Judges ds trace (Ok v)
IsFound Report ds trace came text = (came ≡ Reported) × TellsOfRun report_of ds trace text
IsFound Picture ds trace came text = (came ≡ Pictured) × IsPictureOf text ds trace

-- It has none, for this cause.
abbrev pub IsUnfound : Question → List Fn → (trace : List ℕ) → PictureFault → Type 0
IsUnfound question ds trace (picture.Run f) = Judges ds trace (Err f)
IsUnfound question ds trace (picture.Large n) = (question ≡ Picture) × HasTooMany n ds trace

-- no text is told, for this cause
abbrev pub LacksFor : Question → List Fn → (trace : List ℕ) → (came : Ending) → Type 0
LacksFor question ds trace came = (f : PictureFault) × (came ≡ unfound f) × IsUnfound question ds trace f

-- the bytes that claims are read of are not more than a script has
abbrev pub IsShortIn : Asked → Type 0
IsShortIn (asked.Outcomes sought witness) = ⊤
IsShortIn (asked.Claims sought) = length sought.script.items ≤ script_limit
IsShortIn (asked.Module script) = ⊤
IsShortIn (asked.Document question replay) = ⊤

-- the script that a document says was run
abbrev pub replayed_script : Replay → List Fn
replayed_script replay = script_of (body_of replay.code).of.value

-- What is asked has this answer, with this text.
abbrev pub IsShownOf : Asked → (came : Ending) → (text : List ℕ) → Type 0
IsShownOf (asked.Outcomes sought witness) came text = (extent : Extent) × (came ≡ Outcomes extent) × IsListingOf sought witness extent text
IsShownOf (asked.Claims sought) came text = (j : Judged) × (came ≡ Claims j) × IsDecisionOf sought j text
IsShownOf (asked.Module script) came text = (came ≡ Printed) × (text ≡ module_text (script_of script))
IsShownOf (asked.Document question replay) came text = IsFound question (replayed_script replay) replay.trace.items came text

-- It has none, for this cause.
abbrev pub IsUnshown : Asked → (came : Ending) → Type 0
IsUnshown (asked.Outcomes sought witness) came = IsUnlisted sought witness came
IsUnshown (asked.Claims sought) came = IsUndecided sought came
IsUnshown (asked.Module script) came = came ≡ Memory
IsUnshown (asked.Document question replay) came = LacksFor question (replayed_script replay) replay.trace.items came

-- An answer has a text, which is put on the output sink, or none, and its line is put on the error sink.
abbrev pub TellsEither : (Shows : Ending → List ℕ → Type 0) → (Lacks : Ending → Type 0) → (given : Ending) → (told told_now : Option (List ℕ)) → (faults faults_now : ℕ)
    → (errors errors_now : Option (List ℕ)) → (err_faults err_faults_now : ℕ) → Type 0
TellsEither Shows Lacks given told told_now faults faults_now errors errors_now err_faults err_faults_now =
    ((came : Ending) × (text : List ℕ) × Shows came text × TellsLine text came given told told_now faults faults_now × (errors_now ≡ errors) × (err_faults_now ≡ err_faults))
    ⊎ ((came : Ending) × Lacks came × (told_now ≡ told) × (faults_now ≡ faults) × TellsAnswer came given errors errors_now err_faults err_faults_now)

-- What is told where something is to be shown without a run.
abbrev pub TellsAsked : Asked → (given : Ending) → (told told_now : Option (List ℕ)) → (faults faults_now : ℕ)
    → (errors errors_now : Option (List ℕ)) → (err_faults err_faults_now : ℕ) → Type 0
TellsAsked it given told told_now faults faults_now errors errors_now err_faults err_faults_now =
    TellsEither (IsShownOf it) (IsUnshown it) given told told_now faults faults_now errors errors_now err_faults err_faults_now

-- ---- the clauses of the call

-- one answer that is due of the input, by its cause
abbrev pub HasCause : Option Command → (before : Option (List ℕ)) → (read_fault write_fault : Type 0) → (given : Ending) → Type 0
HasCause command before read_fault write_fault given = (bytes : List ℕ) × IsInput command before bytes × IsDue command before bytes read_fault write_fault given

-- a law of where no read and no put failed: no count of faults rose
abbrev pub Unfailing : (read read_now out out_now err err_now : ℕ) → Type 0 → Type 0
Unfailing read read_now out out_now err err_now law = ¬ Rose read read_now → ¬ Rose out out_now → ¬ Rose err err_now → law

-- Where the input is an accepted script and nothing fails, the answer is one that is expected of it.
abbrev pub AnswersScripts : Option Command → (before : Option (List ℕ)) → (unfailing : Type 0 → Type 0) → (given : Ending) → Type 0
AnswersScripts command before unfailing given =
    (bytes : List ℕ) → IsSome command → (ReadsSource command → IsSome before) → IsInput command before bytes → IsScript bytes
    → unfailing (IsExpected command before bytes given)

-- Where the input is refused and nothing fails, the answer is a refusal of it.
abbrev pub AnswersRefused : Option Command → (before : Option (List ℕ)) → (unfailing : Type 0 → Type 0) → (given : Ending) → Type 0
AnswersRefused command before unfailing given =
    (bytes : List ℕ) (r : Refusal) → IsSome command → (ReadsSource command → IsSome before) → IsInput command before bytes → IsRefused r bytes
    → unfailing (IsRefusal command before bytes given)

-- Where something is asked of a document and nothing fails, the answer is what the document comes to.
abbrev pub AnswersQuestions : Option Command → (before : Option (List ℕ)) → (unfailing : Type 0 → Type 0) → (given : Ending) → Type 0
AnswersQuestions command before unfailing given =
    (question : Question) (document : List ℕ) → Asks command question → before ≡ Some document → unfailing (IsVerdict question document given)

-- The call, where the source's count of faults went from one number to another.
abbrev pub IsCall : Option Command → (read read_now : ℕ) → (before left_now : Option (List ℕ)) → Option ClockChoice → (given : Ending) → List Entry → (lent now : Shown) → Type 0
IsCall command read read_now before left_now choice given es lent now = ∥ Call command (Rose read read_now) (read < read_now) before left_now choice given es lent now ∥₁

-- What writing the run came to that ended so.
abbrev pub WritesEnded : (bytes : List ℕ) → Option RunEnd → (given : Ending) → (es es_now : List Entry) → (told told_now : Option (List ℕ)) → (faults faults_now : ℕ)
    → (errors errors_now : Option (List ℕ)) → (err_faults err_faults_now : ℕ) → Type 0
WritesEnded bytes ended given es es_now told told_now faults faults_now errors errors_now err_faults err_faults_now =
    IfSome ended (λ end. WritesRun bytes end given es es_now told told_now faults faults_now errors errors_now err_faults err_faults_now)

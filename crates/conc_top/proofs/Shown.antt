-- What a call comes to that shows something without a run.
use Rattle.std.proofs.Common.{◌≡◌, ◌<◌, ℕ, List, [], refl, sym, ap, subst, ◌∙◌, inl, inr}
use Rattle.std.specs.Prelude.{Option, Some, ⊤}
use Rattle.std.specs.Io.KnownBytes.{Appends}
use Rattle.hs_base.specs.declared.clock_choice.ClockChoice.{ClockChoice}
use Rattle.hs_rules.specs.declared.entry.Entry.{Entry}
use Rattle.conc_caps.specs.Runs.{Shown}
use Rattle.conc_task.specs.declared.words.command.Command.{Command}
use Rattle.conc_task.specs.declared.stop.Stop.{Stop}
use Rattle.conc_task.specs.declared.stop.Stop.TheVariants as stop
use Rattle.conc_task.specs.Commands.{IsInput, source_limit}
use Rattle.conc_task.specs.Inputs.{ReadThrough}
use Rattle.conc_top.specs.declared.ending.Ending.{Ending}
use Rattle.conc_top.specs.declared.ending.Ending.TheVariants.{Ran, Accepted, Words, Refused, Read, Memory, Write, Verified, Reported, Pictured, NotRun, NotDrawn, Outcomes, NoOutcome, Claims, ClaimRefused, NoClaim, Printed}
use Rattle.conc_top.specs.Lines.{accepted_line, line_of}
use Rattle.conc_top.specs.Searches.{HasDecision, HasListing, IsModule}
use Rattle.conc_top.specs.Causes.{ending_of, IsDue, IsReadThrough}
use Rattle.conc_top.specs.Answers.{Call, IsIdle, IsPlayed, IsShown, Keeps, TellsAnswer, TellsEither, TellsLine, TellsShown, TellsText, WriteFault}
use Rattle.conc_top.proofs.Answering.{Failed, few_through, idle, line_due, never_rose}

-- ---- the text of an answer

-- the text is what this answer of `outcomes`, `claims` or `haskell` shows; of other answers nothing is asked
abbrev pub ShowsAs : Option Command → (bytes : List ℕ) → Ending → (text : List ℕ) → Type 0
ShowsAs command bytes (Outcomes extent) text = HasListing command bytes extent text
ShowsAs command bytes (Claims j) text = HasDecision command bytes j text
ShowsAs command bytes Printed text = IsModule bytes text
ShowsAs command bytes (Ran r) text = ⊤
ShowsAs command bytes Accepted text = ⊤
ShowsAs command bytes Words text = ⊤
ShowsAs command bytes (Refused r) text = ⊤
ShowsAs command bytes Read text = ⊤
ShowsAs command bytes Memory text = ⊤
ShowsAs command bytes Write text = ⊤
ShowsAs command bytes (Verified v) text = ⊤
ShowsAs command bytes Reported text = ⊤
ShowsAs command bytes Pictured text = ⊤
ShowsAs command bytes (NotRun why) text = ⊤
ShowsAs command bytes (NotDrawn n) text = ⊤
ShowsAs command bytes (NoOutcome k) text = ⊤
ShowsAs command bytes (ClaimRefused at) text = ⊤
ShowsAs command bytes NoClaim text = ⊤

-- the answer is none of these
abbrev pub ShowsNone : Ending → Type 0
ShowsNone (Outcomes extent) = ⊥
ShowsNone (Claims j) = ⊥
ShowsNone Printed = ⊥
ShowsNone (Ran r) = ⊤
ShowsNone Accepted = ⊤
ShowsNone Words = ⊤
ShowsNone (Refused r) = ⊤
ShowsNone Read = ⊤
ShowsNone Memory = ⊤
ShowsNone Write = ⊤
ShowsNone (Verified v) = ⊤
ShowsNone Reported = ⊤
ShowsNone Pictured = ⊤
ShowsNone (NotRun why) = ⊤
ShowsNone (NotDrawn n) = ⊤
ShowsNone (NoOutcome k) = ⊤
ShowsNone (ClaimRefused at) = ⊤
ShowsNone NoClaim = ⊤

module _ (command : Option Command) (bytes : List ℕ) (told told_now errors errors_now : Option (List ℕ)) where
  shown_as : (e : Ending) (text : List ℕ) → ShowsAs command bytes e text → Appends told told_now text → errors_now ≡ errors → TellsShown command bytes e told told_now errors errors_now
  shown_as (Outcomes extent) text shows appended same = (text, shows, appended, same)
  shown_as (Claims j) text shows appended same = (text, shows, appended, same)
  shown_as Printed text shows appended same = (text, shows, appended, same)
  shown_as (Ran r) text shows appended same = tt
  shown_as Accepted text shows appended same = tt
  shown_as Words text shows appended same = tt
  shown_as (Refused r) text shows appended same = tt
  shown_as Read text shows appended same = tt
  shown_as Memory text shows appended same = tt
  shown_as Write text shows appended same = tt
  shown_as (Verified v) text shows appended same = tt
  shown_as Reported text shows appended same = tt
  shown_as Pictured text shows appended same = tt
  shown_as (NotRun why) text shows appended same = tt
  shown_as (NotDrawn n) text shows appended same = tt
  shown_as (NoOutcome k) text shows appended same = tt
  shown_as (ClaimRefused at) text shows appended same = tt
  shown_as NoClaim text shows appended same = tt

  pub shows_none : (e : Ending) → ShowsNone e → TellsShown command bytes e told told_now errors errors_now
  shows_none (Outcomes extent) none = absurd none
  shows_none (Claims j) none = absurd none
  shows_none Printed none = absurd none
  shows_none (Ran r) none = tt
  shows_none Accepted none = tt
  shows_none Words none = tt
  shows_none (Refused r) none = tt
  shows_none Read none = tt
  shows_none Memory none = tt
  shows_none Write none = tt
  shows_none (Verified v) none = tt
  shows_none Reported none = tt
  shows_none Pictured none = tt
  shows_none (NotRun why) none = tt
  shows_none (NotDrawn n) none = tt
  shows_none (NoOutcome k) none = tt
  shows_none (ClaimRefused at) none = tt
  shows_none NoClaim none = tt

-- ---- answers that show none

-- whatever line was put
line_none : (line : List ℕ) (came given : Ending) (told told_now : Option (List ℕ)) (faults faults_now : ℕ) → ShowsNone came → TellsLine line came given told told_now faults faults_now → ShowsNone given
line_none line came given told told_now faults faults_now none (inl same) = subst ShowsNone (sym same.0) none
line_none line came given told told_now faults faults_now none (inr failed) = subst ShowsNone (sym failed.0) tt

answer_none : (came given : Ending) (told told_now : Option (List ℕ)) (faults faults_now : ℕ) → ShowsNone came → TellsAnswer came given told told_now faults faults_now → ShowsNone given
answer_none came given told told_now faults faults_now none (inl line) = line_none (line_of came) came given told told_now faults faults_now none line
answer_none came given told told_now faults faults_now none (inr memory) = line_none (line_of Memory) Memory given told told_now faults faults_now tt memory.1

stop_none : (s : Stop) → ShowsNone (ending_of s)
stop_none stop.Words = tt
stop_none (stop.Refused r) = tt
stop_none stop.Read = tt
stop_none stop.NoScript = tt
stop_none stop.Memory = tt

pub stopped_none : (s : Stop) (came given : Ending) (told told_now : Option (List ℕ)) (faults faults_now : ℕ) → came ≡ ending_of s → TellsAnswer came given told told_now faults faults_now → ShowsNone given
stopped_none s came given told told_now faults faults_now same tells = answer_none came given told told_now faults faults_now (subst ShowsNone (sym same) (stop_none s)) tells

pub accepted_none : (given : Ending) (told told_now : Option (List ℕ)) (faults faults_now : ℕ) → TellsLine accepted_line Accepted given told told_now faults faults_now → ShowsNone given
accepted_none given told told_now faults faults_now line = line_none accepted_line Accepted given told told_now faults faults_now tt line

pub played_none : (write_fault : Type 0) (given : Ending) → IsPlayed write_fault given → ShowsNone given
played_none write_fault (Outcomes extent) played = played
played_none write_fault (Claims j) played = played
played_none write_fault Printed played = played
played_none write_fault (Ran r) played = tt
played_none write_fault Accepted played = tt
played_none write_fault Words played = tt
played_none write_fault (Refused r) played = tt
played_none write_fault Read played = tt
played_none write_fault Memory played = tt
played_none write_fault Write played = tt
played_none write_fault (Verified v) played = tt
played_none write_fault Reported played = tt
played_none write_fault Pictured played = tt
played_none write_fault (NotRun why) played = tt
played_none write_fault (NotDrawn n) played = tt
played_none write_fault (NoOutcome k) played = tt
played_none write_fault (ClaimRefused at) played = tt
played_none write_fault NoClaim played = tt

-- ---- what has to be known of the answers

-- an answer comes with a text, or without
pub record Answers (command : Option Command) (before left_now : Option (List ℕ)) (Shows : Ending → List ℕ → Type 0) (Lacks : Ending → Type 0) (read_fault write_fault : Type 0) : Type 0 where
  pub bytes : List ℕ
  pub input : IsInput command before bytes
  pub through : ReadThrough (source_limit command) before left_now
  pub due : (came : Ending) (text : List ℕ) → Shows came text → IsDue command before bytes read_fault write_fault came
  pub lacks_due : (came : Ending) → Lacks came → IsDue command before bytes read_fault write_fault came
  pub shown_through : (came : Ending) (text : List ℕ) → Shows came text → IsReadThrough (source_limit command) came before left_now
  pub lacks_through : (came : Ending) → Lacks came → IsReadThrough (source_limit command) came before left_now
  pub keeps : (choice : Option ClockChoice) (came : Ending) (text : List ℕ) (given : Ending) (es : List Entry) (lent now : Shown) → Shows came text → IsShown (λ t. t ≡ text) came given es lent now
      → Keeps command before bytes choice came given es lent now
  pub lacks_keeps : (choice : Option ClockChoice) (came given : Ending) (es : List Entry) (lent now : Shown) → Lacks came → IsIdle came given es lent now
      → Keeps command before bytes choice came given es lent now
  pub shows : (left : List ℕ) → before ≡ Some left → (came : Ending) (text : List ℕ) → Shows came text → ShowsAs command left came text
  pub lacks : (came : Ending) → Lacks came → ShowsNone came

module _ {command : Option Command} {before left_now : Option (List ℕ)} {Shows : Ending → List ℕ → Type 0} {Lacks : Ending → Type 0} where
  -- ---- the cause of the answer

  module _ (read_fault : Type 0) (given : Ending) (told told_now : Option (List ℕ)) (faults faults_now : ℕ) (errors errors_now : Option (List ℕ)) (err_faults err_faults_now : ℕ)
      (a : Answers command before left_now Shows Lacks read_fault (Failed faults faults_now err_faults err_faults_now)) where
    abbrev Bad : Type 0
    Bad = Failed faults faults_now err_faults err_faults_now

    either_due : TellsEither Shows Lacks given told told_now faults faults_now errors errors_now err_faults err_faults_now → IsDue command before a.bytes read_fault Bad given
    either_due (inl (came, text, shows, line, same_errors, same_faults)) =
        line_due command read_fault Bad before a.bytes text came given told told_now faults faults_now inl (a.due came text shows) line
    either_due (inr (came, lacks, same_told, same_faults, tells)) = by tells
      where
        by : TellsAnswer came given errors errors_now err_faults err_faults_now → IsDue command before a.bytes read_fault Bad given
        by (inl line) = line_due command read_fault Bad before a.bytes (line_of came) came given errors errors_now err_faults err_faults_now inr (a.lacks_due came lacks) line
        by (inr memory) = line_due command read_fault Bad before a.bytes (line_of Memory) Memory given errors errors_now err_faults err_faults_now inr tt memory.1

    pub show_due : TellsEither Shows Lacks given told told_now faults faults_now errors errors_now err_faults err_faults_now
        → (bytes : List ℕ) × IsInput command before bytes × IsDue command before bytes read_fault Bad given
    show_due tells = (a.bytes, a.input, either_due tells)

    -- what the sinks were told
    pub show_told : TellsEither Shows Lacks given told told_now faults faults_now errors errors_now err_faults err_faults_now
        → (left : List ℕ) → before ≡ Some left → TellsShown command left given told told_now errors errors_now
    show_told (inl (came, text, shows, inl same, same_errors, same_faults)) left known =
        subst (λ z. TellsShown command left z told told_now errors errors_now) (sym same.0) (shown_as command left told told_now errors errors_now came text (a.shows left known came text shows) same.1 same_errors)
    show_told (inl (came, text, shows, inr failed, same_errors, same_faults)) left known =
        shows_none command left told told_now errors errors_now given (subst ShowsNone (sym failed.0) tt)
    show_told (inr (came, lacks, same_told, same_faults, tells)) left known =
        shows_none command left told told_now errors errors_now given (answer_none came given errors errors_now err_faults err_faults_now (a.lacks came lacks) tells)

  -- ---- what the call came to

  module _ (read_fault : Type 0) (n m : ℕ) (choice : Option ClockChoice) (given : Ending) (es : List Entry) (lent now : Shown) (same : m ≡ n) (none : es ≡ []) (early : now.early ≡ lent.early)
      (a : Answers command before left_now Shows Lacks read_fault (WriteFault lent now)) where
    lacks_call : (came : Ending) → Lacks came → now.output ≡ lent.output → now.out_faults ≡ lent.out_faults
        → TellsAnswer came given lent.errors now.errors lent.err_faults now.err_faults → Call command read_fault (n < m) before left_now choice given es lent now
    lacks_call came lacks output faults (inl line) = record {
      bytes = a.bytes;
      input = a.input;
      came = came;
      due = a.lacks_due came lacks;
      faulty = λ rose. absurd (never_rose n m same rose);
      through = λ reads. a.lacks_through came lacks;
      kept = a.lacks_keeps choice came given es lent now lacks (idle came given es lent now none output faults early line);
    }
    lacks_call came lacks output faults (inr memory) = record {
      bytes = a.bytes;
      input = a.input;
      came = Memory;
      due = tt;
      faulty = λ rose. absurd (never_rose n m same rose);
      through = λ reads. few_through (source_limit command) before left_now a.through;
      kept = inl (idle Memory given es lent now none output faults early memory.1);
    }

    text_shown : (came : Ending) (text : List ℕ) → now.errors ≡ lent.errors → now.err_faults ≡ lent.err_faults → TellsLine text came given lent.output now.output lent.out_faults now.out_faults
        → IsShown (λ t. t ≡ text) came given es lent now
    text_shown came text errors faults line = record { no_entry = none; no_errors = (errors, faults); no_wait = early; text = text; shows = refl; told = line }

    pub show_call : TellsEither Shows Lacks given lent.output now.output lent.out_faults now.out_faults lent.errors now.errors lent.err_faults now.err_faults
        → Call command read_fault (n < m) before left_now choice given es lent now
    show_call (inl (came, text, shows, line, errors, faults)) = record {
      bytes = a.bytes;
      input = a.input;
      came = came;
      due = a.due came text shows;
      faulty = λ rose. absurd (never_rose n m same rose);
      through = λ reads. a.shown_through came text shows;
      kept = a.keeps choice came text given es lent now shows (text_shown came text errors faults line);
    }
    show_call (inr (came, lacks, output, faults, tells)) = lacks_call came lacks output faults tells

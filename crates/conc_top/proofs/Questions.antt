-- What a question about a document comes to.
use Rattle.std.proofs.Math.Logic.{∥∥₁_map}
use Rattle.std.proofs.Common.{◌≡◌, ℕ, List, refl, sym, ap, subst, ◌∙◌, inl}
use Rattle.std.specs.Prelude.{Option, Result, Some, Ok, Err}
use Rattle.hs_base.specs.declared.clock_choice.ClockChoice.{ClockChoice}
use Rattle.hs_rules.specs.declared.entry.Entry.{Entry}
use Rattle.rules_code.specs.Codes.{body_of}
use Rattle.rules_expansion.specs.trees.Programs.{Fn}
use Rattle.trace_report.specs.tally.Reporting.{report_of}
use Rattle.conc_task.specs.declared.words.command.Command.{Command}
use Rattle.conc_task.specs.declared.words.command.Question.{Question}
use Rattle.conc_task.specs.declared.words.command.Question.TheVariants.{Verify, Report, Picture}
use Rattle.conc_caps.specs.Runs.{Shown}
use Rattle.trace_report.specs.Verified.{Verified as VerifiedRun}
use Rattle.trace_report.specs.RunFault.{RunFault}
use Rattle.trace_report.specs.RunFault.TheVariants as fault
use Rattle.trace_report.specs.Checking.{Judges, TellsOfRun}
use Rattle.trace_picture.specs.declared.fault.PictureFault.{PictureFault}
use Rattle.trace_picture.specs.declared.fault.PictureFault.TheVariants as picture
use Rattle.conc_task.specs.declared.task.Replay.{Replay}
use Rattle.conc_task.specs.declared.task.Asked.TheVariants as asked
use Rattle.conc_task.specs.Commands.{Asks, IsInput, source_limit}
use Rattle.conc_task.specs.Inputs.{ReadThrough}
use Rattle.conc_task.specs.Tasks.{HasReplay}
use Rattle.conc_top.specs.declared.ending.Ending.{Ending}
use Rattle.conc_top.specs.declared.ending.Ending.TheVariants.{Memory, Verified, Reported, Pictured}
use Rattle.conc_top.specs.Lines.{verified_line}
use Rattle.conc_top.specs.Causes.{HasIn, HasPicture, HasRunIn, HasTelling, HasTooMany, HasVerdict, IsDue, IsPictureOf, IsReadThrough, unfound, unverified}
use Rattle.conc_top.specs.Answers.{IsFound, IsIdle, IsShown, IsShownOf, IsUnfound, IsUnshown, IsVerified, Keeps, replayed_script, TellsLine}
use Rattle.conc_top.proofs.Answering.{few_through}
use Rattle.conc_top.proofs.Shown.{Answers, ShowsAs, ShowsNone}

module _ (command : Option Command) (before left_now : Option (List ℕ)) (question : Question) (replay : Replay) (has : HasReplay command before left_now question replay) where
  abbrev ds : List Fn
  ds = replayed_script replay

  abbrev trace : List ℕ
  trace = replay.trace.items

  document_input : IsInput command before has.bytes
  document_input = subst (λ c. IsInput c before has.bytes) (sym has.asks) (has.document.document, has.document.left, inl (trace, has.document.parted))

  all_read : ReadThrough (source_limit command) before left_now
  all_read = subst (λ n. ReadThrough n before left_now) (sym (ap source_limit has.asks)) has.through

  verdict_of : (answer : Result VerifiedRun RunFault) → Judges ds trace answer → HasVerdict before has.bytes answer
  verdict_of answer judged = (trace, has.document, (body_of replay.code).of.value, has.accepted, judged)

  telling_of : (text : List ℕ) → TellsOfRun report_of ds trace text → HasTelling report_of before has.bytes text
  telling_of text tells = (trace, has.document, (body_of replay.code).of.value, has.accepted, tells)

  run_of : (text : List ℕ) → TellsOfRun report_of ds trace text → HasRunIn before has.bytes
  run_of text tells = (trace, has.document, (body_of replay.code).of.value, has.accepted, ∥∥₁_map tells (λ k. (k.0, k.1, k.2, k.3)))

  shown_of : (text : List ℕ) → IsPictureOf text ds trace → HasIn (IsPictureOf text) before has.bytes
  shown_of text is = (trace, has.document, (body_of replay.code).of.value, has.accepted, is)

  picture_of : (text : List ℕ) → IsPictureOf text ds trace → HasIn HasPicture before has.bytes
  picture_of text is = (trace, has.document, (body_of replay.code).of.value, has.accepted, (text, is))

  large_of : (n : ℕ) → HasTooMany n ds trace → HasIn (HasTooMany n) before has.bytes
  large_of n many = (trace, has.document, (body_of replay.code).of.value, has.accepted, many)

  -- ---- it has no answer

  module _ (read_fault write_fault : Type 0) where
    unverified_due : (f : RunFault) → Judges ds trace (Err f) → IsDue command before has.bytes read_fault write_fault (unverified f)
    unverified_due (fault.Spelling number) judged = ((question, has.asks), verdict_of (Err (fault.Spelling number)) judged)
    unverified_due (fault.Long number) judged = ((question, has.asks), verdict_of (Err (fault.Long number)) judged)
    unverified_due (fault.Illegal number) judged = ((question, has.asks), verdict_of (Err (fault.Illegal number)) judged)
    unverified_due fault.NoMemory judged = tt

    unfound_due : (f : PictureFault) → IsUnfound question ds trace f → IsDue command before has.bytes read_fault write_fault (unfound f)
    unfound_due (picture.Run f) judged = unverified_due f judged
    unfound_due (picture.Large n) (asks, many) = (subst (Asks command) asks has.asks, large_of n many)

  unverified_through : (f : RunFault) → IsReadThrough (source_limit command) (unverified f) before left_now
  unverified_through (fault.Spelling number) = all_read
  unverified_through (fault.Long number) = all_read
  unverified_through (fault.Illegal number) = all_read
  unverified_through fault.NoMemory = few_through (source_limit command) before left_now all_read

  unfound_through : (f : PictureFault) → IsReadThrough (source_limit command) (unfound f) before left_now
  unfound_through (picture.Run f) = unverified_through f
  unfound_through (picture.Large n) = all_read

  unverified_keeps : (choice : Option ClockChoice) (f : RunFault) (given : Ending) (es : List Entry) (lent now : Shown) → IsIdle (unverified f) given es lent now
      → Keeps command before has.bytes choice (unverified f) given es lent now
  unverified_keeps choice (fault.Spelling number) given es lent now kept = kept
  unverified_keeps choice (fault.Long number) given es lent now kept = kept
  unverified_keeps choice (fault.Illegal number) given es lent now kept = kept
  unverified_keeps choice fault.NoMemory given es lent now kept = inl kept

  unfound_keeps : (choice : Option ClockChoice) (f : PictureFault) (given : Ending) (es : List Entry) (lent now : Shown) → IsIdle (unfound f) given es lent now → Keeps command before has.bytes choice (unfound f) given es lent now
  unfound_keeps choice (picture.Run f) given es lent now kept = unverified_keeps choice f given es lent now kept
  unfound_keeps choice (picture.Large n) given es lent now kept = kept

  -- ---- this is the answer

  found_due : (read_fault write_fault : Type 0) (q : Question) (came : Ending) (text : List ℕ) → Asks command q → IsFound q ds trace came text → IsDue command before has.bytes read_fault write_fault came
  found_due read_fault write_fault Verify came text asks (v, is, line, judged) =
      subst (IsDue command before has.bytes read_fault write_fault) (sym is) (asks, verdict_of (Ok v) judged)
  found_due read_fault write_fault Report came text asks (is, tells) = subst (IsDue command before has.bytes read_fault write_fault) (sym is) (asks, run_of text tells)
  found_due read_fault write_fault Picture came text asks (is, drawn) = subst (IsDue command before has.bytes read_fault write_fault) (sym is) (asks, picture_of text drawn)

  found_through : (q : Question) (came : Ending) (text : List ℕ) → IsFound q ds trace came text → IsReadThrough (source_limit command) came before left_now
  found_through Verify came text (v, is, line, judged) = subst (λ z. IsReadThrough (source_limit command) z before left_now) (sym is) all_read
  found_through Report came text (is, tells) = subst (λ z. IsReadThrough (source_limit command) z before left_now) (sym is) all_read
  found_through Picture came text (is, drawn) = subst (λ z. IsReadThrough (source_limit command) z before left_now) (sym is) all_read

  -- the answer is kept

  verified_keeps : (v : VerifiedRun) (text : List ℕ) (given : Ending) (es : List Entry) (lent now : Shown) → text ≡ verified_line v → IsShown (λ t. t ≡ text) (Verified v) given es lent now → IsVerified v given es lent now
  verified_keeps v text given es lent now line kept = record {
    no_entry = kept.no_entry;
    no_errors = kept.no_errors;
    no_wait = kept.no_wait;
    told = subst (λ z. TellsLine z (Verified v) given lent.output now.output lent.out_faults now.out_faults) (kept.shows ∙ line) kept.told;
  }

  text_keeps : (Shows : List ℕ → Type 0) (came : Ending) (text : List ℕ) (given : Ending) (es : List Entry) (lent now : Shown) → Shows text → IsShown (λ t. t ≡ text) came given es lent now → IsShown Shows came given es lent now
  text_keeps Shows came text given es lent now shows kept =
      record { no_entry = kept.no_entry; no_errors = kept.no_errors; no_wait = kept.no_wait; text = kept.text; shows = subst Shows (sym kept.shows) shows; told = kept.told }

  module _ (choice : Option ClockChoice) (text : List ℕ) (given : Ending) (es : List Entry) (lent now : Shown) where
    found_keeps : (q : Question) (came : Ending) → IsFound q ds trace came text → IsShown (λ t. t ≡ text) came given es lent now → Keeps command before has.bytes choice came given es lent now
    found_keeps Verify came (v, is, line, judged) =
        subst (λ z. IsShown (λ t. t ≡ text) z given es lent now → Keeps command before has.bytes choice z given es lent now) (sym is) (verified_keeps v text given es lent now line)
    found_keeps Report came (is, tells) =
        subst (λ z. IsShown (λ t. t ≡ text) z given es lent now → Keeps command before has.bytes choice z given es lent now) (sym is)
        (text_keeps (HasTelling report_of before has.bytes) Reported text given es lent now (telling_of text tells))
    found_keeps Picture came (is, drawn) =
        subst (λ z. IsShown (λ t. t ≡ text) z given es lent now → Keeps command before has.bytes choice z given es lent now) (sym is)
        (text_keeps (λ t. HasIn (IsPictureOf t) before has.bytes) Pictured text given es lent now (shown_of text drawn))

  -- of an answer of another command nothing is asked

  found_shows : (left text : List ℕ) (q : Question) (came : Ending) → IsFound q ds trace came text → ShowsAs command left came text
  found_shows left text Verify came (v, is, line, judged) = subst (λ z. ShowsAs command left z text) (sym is) tt
  found_shows left text Report came (is, tells) = subst (λ z. ShowsAs command left z text) (sym is) tt
  found_shows left text Picture came (is, drawn) = subst (λ z. ShowsAs command left z text) (sym is) tt

  unverified_none : (f : RunFault) → ShowsNone (unverified f)
  unverified_none (fault.Spelling number) = tt
  unverified_none (fault.Long number) = tt
  unverified_none (fault.Illegal number) = tt
  unverified_none fault.NoMemory = tt

  unfound_none : (f : PictureFault) → ShowsNone (unfound f)
  unfound_none (picture.Run f) = unverified_none f
  unfound_none (picture.Large n) = tt

  -- the answer where there is none
  lacking : (P : Ending → Type 0) (came : Ending) → IsUnshown (asked.Document question replay) came → ((f : PictureFault) → IsUnfound question ds trace f → P (unfound f)) → P came
  lacking P came (f, is, judged) holds = subst P (sym is) (holds f judged)

  pub document_answers : (read_fault write_fault : Type 0) → Answers command before left_now (IsShownOf (asked.Document question replay)) (IsUnshown (asked.Document question replay)) read_fault write_fault
  document_answers read_fault write_fault = record {
    bytes = has.bytes;
    input = document_input;
    through = all_read;
    due = λ came text shows. found_due read_fault write_fault question came text has.asks shows;
    lacks_due = λ came lacks. lacking (IsDue command before has.bytes read_fault write_fault) came lacks (unfound_due read_fault write_fault);
    shown_through = λ came text shows. found_through question came text shows;
    lacks_through = λ came lacks. lacking (λ z. IsReadThrough (source_limit command) z before left_now) came lacks (λ f judged. unfound_through f);
    keeps = λ choice came text given es lent now shows. found_keeps choice text given es lent now question came shows;
    lacks_keeps = λ choice came given es lent now lacks.
        lacking (λ z. IsIdle z given es lent now → Keeps command before has.bytes choice z given es lent now) came lacks (λ f judged. unfound_keeps choice f given es lent now);
    shows = λ left known came text shows. found_shows left text question came shows;
    lacks = λ came lacks. lacking ShowsNone came lacks (λ f judged. unfound_none f);
  }

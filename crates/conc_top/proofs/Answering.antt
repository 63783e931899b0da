-- What a call tells where nothing ran.
use Rattle.std.proofs.Common.{◌≡◌, ◌≤◌, ◌<◌, ◌+◌, ◌⊎◌, ℕ, List, [], append-nil, refl, sym, ap, subst, inl, inr, arith}
use Rattle.std.specs.Prelude.{Option, Some, None, take}
use Rattle.std.specs.Io.KnownBytes.{Appends}
use Rattle.hs_base.specs.declared.clock_choice.ClockChoice.{ClockChoice}
use Rattle.hs_io.specs.Causes.{Rose}
use Rattle.hs_rules.specs.declared.entry.Entry.{Entry}
use Rattle.conc_caps.specs.Runs.{Shown}
use Rattle.conc_task.specs.declared.words.command.Command.{Command}
use Rattle.conc_task.specs.declared.stop.Stop.{Stop}
use Rattle.conc_task.specs.declared.stop.Stop.TheVariants as stop
use Rattle.conc_task.specs.declared.task.Task.{Task}
use Rattle.conc_task.specs.declared.task.Task.TheVariants.{Accept}
use Rattle.conc_task.specs.Commands.{IsInput, source_limit}
use Rattle.conc_task.specs.Inputs.{ReadThrough, TookFew}
use Rattle.conc_task.specs.Stops.{Counted, HasNone, IsStopped, WasRead}
use Rattle.conc_task.specs.Tasks.{HasChecked, HasTask}
use Rattle.conc_top.specs.declared.ending.Ending.{Ending}
use Rattle.conc_top.specs.declared.ending.Ending.TheVariants.{Accepted, Read, Memory, Write}
use Rattle.conc_top.specs.Lines.{accepted_line, HasPlace, line_of}
use Rattle.conc_top.specs.Causes.{ending_of, IsDue, IsFault, IsReadThrough}
use Rattle.conc_top.specs.Answers.{Call, IsIdle, IsWritten, Keeps, TellsAnswer, TellsLine, WriteFault}

-- ---- the cause of an answer

stop_due : (command : Option Command) (fault write_fault : Type 0) (before : Option (List ℕ)) (bytes : List ℕ) (s : Stop) → IsStopped command before bytes fault s → IsDue command before bytes fault write_fault (ending_of s)
stop_due command fault write_fault before bytes stop.Words stopped = stopped
stop_due command fault write_fault before bytes (stop.Refused r) stopped = stopped
stop_due command fault write_fault before bytes stop.Read stopped = stopped
stop_due command fault write_fault before bytes stop.NoScript stopped = stopped
stop_due command fault write_fault before bytes stop.Memory stopped = stopped

-- the line of an answer was put, or Write stands in its place
pub line_due : (command : Option Command) (fault write_fault : Type 0) (before : Option (List ℕ)) (bytes line : List ℕ) (came given : Ending) (told told_now : Option (List ℕ)) (faults faults_now : ℕ)
    → (Rose faults faults_now → write_fault) → IsDue command before bytes fault write_fault came → TellsLine line came given told told_now faults faults_now → IsDue command before bytes fault write_fault given
line_due command fault write_fault before bytes line came given told told_now faults faults_now rose due (inl same) = subst (IsDue command before bytes fault write_fault) (sym same.0) due
line_due command fault write_fault before bytes line came given told told_now faults faults_now rose due (inr failed) =
    subst (IsDue command before bytes fault write_fault) (sym failed.0) (rose failed.3)

-- a put on one of the two sinks failed
abbrev pub Failed : (out_faults out_faults_now faults faults_now : ℕ) → Type 0
Failed out_faults out_faults_now faults faults_now = Rose out_faults out_faults_now ⊎ Rose faults faults_now

answered_due : (command : Option Command) (fault : Type 0) (before left_now : Option (List ℕ)) (s : Stop) (given : Ending) (out_faults out_faults_now faults faults_now : ℕ) (told told_now : Option (List ℕ))
    → HasNone command fault before left_now s → TellsAnswer (ending_of s) given told told_now faults faults_now
    → (bytes : List ℕ) × IsInput command before bytes × IsDue command before bytes fault (Failed out_faults out_faults_now faults faults_now) given
answered_due command fault before left_now s given out_faults out_faults_now faults faults_now told told_now has tells = (has.bytes, has.input, due tells)
  where
    due : TellsAnswer (ending_of s) given told told_now faults faults_now → IsDue command before has.bytes fault (Failed out_faults out_faults_now faults faults_now) given
    due (inl line) =
        line_due command fault (Failed out_faults out_faults_now faults faults_now) before has.bytes (line_of (ending_of s)) (ending_of s) given told told_now faults faults_now inr
        (stop_due command fault (Failed out_faults out_faults_now faults faults_now) before has.bytes s has.stopped) line
    due (inr memory) = line_due command fault (Failed out_faults out_faults_now faults faults_now) before has.bytes (line_of Memory) Memory given told told_now faults faults_now inr tt memory.1

pub answer_due : (command : Option Command) (fault : Type 0) (before left_now : Option (List ℕ)) (s : Stop) (came given : Ending) (out_faults out_faults_now faults faults_now : ℕ) (told told_now : Option (List ℕ))
    → HasNone command fault before left_now s → came ≡ ending_of s → TellsAnswer came given told told_now faults faults_now
    → (bytes : List ℕ) × IsInput command before bytes × IsDue command before bytes fault (Failed out_faults out_faults_now faults faults_now) given
answer_due command fault before left_now s came given out_faults out_faults_now faults faults_now told told_now has is tells =
    answered_due command fault before left_now s given out_faults out_faults_now faults faults_now told told_now has (subst (λ z. TellsAnswer z given told told_now faults faults_now) is tells)

pub checked_due : (command : Option Command) (fault : Type 0) (before left_now : Option (List ℕ)) (given : Ending) (faults faults_now err_faults err_faults_now : ℕ) (told told_now : Option (List ℕ))
    → HasChecked command before left_now → TellsLine accepted_line Accepted given told told_now faults faults_now
    → (bytes : List ℕ) × IsInput command before bytes × IsDue command before bytes fault (Failed faults faults_now err_faults err_faults_now) given
checked_due command fault before left_now given faults faults_now err_faults err_faults_now told told_now has line =
    (has.bytes, has.input, line_due command fault (Failed faults faults_now err_faults err_faults_now) before has.bytes accepted_line Accepted given told told_now faults faults_now inl (has.checks, has.accepted) line)

-- ---- the source's count of faults

pub never_rose : (a b : ℕ) → b ≡ a → a < b → ⊥
never_rose a b same rose = omega (arith, same, rose)

read_failed : (s : Stop) (a b : ℕ) → Counted s a b → a < b → s ≡ stop.Read
read_failed stop.Words a b same rose = absurd (never_rose a b same rose)
read_failed (stop.Refused r) a b same rose = absurd (never_rose a b same rose)
read_failed stop.Read a b le rose = refl
read_failed stop.NoScript a b same rose = absurd (never_rose a b same rose)
read_failed stop.Memory a b same rose = absurd (never_rose a b same rose)

-- the line of a read fault was put, or Write stands in its place
line_fault : (line : List ℕ) (given : Ending) (told told_now : Option (List ℕ)) (faults faults_now : ℕ) → TellsLine line Read given told told_now faults faults_now → IsFault given
line_fault line given told told_now faults faults_now (inl same) = subst IsFault (sym same.0) tt
line_fault line given told told_now faults faults_now (inr failed) = subst IsFault (sym failed.0) tt

read_fault : (given : Ending) (told told_now : Option (List ℕ)) (faults faults_now : ℕ) → TellsAnswer Read given told told_now faults faults_now → IsFault given
read_fault given told told_now faults faults_now (inl line) = line_fault (line_of Read) given told told_now faults faults_now line
read_fault given told told_now faults faults_now (inr place) = absurd place.0

stop_fault : (s : Stop) (given : Ending) (told told_now : Option (List ℕ)) (faults faults_now : ℕ) → s ≡ stop.Read → TellsAnswer (ending_of s) given told told_now faults faults_now → IsFault given
stop_fault s given told told_now faults faults_now is tells = read_fault given told told_now faults faults_now (subst (λ z. TellsAnswer (ending_of z) given told told_now faults faults_now) is tells)

pub answer_fault : (s : Stop) (came given : Ending) (told told_now : Option (List ℕ)) (faults faults_now a b : ℕ) → Counted s a b → came ≡ ending_of s
    → TellsAnswer came given told told_now faults faults_now → a < b → IsFault given
answer_fault s came given told told_now faults faults_now a b counted is tells rose =
    stop_fault s given told told_now faults faults_now (read_failed s a b counted rose) (subst (λ z. TellsAnswer z given told told_now faults faults_now) is tells)

steady : (s : Stop) (given : Ending) (told told_now : Option (List ℕ)) (faults faults_now a b : ℕ) → Counted s a b → TellsAnswer (ending_of s) given told told_now faults faults_now
    → (IsFault given → ⊥) → b ≡ a
steady stop.Words given told told_now faults faults_now a b same tells none = same
steady (stop.Refused r) given told told_now faults faults_now a b same tells none = same
steady stop.Read given told told_now faults faults_now a b le tells none = absurd (none (read_fault given told told_now faults faults_now tells))
steady stop.NoScript given told told_now faults faults_now a b same tells none = same
steady stop.Memory given told told_now faults faults_now a b same tells none = same

pub answer_steady : (s : Stop) (came given : Ending) (told told_now : Option (List ℕ)) (faults faults_now a b : ℕ) → Counted s a b → came ≡ ending_of s
    → TellsAnswer came given told told_now faults faults_now → (IsFault given → ⊥) → b ≡ a
answer_steady s came given told told_now faults faults_now a b counted is tells none =
    steady s given told told_now faults faults_now a b counted (subst (λ z. TellsAnswer z given told told_now faults faults_now) is tells) none

-- ---- counts of faults

pub line_counted : (line : List ℕ) (came given : Ending) (told told_now : Option (List ℕ)) (faults faults_now : ℕ) → TellsLine line came given told told_now faults faults_now → faults ≤ faults_now
line_counted line came given told told_now faults faults_now (inl same) = omega (arith, same.2)
line_counted line came given told told_now faults faults_now (inr failed) = failed.4

-- ---- what is kept and told

pub idle : (came given : Ending) (es : List Entry) (lent now : Shown) → es ≡ [] → now.output ≡ lent.output → now.out_faults ≡ lent.out_faults
    → now.early ≡ lent.early → TellsLine (line_of came) came given lent.errors now.errors lent.err_faults now.err_faults → IsIdle came given es lent now
idle came given es lent now none output faults early line = record { no_entry = none; no_output = (output, faults); no_wait = early; told = line }

keeps_idle : (command : Option Command) (before : Option (List ℕ)) (bytes : List ℕ) (choice : Option ClockChoice) (s : Stop) (given : Ending) (es : List Entry) (lent now : Shown) → IsIdle (ending_of s) given es lent now
    → Keeps command before bytes choice (ending_of s) given es lent now
keeps_idle command before bytes choice stop.Words given es lent now kept = kept
keeps_idle command before bytes choice (stop.Refused r) given es lent now kept = kept
keeps_idle command before bytes choice stop.Read given es lent now kept = kept
keeps_idle command before bytes choice stop.NoScript given es lent now kept = kept
keeps_idle command before bytes choice stop.Memory given es lent now kept = inl kept

pub few_through : (limit : ℕ) (before now : Option (List ℕ)) → ReadThrough limit before now → TookFew limit before now
few_through limit None now through = tt
few_through limit (Some known) now through = (limit + 1, omega arith, through)

stop_through : (limit : ℕ) (before now : Option (List ℕ)) (s : Stop) → WasRead limit s before now → IsReadThrough limit (ending_of s) before now
stop_through limit before now stop.Words was = was
stop_through limit before now (stop.Refused r) was = was
stop_through limit before now stop.Read was = was
stop_through limit before now stop.NoScript was = was
stop_through limit before now stop.Memory was = was

-- an answer with a place in its line is a refusal
place_through : (limit : ℕ) (before now : Option (List ℕ)) (s : Stop) → HasPlace (ending_of s) → WasRead limit s before now → TookFew limit before now
place_through limit before now stop.Words has was = absurd has
place_through limit before now (stop.Refused r) has was = few_through limit before now was
place_through limit before now stop.Read has was = absurd has
place_through limit before now stop.NoScript has was = absurd has
place_through limit before now stop.Memory has was = absurd has

place_faulty : (s : Stop) (rose : Type 0) → HasPlace (ending_of s) → (rose → s ≡ stop.Read) → rose → Memory ≡ Read
place_faulty s rose has read found = absurd (subst (λ z. HasPlace (ending_of z)) (read found) has)

module _ (command : Option Command) (fault rose : Type 0) (before left_now : Option (List ℕ)) (choice : Option ClockChoice) where
  answered_call : (s : Stop) (given : Ending) (es : List Entry) (lent now : Shown) → HasNone command fault before left_now s → (rose → s ≡ stop.Read)
      → es ≡ [] → now.output ≡ lent.output → now.out_faults ≡ lent.out_faults → now.early ≡ lent.early
      → TellsAnswer (ending_of s) given lent.errors now.errors lent.err_faults now.err_faults → Call command fault rose before left_now choice given es lent now
  answered_call s given es lent now has read none output faults early (inl line) = record {
    bytes = has.bytes;
    input = has.input;
    came = ending_of s;
    due = stop_due command fault (WriteFault lent now) before has.bytes s has.stopped;
    faulty = λ found. ap ending_of (read found);
    through = λ reads. stop_through (source_limit command) before left_now s (has.through reads);
    kept = keeps_idle command before has.bytes choice s given es lent now (idle (ending_of s) given es lent now none output faults early line);
  }
  answered_call s given es lent now has read none output faults early (inr memory) = record {
    bytes = has.bytes;
    input = has.input;
    came = Memory;
    due = tt;
    faulty = place_faulty s rose memory.0 read;
    through = λ reads. place_through (source_limit command) before left_now s memory.0 (has.through reads);
    kept = inl (idle Memory given es lent now none output faults early memory.1);
  }

pub answer_call : (command : Option Command) (fault : Type 0) (a b : ℕ) (before left_now : Option (List ℕ)) (choice : Option ClockChoice) (s : Stop) (came given : Ending) (es : List Entry) (lent now : Shown)
    → HasNone command fault before left_now s → Counted s a b → came ≡ ending_of s → es ≡ [] → now.output ≡ lent.output → now.out_faults ≡ lent.out_faults → now.early ≡ lent.early
    → TellsAnswer came given lent.errors now.errors lent.err_faults now.err_faults → Call command fault (a < b) before left_now choice given es lent now
answer_call command fault a b before left_now choice s came given es lent now has counted is none output faults early tells =
    answered_call command fault (a < b) before left_now choice s given es lent now has (read_failed s a b counted) none output faults early
    (subst (λ z. TellsAnswer z given lent.errors now.errors lent.err_faults now.err_faults) is tells)

pub has_checked : (command : Option Command) (before now : Option (List ℕ)) (task : Task) → task ≡ Accept → HasTask command before now task → HasChecked command before now
has_checked command before now task is has = subst (HasTask command before now) is has

pub checked_call : (command : Option Command) (fault : Type 0) (a b : ℕ) (before left_now : Option (List ℕ)) (choice : Option ClockChoice) (given : Ending) (es : List Entry) (lent now : Shown)
    → HasChecked command before left_now → b ≡ a → es ≡ [] → now.errors ≡ lent.errors → now.err_faults ≡ lent.err_faults → now.early ≡ lent.early
    → TellsLine accepted_line Accepted given lent.output now.output lent.out_faults now.out_faults → Call command fault (a < b) before left_now choice given es lent now
checked_call command fault a b before left_now choice given es lent now has same none errors faults early line = record {
  bytes = has.bytes;
  input = has.input;
  came = Accepted;
  due = (has.checks, has.accepted);
  faulty = λ rose. absurd (never_rose a b same rose);
  through = λ reads. subst (λ n. ReadThrough n before left_now) (sym (ap source_limit has.checks)) has.through;
  kept = record { no_entry = none; no_errors = (errors, faults); no_wait = early; told = line };
}

-- ---- no document is written where nothing ran

appends_nothing : (told : Option (List ℕ)) (document : List ℕ) → (n : ℕ) × Appends told told (take n document)
appends_nothing None document = (0, tt)
appends_nothing (Some known) document = (0, sym (append-nil known))

pub nothing_written : (document : List ℕ) (told told_now : Option (List ℕ)) (s : Stop) → told_now ≡ told → IsWritten document (ending_of s) told told_now
nothing_written document told told_now stop.Words same = same
nothing_written document told told_now (stop.Refused r) same = same
nothing_written document told told_now stop.Read same = same
nothing_written document told told_now stop.NoScript same = same
nothing_written document told told_now stop.Memory same = same

write_written : (document : List ℕ) (told told_now : Option (List ℕ)) → told_now ≡ told → IsWritten document Write told told_now
write_written document told told_now same = subst (IsWritten document Write told) (sym same) (appends_nothing told document)

-- whatever line was put on the other sink
line_written : (document line : List ℕ) (came given : Ending) (told told_now errors errors_now : Option (List ℕ)) (faults faults_now : ℕ) → told_now ≡ told → IsWritten document came told told_now
    → TellsLine line came given errors errors_now faults faults_now → IsWritten document given told told_now
line_written document line came given told told_now errors errors_now faults faults_now same written (inl is) = subst (λ z. IsWritten document z told told_now) (sym is.0) written
line_written document line came given told told_now errors errors_now faults faults_now same written (inr failed) =
    subst (λ z. IsWritten document z told told_now) (sym failed.0) (write_written document told told_now same)

pub memory_written : (document : List ℕ) (given : Ending) (told told_now errors errors_now : Option (List ℕ)) (faults faults_now : ℕ) → told_now ≡ told
    → TellsLine (line_of Memory) Memory given errors errors_now faults faults_now → IsWritten document given told told_now
memory_written document given told told_now errors errors_now faults faults_now same line =
    line_written document (line_of Memory) Memory given told told_now errors errors_now faults faults_now same same line

pub answer_written : (document : List ℕ) (s : Stop) (came given : Ending) (told told_now errors errors_now : Option (List ℕ)) (faults faults_now : ℕ) → came ≡ ending_of s → told_now ≡ told
    → TellsAnswer came given errors errors_now faults faults_now → IsWritten document given told told_now
answer_written document s came given told told_now errors errors_now faults faults_now is same (inl line) =
    line_written document (line_of came) came given told told_now errors errors_now faults faults_now same (subst (λ z. IsWritten document z told told_now) (sym is) (nothing_written document told told_now s same)) line
answer_written document s came given told told_now errors errors_now faults faults_now is same (inr memory) =
    memory_written document given told told_now errors errors_now faults faults_now same memory.1

-- What writing the history of a run comes to.
use Rattle.std.proofs.Common.{◌≡◌, ◌≤◌, ◌<◌, ◌⊎◌, ℕ, List, [], length, take, true, false, refl, sym, ap, subst, ◌∙◌, inl, inr, arith}
use Rattle.std.specs.Prelude.{Option, Some, None, IfSome, IsSome}
use Rattle.std.specs.Io.KnownBytes.{Appends}
use Rattle.std.specs.declared.alloc.Global.{Global}
use Rattle.std.specs.declared.vec.Vec.{Vec}
use Rattle.std.proofs.Math.Seq.{take-length}
use Rattle.std.proofs.Math.Logic.{∥∥₁_elim, ∥∥₁_map}
use Rattle.std.proofs.Props.{props}
use Rattle.hs_base.specs.declared.clock_choice.ClockChoice.{ClockChoice}
use Rattle.hs_base.specs.declared.limits.Limits.{Limits}
use Rattle.hs_base.specs.declared.tree.script.Script.{Script}
use Rattle.hs_io.specs.Causes.{Rose}
use Rattle.hs_rules.specs.declared.entry.Entry.{Entry}
use Rattle.hs_rules.specs.declared.kept.Plan.{Plan}
use Rattle.rules_code.specs.Codes.{body_of}
use Rattle.trace_text.specs.spelling.Traces.{document_of}
use Rattle.rules_expansion.specs.trees.Programs.{Fn}
use Rattle.hs_laws.specs.HistoryEndings.{StaysWithin}
use Rattle.conc_caps.specs.RunEnd.{RunEnd}
use Rattle.conc_caps.specs.RunEnd.TheVariants as end
use Rattle.conc_caps.specs.Endings.{EndedBy}
use Rattle.conc_caps.specs.Told.{is_write}
use Rattle.conc_task.specs.declared.words.command.Command.{Command}
use Rattle.conc_task.specs.declared.words.command.Command.TheVariants as command
use Rattle.conc_caps.specs.Runs.{IsRunOf, Shown, script}
use Rattle.hs_compile.specs.Verdicts.{IsAccepted}
use Rattle.conc_task.specs.declared.task.Program.{Program}
use Rattle.conc_task.specs.declared.task.Task.{Task}
use Rattle.conc_task.specs.declared.task.Task.TheVariants.{Trace}
use Rattle.conc_task.specs.Documents.{IsLeft}
use Rattle.conc_task.specs.Commands.{IsInput, source_limit, Traces}
use Rattle.conc_task.specs.Tasks.{HasTask, HasTraced}
use Rattle.conc_top.specs.declared.ending.Ending.{Ending}
use Rattle.conc_top.specs.declared.ending.Ending.TheVariants.{Ran, Memory, Write}
use Rattle.conc_top.specs.Lines.{line_of, run_line, status_of}
use Rattle.conc_top.specs.Causes.{HasFault}
use Rattle.conc_top.specs.Searches.{limits}
use Rattle.conc_top.specs.Answers.{Call, HasRun, IsPlayed, IsWritten, PutsDocument, PutsTrace, RunsScript, Tells, TellsAnswer, TellsLine, TellsTrace, WriteFault, Writes, WritesRun}
use Rattle.conc_top.proofs.Playing.{keeps_laws, program_through, retold}
use Rattle.conc_top.proofs.Answering.{few_through, line_counted, memory_written, never_rose}

-- what is shown by sinks that take everything and tell nothing
abbrev pub quiet : (last early : ℕ) → Shown
quiet last early = record { output = None; errors = None; out_faults = 0; err_faults = 0; last = last; early = early }

-- ---- the cause of the ending

no_rise : Rose 0 0 ⊎ Rose 0 0 → ⊥
no_rise (inl rose) = omega (arith, rose)
no_rise (inr rose) = omega (arith, rose)

-- no put of the run itself fails, since nothing is put there
ended_quiet : (r : RunEnd) (ds : List Fn) (es : List Entry) (most : ℕ) (bounds : Limits) (a b c d : ℕ) → EndedBy (Some r) ds es most bounds 0 0 0 0 → EndedBy (Some r) ds es most bounds a b c d
ended_quiet end.Done ds es most bounds a b c d ended = ended
ended_quiet end.Uncaught ds es most bounds a b c d ended = ended
ended_quiet end.Deadlock ds es most bounds a b c d ended = ended
ended_quiet end.Fuel ds es most bounds a b c d ended = ended
ended_quiet end.Memory ds es most bounds a b c d ended = ended
ended_quiet end.Write ds es most bounds a b c d ended = absurd (no_rise ended)
ended_quiet (end.Limit kind e) ds es most bounds a b c d ended = ended

unwritten_end : (r : RunEnd) (ds : List Fn) (es : List Entry) (most : ℕ) (bounds : Limits) → ∥ EndedBy (Some r) ds es most bounds 0 0 0 0 ∥₁ → is_write (Some r) ≡ false
unwritten_end end.Done ds es most bounds ended = refl
unwritten_end end.Uncaught ds es most bounds ended = refl
unwritten_end end.Deadlock ds es most bounds ended = refl
unwritten_end end.Fuel ds es most bounds ended = refl
unwritten_end end.Memory ds es most bounds ended = refl
unwritten_end end.Write ds es most bounds ended = absurd (∥∥₁_elim ended (hlevel props) no_rise)
unwritten_end (end.Limit kind e) ds es most bounds ended = refl

fault_quiet : (r : RunEnd) (ds : List Fn) (es : List Entry) (most : ℕ) (bounds : Limits) (write_fault : Type 0) → ∥ EndedBy (Some r) ds es most bounds 0 0 0 0 ∥₁ → HasFault r write_fault
fault_quiet end.Done ds es most bounds write_fault ended = tt
fault_quiet end.Uncaught ds es most bounds write_fault ended = tt
fault_quiet end.Deadlock ds es most bounds write_fault ended = tt
fault_quiet end.Fuel ds es most bounds write_fault ended = tt
fault_quiet end.Memory ds es most bounds write_fault ended = tt
fault_quiet end.Write ds es most bounds write_fault ended = absurd (∥∥₁_elim ended (hlevel props) no_rise)
fault_quiet (end.Limit kind e) ds es most bounds write_fault ended = tt

run_fault : (p : Plan) (r : RunEnd) (es : List Entry) (last last_now early early_now : ℕ) (write_fault : Type 0) → ∥ IsRunOf p (Some r) es (quiet last early) (quiet last_now early_now) ∥₁ → HasFault r write_fault
run_fault p end.Done es last last_now early early_now write_fault run = tt
run_fault p end.Uncaught es last last_now early early_now write_fault run = tt
run_fault p end.Deadlock es last last_now early early_now write_fault run = tt
run_fault p end.Fuel es last last_now early early_now write_fault run = tt
run_fault p end.Memory es last last_now early early_now write_fault run = tt
run_fault p end.Write es last last_now early early_now write_fault run = absurd (∥∥₁_elim run (hlevel props) (λ one. ∥∥₁_elim one.ended (hlevel props) no_rise))
run_fault p (end.Limit kind e) es last last_now early early_now write_fault run = tt

-- ---- what was told

puts_trace : (bytes : List ℕ) (r : RunEnd) (given : Ending) (es : List Entry) (lent now : Shown)
    → PutsDocument (document_of es bytes) r given lent.output now.output lent.out_faults now.out_faults lent.errors now.errors lent.err_faults now.err_faults → PutsTrace bytes r given es lent now
puts_trace bytes r given es lent now (inl both) = inl (both.0, by both.2)
  where
    by : TellsLine (run_line r) (Ran r) given lent.errors now.errors lent.err_faults now.err_faults
        → ((given ≡ Ran r) × Appends lent.errors now.errors (run_line r))
        ⊎ ((given ≡ Write) × ((n : ℕ) × Appends lent.errors now.errors (take n (run_line r))) × (run_line r ≡ [] → ⊥) × Rose lent.err_faults now.err_faults)
    by (inl same) = inl (same.0, same.1)
    by (inr failed) = inr (failed.0, failed.1, failed.2, failed.3)
puts_trace bytes r given es lent now (inr failed) = inr (failed.0, failed.1, failed.4, failed.2)

module _ (fuel : ℕ) (s : Script) (bytes : List ℕ) (given : Ending) (es es_now : List Entry) (lent now : Shown) where
  runs_quiet : (p : Plan) (r : RunEnd) → p.body.of.value ≡ s → p.fuel ≡ fuel → p.limits ≡ limits → IsAccepted bytes s → IsRunOf p (Some r) es (quiet lent.last lent.early) (quiet now.last now.early)
      → TellsTrace bytes r given es lent now → RunsScript fuel bytes r es lent now (λ ds. TellsTrace bytes r given es lent now)
  runs_quiet p r script_is fuel_is limits_is accepted run told = let here = subst (IsAccepted bytes) (sym script_is) accepted in record {
    script = p.body.of.value;
    accepted = here;
    state = run.state;
    run = run.run;
    clock = run.clock;
    within = omega (arith, run.within, fuel_is);
    limited = subst (λ l. StaysWithin l (script p) es) limits_is run.limited;
    laws = keeps_laws bytes p.body.of.value here es run.state run.run;
    ticks = run.ticks;
    ended = ∥∥₁_map
        (subst (λ l. ∥ EndedBy (Some r) (script p) es fuel l 0 0 0 0 ∥₁) limits_is (subst (λ n. ∥ EndedBy (Some r) (script p) es n p.limits 0 0 0 0 ∥₁) fuel_is run.ended))
        (λ cause. ended_quiet r (script p) es fuel limits lent.out_faults lent.err_faults now.out_faults now.err_faults cause);
    told = told;
  }

  writes_run : (p : Plan) (r : RunEnd) → p.body.of.value ≡ s → p.fuel ≡ fuel → p.limits ≡ limits → IsAccepted bytes s → IsRunOf p (Some r) es (quiet lent.last lent.early) (quiet now.last now.early)
      → WritesRun bytes r given es es_now lent.output now.output lent.out_faults now.out_faults lent.errors now.errors lent.err_faults now.err_faults → Writes fuel bytes given es_now lent now
  writes_run p r script_is fuel_is limits_is accepted run (inl put) =
      subst (λ z. Writes fuel bytes given z lent now) (sym put.0)
      (inr (r, fault_quiet r (script p) es p.fuel p.limits (WriteFault lent now) run.ended, runs_quiet p r script_is fuel_is limits_is accepted run (unwritten_end r (script p) es p.fuel p.limits run.ended, puts_trace bytes r given es lent now put.1)))
  writes_run p r script_is fuel_is limits_is accepted run (inr memory) =
      inl (record { no_entry = memory.0; no_output = (memory.1, memory.2); told = memory.3 })

  pub writes : (final : Option RunEnd) → HasRun fuel s final es (quiet lent.last lent.early) (quiet now.last now.early) → IsAccepted bytes s
      → IfSome final (λ r. WritesRun bytes r given es es_now lent.output now.output lent.out_faults now.out_faults lent.errors now.errors lent.err_faults now.err_faults)
      → ∥ Writes fuel bytes given es_now lent now ∥₁
  writes None has accepted put = let none : false ≡ true = has.ended in absurd (cc none)
  writes (Some r) has accepted put = ∥∥₁_map has.run (λ run. writes_run has.plan r has.script has.fuel has.bounds accepted run put)

-- ---- the answer

-- all of it is a part of it
whole_part : (document : List ℕ) (told told_now : Option (List ℕ)) → Appends told told_now document → (n : ℕ) × Appends told told_now (take n document)
whole_part document told told_now whole = (length document, subst (Appends told told_now) (sym (take-length document)) whole)

module _ (bytes : List ℕ) (given : Ending) (es es_now : List Entry) (told told_now : Option (List ℕ)) (faults faults_now : ℕ) (errors errors_now : Option (List ℕ)) (err_faults err_faults_now : ℕ) where
  abbrev Put : RunEnd → Type 0
  Put r = WritesRun bytes r given es es_now told told_now faults faults_now errors errors_now err_faults err_faults_now

  put_cause : (r : RunEnd) → HasFault r (Rose faults faults_now ⊎ Rose err_faults err_faults_now) → Put r → IsPlayed (Rose faults faults_now ⊎ Rose err_faults err_faults_now) given
  put_cause r fault (inl put) = by put.1
    where
      line : TellsLine (run_line r) (Ran r) given errors errors_now err_faults err_faults_now → IsPlayed (Rose faults faults_now ⊎ Rose err_faults err_faults_now) given
      line (inl same) = subst (IsPlayed (Rose faults faults_now ⊎ Rose err_faults err_faults_now)) (sym same.0) fault
      line (inr failed) = subst (IsPlayed (Rose faults faults_now ⊎ Rose err_faults err_faults_now)) (sym failed.0) (inr failed.3)

      by : PutsDocument (document_of es bytes) r given told told_now faults faults_now errors errors_now err_faults err_faults_now → IsPlayed (Rose faults faults_now ⊎ Rose err_faults err_faults_now) given
      by (inl both) = line both.2
      by (inr failed) = subst (IsPlayed (Rose faults faults_now ⊎ Rose err_faults err_faults_now)) (sym failed.0) (inl failed.2)
  put_cause r fault (inr memory) = line memory.3
    where
      line : TellsLine (line_of Memory) Memory given errors errors_now err_faults err_faults_now → IsPlayed (Rose faults faults_now ⊎ Rose err_faults err_faults_now) given
      line (inl same) = subst (IsPlayed (Rose faults faults_now ⊎ Rose err_faults err_faults_now)) (sym same.0) tt
      line (inr failed) = subst (IsPlayed (Rose faults faults_now ⊎ Rose err_faults err_faults_now)) (sym failed.0) (inr failed.3)

  pub wrote_cause : (final : Option RunEnd) (fuel : ℕ) (s : Script) (last last_now early early_now : ℕ) → HasRun fuel s final es (quiet last early) (quiet last_now early_now) → IfSome final Put
      → IsPlayed (Rose faults faults_now ⊎ Rose err_faults err_faults_now) given
  wrote_cause None fuel s last last_now early early_now has put = let none : false ≡ true = has.ended in absurd (cc none)
  wrote_cause (Some r) fuel s last last_now early early_now has put =
      put_cause r (run_fault has.plan r es last last_now early early_now (Rose faults faults_now ⊎ Rose err_faults err_faults_now) has.run) put

  -- what the output sink was told
  put_written : (r : RunEnd) → Put r → IsWritten (document_of es_now bytes) given told told_now
  put_written r (inl put) = subst (λ z. IsWritten (document_of z bytes) given told told_now) (sym put.0) (by put.1)
    where
      by : PutsDocument (document_of es bytes) r given told told_now faults faults_now errors errors_now err_faults err_faults_now → IsWritten (document_of es bytes) given told told_now
      by (inl both) = line both.2
        where
          line : TellsLine (run_line r) (Ran r) given errors errors_now err_faults err_faults_now → IsWritten (document_of es bytes) given told told_now
          line (inl same) = subst (λ z. IsWritten (document_of es bytes) z told told_now) (sym same.0) both.0
          line (inr failed) = subst (λ z. IsWritten (document_of es bytes) z told told_now) (sym failed.0) (whole_part (document_of es bytes) told told_now both.0)
      by (inr failed) = subst (λ z. IsWritten (document_of es bytes) z told told_now) (sym failed.0) failed.1
  put_written r (inr memory) = memory_written (document_of es_now bytes) given told told_now errors errors_now err_faults err_faults_now memory.1 memory.3

  pub wrote : (final : Option RunEnd) → IsSome final → IfSome final Put → IsWritten (document_of es_now bytes) given told told_now
  wrote None some put = let none : false ≡ true = some in absurd (cc none)
  wrote (Some r) some put = put_written r put

  put_counts : (r : RunEnd) → Put r → (faults ≤ faults_now) × (err_faults ≤ err_faults_now)
  put_counts r (inl put) = by put.1
    where
      by : PutsDocument (document_of es bytes) r given told told_now faults faults_now errors errors_now err_faults err_faults_now → (faults ≤ faults_now) × (err_faults ≤ err_faults_now)
      by (inl both) = (omega (arith, both.1), line_counted (run_line r) (Ran r) given errors errors_now err_faults err_faults_now both.2)
      by (inr failed) = (failed.3, omega (arith, failed.5))
  put_counts r (inr memory) = (omega (arith, memory.2), line_counted (line_of Memory) Memory given errors errors_now err_faults err_faults_now memory.3)

  pub wrote_counts : (final : Option RunEnd) → IsSome final → IfSome final Put → (faults ≤ faults_now) × (err_faults ≤ err_faults_now)
  wrote_counts None some put = let none : false ≡ true = some in absurd (cc none)
  wrote_counts (Some r) some put = put_counts r put

  put_calm : (r : RunEnd) → Put r → (status_of given ≡ 8 → ⊥) → (faults_now ≡ faults) × (err_faults_now ≡ err_faults)
  put_calm r (inl put) other = by put.1
    where
      by : PutsDocument (document_of es bytes) r given told told_now faults faults_now errors errors_now err_faults err_faults_now → (faults_now ≡ faults) × (err_faults_now ≡ err_faults)
      by (inl both) = (both.1, line both.2)
        where
          line : TellsLine (run_line r) (Ran r) given errors errors_now err_faults err_faults_now → err_faults_now ≡ err_faults
          line (inl same) = same.2
          line (inr failed) = absurd (other (ap status_of failed.0))
      by (inr failed) = absurd (other (ap status_of failed.0))
  put_calm r (inr memory) other = (memory.2, line memory.3)
    where
      line : TellsLine (line_of Memory) Memory given errors errors_now err_faults err_faults_now → err_faults_now ≡ err_faults
      line (inl same) = same.2
      line (inr failed) = absurd (other (ap status_of failed.0))

  pub wrote_calm : (final : Option RunEnd) → IsSome final → IfSome final Put → (status_of given ≡ 8 → ⊥) → (faults_now ≡ faults) × (err_faults_now ≡ err_faults)
  wrote_calm None some put other = let none : false ≡ true = some in absurd (cc none)
  wrote_calm (Some r) some put other = put_calm r put other

-- no run began
pub unwritten : (fuel : ℕ) (bytes : List ℕ) (given : Ending) (es : List Entry) (lent now : Shown) → es ≡ [] → now.output ≡ lent.output → now.out_faults ≡ lent.out_faults
    → TellsAnswer Memory given lent.errors now.errors lent.err_faults now.err_faults → Writes fuel bytes given es lent now
unwritten fuel bytes given es lent now none output faults (inl line) = inl (record { no_entry = none; no_output = (output, faults); told = line })
unwritten fuel bytes given es lent now none output faults (inr place) = absurd (place.0)

pub memory_answer : (document : List ℕ) (given : Ending) (told told_now errors errors_now : Option (List ℕ)) (faults faults_now : ℕ) → told_now ≡ told → TellsAnswer Memory given errors errors_now faults faults_now
    → IsWritten document given told told_now
memory_answer document given told told_now errors errors_now faults faults_now same (inl line) = memory_written document given told told_now errors errors_now faults faults_now same line
memory_answer document given told told_now errors errors_now faults faults_now same (inr place) = absurd (place.0)

-- ---- what the call came to

pub has_traced : (command : Option Command) (before now : Option (List ℕ)) (task : Task) (program : Program) (read : Vec ℕ Global) → task ≡ Trace program read → HasTask command before now task → HasTraced command before now program read.items
has_traced command before now task program read is has = subst (HasTask command before now) is has

tells_as : (command : Option Command) (bytes : List ℕ) (r : RunEnd) (given : Ending) (es : List Entry) (lent now : Shown) (ds : List Fn) → Traces command → TellsTrace bytes r given es lent now → Tells command bytes r given es lent now ds
tells_as None bytes r given es lent now ds traces told = absurd traces
tells_as (Some (command.Run capabilities fuel clock)) bytes r given es lent now ds traces told = absurd traces
tells_as (Some command.Check) bytes r given es lent now ds traces told = absurd traces
tells_as (Some (command.Bench threads capabilities fuel)) bytes r given es lent now ds traces told = absurd traces
tells_as (Some (command.Trace capabilities fuel clock)) bytes r given es lent now ds traces told = told
tells_as (Some (command.Outcomes clock states fuel witness)) bytes r given es lent now ds traces told = absurd traces
tells_as (Some (command.Claims clock states fuel)) bytes r given es lent now ds traces told = absurd traces
tells_as (Some command.Haskell) bytes r given es lent now ds traces told = absurd traces
tells_as (Some (command.Ask question)) bytes r given es lent now ds traces told = absurd traces

module _ (command : Option Command) (fault : Type 0) (a b : ℕ) (before left_now : Option (List ℕ)) (choice : Option ClockChoice) (program : Program) (read : List ℕ) (has : HasTraced command before left_now program read) where
  traced_call : (given : Ending) (es : List Entry) (lent now : Shown) → b ≡ a → choice ≡ Some program.clock → Writes program.fuel read given es lent now
      → Call command fault (a < b) before left_now choice given es lent now
  traced_call given es lent now same chosen (inl none) = record {
    bytes = read;
    input = subst (IsInput command before) has.read has.made.input;
    came = Memory;
    due = tt;
    faulty = λ rose. absurd (never_rose a b same rose);
    through = λ reads. few_through (source_limit command) before left_now (program_through command before left_now program has.made reads);
    kept = inr (has.traces, none);
  }
  traced_call given es lent now same chosen (inr ran) = record {
    bytes = read;
    input = subst (IsInput command before) has.read has.made.input;
    came = Ran ran.0;
    due = ((program.fuel, program.clock, has.made.runs), ((body_of program.code).of.value, subst (λ z. IsAccepted z (body_of program.code).of.value) has.read has.made.accepted), ran.1);
    faulty = λ rose. absurd (never_rose a b same rose);
    through = program_through command before left_now program has.made;
    kept = (
      program.fuel,
      program.clock,
      has.made.runs,
      chosen,
      retold program.fuel read ran.0 es lent now (λ ds told. tells_as command read ran.0 given es lent now ds has.traces told) ran.2,
    );
  }

  pub trace_call : (given : Ending) (es : List Entry) (lent now : Shown) (lent_bytes : List ℕ) → lent_bytes ≡ read → b ≡ a → choice ≡ Some program.clock
      → (IsAccepted lent_bytes (body_of program.code).of.value → ∥ Writes program.fuel lent_bytes given es lent now ∥₁) → ∥ Call command fault (a < b) before left_now choice given es lent now ∥₁
  trace_call given es lent now lent_bytes is same chosen writes =
      ∥∥₁_map (subst (λ z. IsAccepted z (body_of program.code).of.value → ∥ Writes program.fuel z given es lent now ∥₁) is writes (subst (λ z. IsAccepted z (body_of program.code).of.value) has.read has.made.accepted))
      (traced_call given es lent now same chosen)

-- the bytes that a source had which tells them
left_of : (command : Option Command) (left : Option (List ℕ)) (bytes : List ℕ) → Traces command → IsInput command left bytes → IsLeft left bytes
left_of None left bytes traces input = absurd traces
left_of (Some (command.Run capabilities fuel clock)) left bytes traces input = absurd traces
left_of (Some command.Check) left bytes traces input = absurd traces
left_of (Some (command.Bench threads capabilities fuel)) left bytes traces input = absurd traces
left_of (Some (command.Trace capabilities fuel clock)) left bytes traces input = input
left_of (Some (command.Outcomes clock states fuel witness)) left bytes traces input = absurd traces
left_of (Some (command.Claims clock states fuel)) left bytes traces input = absurd traces
left_of (Some command.Haskell) left bytes traces input = absurd traces
left_of (Some (command.Ask question)) left bytes traces input = absurd traces

pub trace_written : (command : Option Command) (before left_now : Option (List ℕ)) (program : Program) (read lent_bytes : List ℕ) (given : Ending) (es : List Entry) (told told_now : Option (List ℕ))
    → HasTraced command before left_now program read → lent_bytes ≡ read → IsWritten (document_of es lent_bytes) given told told_now
    → (bytes : List ℕ) → Traces command → before ≡ Some bytes → IsWritten (document_of es bytes) given told told_now
trace_written command before left_now program read lent_bytes given es told told_now has is written bytes traces left =
    let known : bytes ≡ has.made.bytes = subst (λ z. IsLeft z has.made.bytes) left (left_of command before has.made.bytes traces has.made.input) in
    subst (λ z. IsWritten (document_of es z) given told told_now) (is ∙ sym has.read ∙ sym known) written

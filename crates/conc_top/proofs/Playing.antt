-- What a run leaves and the put of its line come to.
use Rattle.std.proofs.Common.{◌≡◌, ◌≤◌, ◌<◌, ◌+◌, ◌-◌, ◌^◌, ◌++◌, ◌⊎◌, ℕ, List, [], true, false, append-nil, take, refl, sym, ap, subst, ◌∙◌, inl, inr, arith, min}
use Rattle.std.specs.Prelude.{Option, Some, None, IfSome, IsSome}
use Rattle.std.specs.Io.KnownBytes.{Appends}
use Rattle.std.proofs.KnownBytes.{Appends-trans}
use Rattle.std.proofs.lemmas.Bool.{cases_lt}
use Rattle.std.proofs.Math.Logic.{∥∥₁_elim, ∥∥₁_map}
use Rattle.std.proofs.Props.{props}
use Rattle.hs_base.specs.declared.clock_choice.ClockChoice.{ClockChoice}
use Rattle.hs_base.specs.declared.limits.Limits.{Limits}
use Rattle.hs_base.specs.declared.tree.script.Script.{Script}
use Rattle.hs_io.specs.Causes.{Rose}
use Rattle.hs_rules.specs.declared.entry.Entry.{Entry}
use Rattle.hs_rules.specs.declared.kept.Plan.{Plan}
use Rattle.hs_rules.specs.State.{State}
use Rattle.hs_rules.specs.Runs.{IsRun, out, err}
use Rattle.rules_expansion.specs.trees.Programs.{Fn, script_of}
use Rattle.rules_code.specs.Codes.{body_of}
use Rattle.hs_laws.specs.HistoryEndings.{StaysWithin}
use Rattle.hs_laws.proofs.Expanded.{brackets_of, brackets_law, cells_law, masks_law}
use Rattle.scope_laws.proofs.Law.{scopes_law}
use Rattle.conc_caps.specs.RunEnd.{RunEnd}
use Rattle.conc_caps.specs.RunEnd.TheVariants as end
use Rattle.conc_caps.specs.Told.{AppendsPart, IsCutOff, is_write, ToldOf}
use Rattle.conc_caps.specs.Endings.{EndedBy}
use Rattle.conc_caps.specs.Clocks.{TicksKept}
use Rattle.conc_task.specs.declared.words.command.Command.{Command}
use Rattle.conc_task.specs.declared.words.command.Command.TheVariants.{Run, Check, Bench, Trace, Ask}
use Rattle.conc_task.specs.declared.words.command.Command.TheVariants as commands
use Rattle.conc_caps.specs.Runs.{IsRunOf, Shown, script}
use Rattle.hs_compile.specs.Verdicts.{IsAccepted, script_limit}
use Rattle.conc_task.specs.declared.task.Program.{Program}
use Rattle.conc_task.specs.declared.task.Task.{Task}
use Rattle.conc_task.specs.declared.task.Task.TheVariants.{Run as RunTask}
use Rattle.conc_task.specs.Commands.{IsInput, ReadsSource, Runs, RunsWith, source_limit, Traces}
use Rattle.conc_task.specs.Inputs.{IsScript, ReadThrough}
use Rattle.conc_task.specs.Tasks.{HasProgram, HasTask}
use Rattle.conc_top.specs.declared.ending.Ending.{Ending}
use Rattle.conc_top.specs.declared.ending.Ending.TheVariants.{Ran, Accepted, Words, Refused, Read, Memory, Write, Verified, Reported, Pictured, NotRun, NotDrawn, Outcomes, NoOutcome, Claims, ClaimRefused, NoClaim, Printed}
use Rattle.conc_top.specs.Lines.{line_of, run_line, run_status, status_of}
use Rattle.conc_top.specs.Causes.{HasFault, IsDue, IsUnrun}
use Rattle.conc_top.specs.Searches.{limits}
use Rattle.conc_top.specs.Answers.{Call, HasRun, IsPlayed, KeepsLaws, Plays, RunsScript, Tells, TellsAnswer, TellsBy, TellsLine, WriteFault}
use Rattle.conc_top.proofs.Answering.{few_through, idle, line_counted, never_rose}

-- ---- counts of faults

rose_later : (a b c : ℕ) → b ≤ c → Rose a b → Rose a c
rose_later a b c le rose = omega arith

rose_since : (a b c : ℕ) → a ≤ b → Rose b c → Rose a c
rose_since a b c le rose = omega arith

either_rose : (a b : ℕ) → Rose a b ⊎ (Rose a b → ⊥)
either_rose a b = elim (cases_lt b (min (a + 1) (2 ^ 64 - 1))) [ inl less ↦ inr (λ rose. omega arith) | inr le ↦ inl le ]

-- of two counts one rose, which can be looked up
rose_of : (a b c d : ℕ) → ∥ (Rose a b ⊎ Rose c d) ∥₁ → Rose a b ⊎ Rose c d
rose_of a b c d rose = by (either_rose a b) (either_rose c d)
  where
    by : Rose a b ⊎ (Rose a b → ⊥) → Rose c d ⊎ (Rose c d → ⊥) → Rose a b ⊎ Rose c d
    by (inl first) second = inl first
    by (inr none) (inl second) = inr second
    by (inr none) (inr neither) = absurd (∥∥₁_elim rose (hlevel props) (λ one. elim one [ inl first ↦ none first | inr second ↦ neither second ]))

-- ---- the cause of an ending

ended_later : (r : RunEnd) (ds : List Fn) (es : List Entry) (most : ℕ) (bounds : Limits) (out_lent err_lent out_old err_old out_now err_now : ℕ) → out_old ≤ out_now → err_old ≤ err_now
    → EndedBy (Some r) ds es most bounds out_lent err_lent out_old err_old → EndedBy (Some r) ds es most bounds out_lent err_lent out_now err_now
ended_later end.Done ds es most bounds out_lent err_lent out_old err_old out_now err_now output errors ended = ended
ended_later end.Uncaught ds es most bounds out_lent err_lent out_old err_old out_now err_now output errors ended = ended
ended_later end.Deadlock ds es most bounds out_lent err_lent out_old err_old out_now err_now output errors ended = ended
ended_later end.Fuel ds es most bounds out_lent err_lent out_old err_old out_now err_now output errors ended = ended
ended_later end.Memory ds es most bounds out_lent err_lent out_old err_old out_now err_now output errors ended = ended
ended_later end.Write ds es most bounds out_lent err_lent out_old err_old out_now err_now output errors (inl rose) = inl (rose_later out_lent out_old out_now output rose)
ended_later end.Write ds es most bounds out_lent err_lent out_old err_old out_now err_now output errors (inr rose) = inr (rose_later err_lent err_old err_now errors rose)
ended_later (end.Limit kind e) ds es most bounds out_lent err_lent out_old err_old out_now err_now output errors ended = ended

has_fault : (r : RunEnd) (ds : List Fn) (es : List Entry) (most : ℕ) (bounds : Limits) (out_lent err_lent out_now err_now : ℕ)
    → ∥ EndedBy (Some r) ds es most bounds out_lent err_lent out_now err_now ∥₁ → HasFault r (Rose out_lent out_now ⊎ Rose err_lent err_now)
has_fault end.Done ds es most bounds out_lent err_lent out_now err_now ended = tt
has_fault end.Uncaught ds es most bounds out_lent err_lent out_now err_now ended = tt
has_fault end.Deadlock ds es most bounds out_lent err_lent out_now err_now ended = tt
has_fault end.Fuel ds es most bounds out_lent err_lent out_now err_now ended = tt
has_fault end.Memory ds es most bounds out_lent err_lent out_now err_now ended = tt
has_fault end.Write ds es most bounds out_lent err_lent out_now err_now ended = rose_of out_lent out_now err_lent err_now ended
has_fault (end.Limit kind e) ds es most bounds out_lent err_lent out_now err_now ended = tt

-- ---- what the sinks were told

same_bytes : (lent now : Option (List ℕ)) (bytes : List ℕ) → Appends lent now (bytes ++ []) → Appends lent now bytes
same_bytes lent now bytes told = subst (Appends lent now) (append-nil bytes) told

part_still : (lent old now : Option (List ℕ)) (front whole : List ℕ) → AppendsPart lent old front whole → Appends old now [] → AppendsPart lent now front whole
part_still lent old now front whole part none =
    let (rest, is, n, told) = part in
    (rest, is, n, same_bytes lent now (front ++ take n rest) (Appends-trans lent old now (front ++ take n rest) [] told none))

cut_still : (ds : List Fn) (es : List Entry) (out_lent out_now err_lent err_old err_now : Option (List ℕ)) → IsCutOff ds es out_lent out_now err_lent err_old → Appends err_old err_now []
    → IsCutOff ds es out_lent out_now err_lent err_now
cut_still ds es out_lent out_now err_lent err_old err_now cut none = record { front = cut.front; last = cut.last; is = cut.is; told = told cut.told; prints = cut.prints }
  where
    told : (AppendsPart out_lent out_now (out ds cut.front) (out ds es) × Appends err_lent err_old (err ds cut.front))
        ⊎ (Appends out_lent out_now (out ds cut.front) × AppendsPart err_lent err_old (err ds cut.front) (err ds es))
        → (AppendsPart out_lent out_now (out ds cut.front) (out ds es) × Appends err_lent err_now (err ds cut.front))
        ⊎ (Appends out_lent out_now (out ds cut.front) × AppendsPart err_lent err_now (err ds cut.front) (err ds es))
    told (inl part) = inl (part.0, same_bytes err_lent err_now (err ds cut.front) (Appends-trans err_lent err_old err_now (err ds cut.front) [] part.1 none))
    told (inr part) = inr (part.0, part_still err_lent err_old err_now (err ds cut.front) (err ds es) part.1 none)

-- where the run ended by a failed put there is no line
cut_tells : (given : Ending) (ds : List Fn) (es : List Entry) (lent now : Shown) (err_old : Option (List ℕ)) (faults : ℕ) → IsCutOff ds es lent.output now.output lent.errors err_old
    → TellsLine (line_of (Ran end.Write)) (Ran end.Write) given err_old now.errors faults now.err_faults → TellsBy true end.Write given ds es lent now
cut_tells given ds es lent now err_old faults cut (inl same) = (same.0, cut_still ds es lent.output now.output lent.errors err_old now.errors cut same.1)
cut_tells given ds es lent now err_old faults cut (inr failed) = absurd (failed.2 refl)

whole_tells : (r : RunEnd) (given : Ending) (ds : List Fn) (es : List Entry) (lent now : Shown) (err_old : Option (List ℕ)) (faults : ℕ) → lent.err_faults ≤ faults
    → Appends lent.output now.output (out ds es) × Appends lent.errors err_old (err ds es) → TellsLine (line_of (Ran r)) (Ran r) given err_old now.errors faults now.err_faults
    → TellsBy false r given ds es lent now
whole_tells r given ds es lent now err_old faults le told (inl same) =
    (told.0, inl (same.0, Appends-trans lent.errors err_old now.errors (err ds es) (run_line r) told.1 same.1))
whole_tells r given ds es lent now err_old faults le told (inr failed) =
    let (n, part) = failed.1 in (
      told.0,
      inr (
        failed.0,
        (run_line r, refl, n, Appends-trans lent.errors err_old now.errors (err ds es) (take n (run_line r)) told.1 part),
        failed.2,
        rose_since lent.err_faults faults now.err_faults le failed.3,
      ),
    )

tells : (r : RunEnd) (given : Ending) (ds : List Fn) (es : List Entry) (lent now : Shown) (err_old : Option (List ℕ)) (faults : ℕ) → lent.err_faults ≤ faults
    → ToldOf (Some r) ds es lent.output now.output lent.errors err_old → TellsLine (line_of (Ran r)) (Ran r) given err_old now.errors faults now.err_faults
    → TellsBy (is_write (Some r)) r given ds es lent now
tells end.Done given ds es lent now err_old faults le told line = whole_tells end.Done given ds es lent now err_old faults le told line
tells end.Uncaught given ds es lent now err_old faults le told line = whole_tells end.Uncaught given ds es lent now err_old faults le told line
tells end.Deadlock given ds es lent now err_old faults le told line = whole_tells end.Deadlock given ds es lent now err_old faults le told line
tells end.Fuel given ds es lent now err_old faults le told line = whole_tells end.Fuel given ds es lent now err_old faults le told line
tells end.Memory given ds es lent now err_old faults le told line = whole_tells end.Memory given ds es lent now err_old faults le told line
tells end.Write given ds es lent now err_old faults le told line = cut_tells given ds es lent now err_old faults told line
tells (end.Limit kind e) given ds es lent now err_old faults le told line = whole_tells (end.Limit kind e) given ds es lent now err_old faults le told line

-- ---- the run

pub keeps_laws : (bytes : List ℕ) (script : Script) → IsAccepted bytes script → (es : List Entry) (s : State) → IsRun (script_of script) es s → KeepsLaws (script_of script) es s
keeps_laws bytes script accepted es s run =
    let ds = script_of script in
    record {
      released = brackets_of ds es s run;
      brackets = brackets_law ds es s run;
      cells = cells_law ds es s run;
      masks = masks_law ds es s run;
      scopes = scopes_law script accepted.1 es s run;
    }

-- what is shown once the line of the ending was put on the error sink
pub record Later (old now : Shown) : Type 0 where
  pub output : now.output ≡ old.output
  pub out_faults : now.out_faults ≡ old.out_faults
  pub last : now.last ≡ old.last
  pub early : now.early ≡ old.early

-- A run of this plan, which is that of the program for this script, was closed, and its line was put.
pub record Closing (p : Plan) (most : ℕ) (s : Script) (final : Option RunEnd) (given : Ending) (es : List Entry) (lent old now : Shown) : Type 0 where
  pub script : p.body.of.value ≡ s
  pub fuel : p.fuel ≡ most
  pub limits : p.limits ≡ limits
  pub ends : IsSome final
  pub run : ∥ IsRunOf p final es lent old ∥₁
  pub out_counted : lent.out_faults ≤ old.out_faults
  pub err_counted : lent.err_faults ≤ old.err_faults
  pub line : IfSome final (λ r. TellsLine (line_of (Ran r)) (Ran r) given old.errors now.errors old.err_faults now.err_faults)
  pub line_counted : old.err_faults ≤ now.err_faults
  pub later : Later old now

module _ (p : Plan) (fuel : ℕ) (s : Script) (r : RunEnd) (given : Ending) (es : List Entry) (lent old now : Shown) (closing : Closing p fuel s (Some r) given es lent old now) where
  ended : ∥ EndedBy (Some r) (script p) es p.fuel p.limits lent.out_faults lent.err_faults now.out_faults now.err_faults ∥₁
  ended = ∥∥₁_elim closing.run (hlevel props) (λ run. ∥∥₁_map run.ended (λ cause.
      ended_later r (script p) es p.fuel p.limits lent.out_faults lent.err_faults old.out_faults old.err_faults now.out_faults now.err_faults (omega (arith, closing.later.out_faults)) closing.line_counted cause))

  fault : HasFault r (WriteFault lent now)
  fault = has_fault r (script p) es p.fuel p.limits lent.out_faults lent.err_faults now.out_faults now.err_faults ended

  runs : (bytes : List ℕ) → IsAccepted bytes s → IsRunOf p (Some r) es lent old → RunsScript fuel bytes r es lent now (λ ds. TellsBy (is_write (Some r)) r given ds es lent now)
  runs bytes accepted run = let here = subst (IsAccepted bytes) (sym closing.script) accepted in record {
    script = p.body.of.value;
    accepted = here;
    state = run.state;
    run = run.run;
    clock = omega (arith, run.clock, closing.later.last);
    within = omega (arith, run.within, closing.fuel);
    limited = subst (λ l. StaysWithin l (script p) es) closing.limits run.limited;
    laws = keeps_laws bytes p.body.of.value here es run.state run.run;
    ticks = rw closing.later.early run.ticks;
    ended = subst (λ l. ∥ EndedBy (Some r) (script p) es fuel l lent.out_faults lent.err_faults now.out_faults now.err_faults ∥₁) closing.limits
        (subst (λ n. ∥ EndedBy (Some r) (script p) es n p.limits lent.out_faults lent.err_faults now.out_faults now.err_faults ∥₁) closing.fuel ended);
    told = tells r given (script p) es lent now old.errors old.err_faults closing.err_counted
        (subst (λ o. ToldOf (Some r) (script p) es lent.output o lent.errors old.errors) (sym closing.later.output) run.told) closing.line;
  }

  run_plays : (bytes : List ℕ) → IsAccepted bytes s → ∥ Plays fuel bytes given es lent now ∥₁
  run_plays bytes accepted = ∥∥₁_map closing.run (λ run. inr (r, fault, runs bytes accepted run))

  run_cause : IsPlayed (WriteFault lent now) given
  run_cause = by closing.line
    where
      by : TellsLine (line_of (Ran r)) (Ran r) given old.errors now.errors old.err_faults now.err_faults → IsPlayed (WriteFault lent now) given
      by (inl same) = subst (IsPlayed (WriteFault lent now)) (sym same.0) fault
      by (inr failed) = subst (IsPlayed (WriteFault lent now)) (sym failed.0) (inr (rose_since lent.err_faults old.err_faults now.err_faults closing.err_counted failed.3))

-- a status other than that of a failed put
not_write : (r : RunEnd) → (run_status r ≡ 8 → ⊥) → is_write (Some r) ≡ false
not_write end.Done other = refl
not_write end.Uncaught other = refl
not_write end.Deadlock other = refl
not_write end.Fuel other = refl
not_write end.Memory other = refl
not_write end.Write other = absurd (other refl)
not_write (end.Limit kind e) other = refl

module _ (p : Plan) (fuel : ℕ) (s : Script) (r : RunEnd) (given : Ending) (es : List Entry) (lent old now : Shown) (closing : Closing p fuel s (Some r) given es lent old now) where
  run_calm : (status_of given ≡ 8 → ⊥) → (now.out_faults ≡ lent.out_faults) × (now.err_faults ≡ lent.err_faults)
  run_calm other = by closing.line
    where
      by : TellsLine (line_of (Ran r)) (Ran r) given old.errors now.errors old.err_faults now.err_faults → (now.out_faults ≡ lent.out_faults) × (now.err_faults ≡ lent.err_faults)
      by (inl same) = ∥∥₁_elim closing.run (hlevel props) (λ run.
          let calm = run.calm (not_write r (λ e. other (ap status_of same.0 ∙ e))) in
          (closing.later.out_faults ∙ calm.0, same.2 ∙ calm.1))
      by (inr failed) = absurd (other (ap status_of failed.0))

-- ---- the same for an ending that is known to be there

module _ (p : Plan) (fuel : ℕ) (s : Script) where
  pub closing_plays : (final : Option RunEnd) (given : Ending) (es : List Entry) (lent old now : Shown) → Closing p fuel s final given es lent old now
      → (bytes : List ℕ) → IsAccepted bytes s → ∥ Plays fuel bytes given es lent now ∥₁
  closing_plays None given es lent old now closing bytes accepted = let none : false ≡ true = closing.ends in absurd (cc none)
  closing_plays (Some r) given es lent old now closing bytes accepted = run_plays p fuel s r given es lent old now closing bytes accepted

  pub closing_cause : (final : Option RunEnd) (given : Ending) (es : List Entry) (lent old now : Shown) → Closing p fuel s final given es lent old now → IsPlayed (WriteFault lent now) given
  closing_cause None given es lent old now closing = let none : false ≡ true = closing.ends in absurd (cc none)
  closing_cause (Some r) given es lent old now closing = run_cause p fuel s r given es lent old now closing

  pub closing_calm : (final : Option RunEnd) (given : Ending) (es : List Entry) (lent old now : Shown) → Closing p fuel s final given es lent old now
      → (status_of given ≡ 8 → ⊥) → (now.out_faults ≡ lent.out_faults) × (now.err_faults ≡ lent.err_faults)
  closing_calm None given es lent old now closing other = let none : false ≡ true = closing.ends in absurd (cc none)
  closing_calm (Some r) given es lent old now closing other = run_calm p fuel s r given es lent old now closing other

-- ---- what the calls leave, the one after the other

bounded : ℕ → ℕ → ℕ → ℕ → Limits
bounded t c f o = record { threads = t; cells = c; frames = f; output = o }

pub shipped : (l : Limits) → l.threads ≡ 65536 → l.cells ≡ 262144 → l.frames ≡ 200000 → l.output ≡ 8388608 → l ≡ limits
unfolding bounded
shipped l threads cells frames output =
    ap (λ n. bounded n l.cells l.frames l.output) threads ∙ ap (λ n. bounded 65536 n l.frames l.output) cells
    ∙ ap (λ n. bounded 65536 262144 n l.output) frames ∙ ap (λ n. bounded 65536 262144 200000 n) output

counted_line : (final : Option RunEnd) (given : Ending) (told told_now : Option (List ℕ)) (faults faults_now : ℕ) → IsSome final
    → IfSome final (λ r. TellsLine (line_of (Ran r)) (Ran r) given told told_now faults faults_now) → faults ≤ faults_now
counted_line None given told told_now faults faults_now some line = let none : false ≡ true = some in absurd (cc none)
counted_line (Some r) given told told_now faults faults_now some line = line_counted (line_of (Ran r)) (Ran r) given told told_now faults faults_now line

-- what was run and closed, once the line of the ending was put
pub closing_of : (most : ℕ) (s : Script) (final : Option RunEnd) (given : Ending) (es es_now : List Entry) (lent old now : Shown) (has : HasRun most s final es lent old) → es_now ≡ es
    → IfSome final (λ r. TellsLine (line_of (Ran r)) (Ran r) given old.errors now.errors old.err_faults now.err_faults) → Later old now
    → Closing has.plan most s final given es_now lent old now
closing_of most s final given es es_now lent old now has same line later = record {
  script = has.script;
  fuel = has.fuel;
  limits = has.bounds;
  ends = has.ended;
  run = subst (λ z. ∥ IsRunOf has.plan final z lent old ∥₁) (sym same) has.run;
  out_counted = has.out_counted;
  err_counted = has.err_counted;
  line = line;
  line_counted = counted_line final given old.errors now.errors old.err_faults now.err_faults has.ended line;
  later = later;
}

-- ---- the clock was told its choice before

-- what is shown, but for the last reading of the clock and how many waits were early
abbrev read_at : Shown → (last early : ℕ) → Shown
read_at lent last early = record { output = lent.output; errors = lent.errors; out_faults = lent.out_faults; err_faults = lent.err_faults; last = last; early = early }

run_since : (p : Plan) (final : Option RunEnd) (es : List Entry) (lent now : Shown) (last early : ℕ) → early ≡ lent.early → IsRunOf p final es (read_at lent last early) now → IsRunOf p final es lent now
run_since p final es lent now last early same run = record {
  accepted = run.accepted;
  state = run.state;
  run = run.run;
  clock = run.clock;
  within = run.within;
  limited = run.limited;
  ticks = subst (λ n. TicksKept (script p) es n now.early) same run.ticks;
  told = run.told;
  ended = run.ended;
  calm = run.calm;
}

module _ {O E K : Type 0} (out_told : O → Option (List ℕ)) (out_faults : O → ℕ) (err_told : E → Option (List ℕ)) (err_faults : E → ℕ) (last early : K → ℕ) where
  abbrev pub shown : O → E → K → Shown
  shown o e k = record { output = out_told o; errors = err_told e; out_faults = out_faults o; err_faults = err_faults e; last = last k; early = early k }

  pub same_shown : (o o_lent : O) (e e_lent : E) (k k_lent : K) → out_told o_lent ≡ out_told o → err_told e_lent ≡ err_told e → out_faults o_lent ≡ out_faults o
      → err_faults e_lent ≡ err_faults e → last k_lent ≡ last k → early k_lent ≡ early k → shown o_lent e_lent k_lent ≡ shown o e k
  same_shown o o_lent e e_lent k k_lent output errors output_faults errors_faults reading waits = rw (output, errors, output_faults, errors_faults, reading, waits) refl

  -- What was lent shows what was handed in, once the clock had its choice, and what is handed back was closed.
  pub has_run : (p : Plan) (fuel : ℕ) (s : Script) (final : Option RunEnd) (es : List Entry)
      (o o_lent o_old : O) (e e_lent e_old : E) (k k_chosen k_lent k_old : K)
      → shown o_lent e_lent k_lent ≡ shown o e k_chosen → early k_chosen ≡ early k
      → p.body.of.value ≡ s → p.fuel ≡ fuel → p.limits ≡ limits → IsSome final
      → ∥ IsRunOf p final es (shown o_lent e_lent k_lent) (shown o_old e_old k_old) ∥₁
      → out_faults o_lent ≤ out_faults o_old → err_faults e_lent ≤ err_faults e_old → early k_lent ≤ early k_old
      → HasRun fuel s final es (shown o e k) (shown o_old e_old k_old)
  has_run p fuel s final es o o_lent o_old e e_lent e_old k k_chosen k_lent k_old lent_is chosen_is script_is fuel_is limits_is some run out_le err_le early_le = record {
    plan = p;
    script = script_is;
    fuel = fuel_is;
    bounds = limits_is;
    ended = some;
    run = ∥∥₁_map (subst (λ z. ∥ IsRunOf p final es z (shown o_old e_old k_old) ∥₁) lent_is run)
        (λ one. run_since p final es (shown o e k) (shown o_old e_old k_old) (last k_chosen) (early k_chosen) chosen_is one);
    out_counted = subst (λ z. z.out_faults ≤ out_faults o_old) lent_is out_le;
    err_counted = subst (λ z. z.err_faults ≤ err_faults e_old) lent_is err_le;
    waited = subst (λ n. n ≤ early k_old) chosen_is (subst (λ z. z.early ≤ early k_old) lent_is early_le);
  }

  -- no run began, and what was handed in came back
  pub gave_up : (fuel : ℕ) (bytes : List ℕ) (given : Ending) (es : List Entry) (o o_now : O) (e e_back e_now : E) (k k_now : K) → o_now ≡ o → e_back ≡ e → early k_now ≡ early k → es ≡ []
      → TellsAnswer Memory given (err_told e_back) (err_told e_now) (err_faults e_back) (err_faults e_now) → Plays fuel bytes given es (shown o e k) (shown o_now e_now k_now)
  gave_up fuel bytes given es o o_now e e_back e_now k k_now o_is e_is k_is none (inl line) =
      inl (idle Memory given es (shown o e k) (shown o_now e_now k_now) none (ap out_told o_is) (ap out_faults o_is) k_is
      (subst (λ z. TellsLine (line_of Memory) Memory given (err_told z) (err_told e_now) (err_faults z) (err_faults e_now)) e_is line))
  gave_up fuel bytes given es o o_now e e_back e_now k k_now o_is e_is k_is none (inr place) = absurd (place.0)

-- ---- what was told, by the command

pub retold : {P Q : List Fn → Type 0} (fuel : ℕ) (bytes : List ℕ) (r : RunEnd) (es : List Entry) (lent now : Shown) → ((ds : List Fn) → P ds → Q ds) → RunsScript fuel bytes r es lent now P
    → RunsScript fuel bytes r es lent now Q
retold fuel bytes r es lent now change runs = record {
  script = runs.script;
  accepted = runs.accepted;
  state = runs.state;
  run = runs.run;
  clock = runs.clock;
  within = runs.within;
  limited = runs.limited;
  laws = runs.laws;
  ticks = runs.ticks;
  ended = runs.ended;
  told = change (script_of runs.script) runs.told;
}

tells_as : (command : Option Command) (fuel : ℕ) (clock : ClockChoice) (bytes : List ℕ) (r : RunEnd) (given : Ending) (es : List Entry) (lent now : Shown) (ds : List Fn) → RunsWith command fuel clock → (Traces command → ⊥)
    → TellsBy (is_write (Some r)) r given ds es lent now → Tells command bytes r given es lent now ds
tells_as None fuel clock bytes r given es lent now ds runs prints told = told
tells_as (Some (Run capabilities most choice)) fuel clock bytes r given es lent now ds runs prints told = told
tells_as (Some Check) fuel clock bytes r given es lent now ds runs prints told = told
tells_as (Some (Bench threads capabilities most)) fuel clock bytes r given es lent now ds runs prints told = told
tells_as (Some (Trace capabilities most choice)) fuel clock bytes r given es lent now ds runs prints told = absurd (prints tt)
tells_as (Some (commands.Outcomes choice states most witness)) fuel clock bytes r given es lent now ds runs prints told = told
tells_as (Some (commands.Claims choice states most)) fuel clock bytes r given es lent now ds runs prints told = told
tells_as (Some commands.Haskell) fuel clock bytes r given es lent now ds runs prints told = told
tells_as (Some (Ask question)) fuel clock bytes r given es lent now ds runs prints told = told

-- a command that runs its input reads a script
pub limit_is : (command : Option Command) (fuel : ℕ) (clock : ClockChoice) → RunsWith command fuel clock → source_limit command ≡ script_limit
limit_is None fuel clock runs = refl
limit_is (Some (Run capabilities most choice)) fuel clock runs = refl
limit_is (Some Check) fuel clock runs = refl
limit_is (Some (Bench threads capabilities most)) fuel clock runs = refl
limit_is (Some (Trace capabilities most choice)) fuel clock runs = refl
limit_is (Some (commands.Outcomes choice states most witness)) fuel clock runs = refl
limit_is (Some (commands.Claims choice states most)) fuel clock runs = refl
limit_is (Some commands.Haskell) fuel clock runs = refl
limit_is (Some (Ask question)) fuel clock runs = absurd runs

pub program_through : (command : Option Command) (before now : Option (List ℕ)) (program : Program) → HasProgram command before now program → ReadsSource command → ReadThrough (source_limit command) before now
program_through command before now program has reads =
    subst (λ n. ReadThrough n before now) (sym (limit_is command program.fuel program.clock has.runs)) (has.through reads)

-- ---- what the call came to

pub has_program : (command : Option Command) (before now : Option (List ℕ)) (task : Task) (program : Program) → task ≡ RunTask program → HasTask command before now task → HasProgram command before now program × ¬ Traces command
has_program command before now task program is has = subst (HasTask command before now) is has

module _ (command : Option Command) (fault : Type 0) (a b : ℕ) (before left_now : Option (List ℕ)) (choice : Option ClockChoice) (program : Program) where
  played_call : (given : Ending) (es : List Entry) (lent now : Shown) (has : HasProgram command before left_now program) → ¬ Traces command → b ≡ a → choice ≡ Some program.clock
      → Plays program.fuel has.bytes given es lent now → Call command fault (a < b) before left_now choice given es lent now
  played_call given es lent now has prints same chosen (inl idle) = record {
    bytes = has.bytes;
    input = has.input;
    came = Memory;
    due = tt;
    faulty = λ rose. absurd (never_rose a b same rose);
    through = λ reads. few_through (source_limit command) before left_now (program_through command before left_now program has reads);
    kept = inl idle;
  }
  played_call given es lent now has prints same chosen (inr ran) = record {
    bytes = has.bytes;
    input = has.input;
    came = Ran ran.0;
    due = ((program.fuel, program.clock, has.runs), ((body_of program.code).of.value, has.accepted), ran.1);
    faulty = λ rose. absurd (never_rose a b same rose);
    through = program_through command before left_now program has;
    kept = (
      program.fuel,
      program.clock,
      has.runs,
      chosen,
      retold program.fuel has.bytes ran.0 es lent now (λ ds told. tells_as command program.fuel program.clock has.bytes ran.0 given es lent now ds has.runs prints told) ran.2,
    );
  }

  pub program_call : (given : Ending) (es : List Entry) (lent now : Shown) → HasProgram command before left_now program × ¬ Traces command → b ≡ a → choice ≡ Some program.clock
      → ((bytes : List ℕ) → IsAccepted bytes (body_of program.code).of.value → ∥ Plays program.fuel bytes given es lent now ∥₁)
      → ∥ Call command fault (a < b) before left_now choice given es lent now ∥₁
  program_call given es lent now (has, prints) same chosen plays = ∥∥₁_map (plays has.bytes has.accepted) (played_call given es lent now has prints same chosen)

-- a played script has no answer that comes without a run
pub played_ran : (write_fault : Type 0) (given : Ending) → IsPlayed write_fault given → IsUnrun given → ⊥
played_ran write_fault (Ran r) played unrun = unrun
played_ran write_fault Memory played unrun = unrun
played_ran write_fault Write played unrun = unrun
played_ran write_fault (Refused r) played unrun = played
played_ran write_fault Accepted played unrun = played
played_ran write_fault Words played unrun = played
played_ran write_fault Read played unrun = played
played_ran write_fault (Verified v) played unrun = played
played_ran write_fault Reported played unrun = played
played_ran write_fault Pictured played unrun = played
played_ran write_fault (NotDrawn n) played unrun = played
played_ran write_fault (NotRun why) played unrun = played
played_ran write_fault (Outcomes extent) played unrun = played
played_ran write_fault (NoOutcome k) played unrun = played
played_ran write_fault (Claims j) played unrun = played
played_ran write_fault (ClaimRefused at) played unrun = played
played_ran write_fault NoClaim played unrun = played
played_ran write_fault Printed played unrun = played

-- the cause of the answer
played_due : (command : Option Command) (before : Option (List ℕ)) (bytes : List ℕ) (read_fault write_fault : Type 0) (given : Ending) → Runs command → IsScript bytes → IsPlayed write_fault given
    → IsDue command before bytes read_fault write_fault given
played_due command before bytes read_fault write_fault (Ran r) asked found played = (asked, found, played)
played_due command before bytes read_fault write_fault Memory asked found played = tt
played_due command before bytes read_fault write_fault Write asked found played = played
played_due command before bytes read_fault write_fault (Refused r) asked found played = absurd played
played_due command before bytes read_fault write_fault Accepted asked found played = absurd played
played_due command before bytes read_fault write_fault Words asked found played = absurd played
played_due command before bytes read_fault write_fault Read asked found played = absurd played
played_due command before bytes read_fault write_fault (Verified v) asked found played = absurd played
played_due command before bytes read_fault write_fault Reported asked found played = absurd played
played_due command before bytes read_fault write_fault Pictured asked found played = absurd played
played_due command before bytes read_fault write_fault (NotDrawn n) asked found played = absurd played
played_due command before bytes read_fault write_fault (NotRun why) asked found played = absurd played
played_due command before bytes read_fault write_fault (Outcomes extent) asked found played = absurd played
played_due command before bytes read_fault write_fault (NoOutcome k) asked found played = absurd played
played_due command before bytes read_fault write_fault (Claims j) asked found played = absurd played
played_due command before bytes read_fault write_fault (ClaimRefused at) asked found played = absurd played
played_due command before bytes read_fault write_fault NoClaim asked found played = absurd played
played_due command before bytes read_fault write_fault Printed asked found played = absurd played

pub program_due : (command : Option Command) (read_fault write_fault : Type 0) (before left_now : Option (List ℕ)) (program : Program) (given : Ending) → HasProgram command before left_now program
    → IsPlayed write_fault given → (bytes : List ℕ) × IsInput command before bytes × IsDue command before bytes read_fault write_fault given
program_due command read_fault write_fault before left_now program given has played =
    (has.bytes, has.input, played_due command before has.bytes read_fault write_fault given (program.fuel, program.clock, has.runs) ((body_of program.code).of.value, has.accepted) played)

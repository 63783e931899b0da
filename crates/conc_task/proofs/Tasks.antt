-- What the words and the input come to, command by command.
use Rattle.std.proofs.Common.{◌≡◌, ◌∙◌, ℕ, List, [], refl, sym, subst, arith}
use Rattle.std.specs.Prelude.{Option, Some, None}
use Rattle.hs_base.specs.declared.clock_choice.ClockChoice.{ClockChoice}
use Rattle.hs_base.specs.declared.clock_choice.ClockChoice.TheVariants.{Virtual}
use Rattle.rules_code.specs.declared.code.Code.{Code}
use Rattle.rules_code.specs.Codes.{body_of}
use Rattle.conc_task.specs.ring.Ring.{ring_text}
use Rattle.conc_task.specs.declared.words.command.Command.{Command}
use Rattle.conc_task.specs.declared.words.command.Command.TheVariants.{Run, Check, Bench, Trace, Outcomes, Claims, Haskell, Ask}
use Rattle.conc_task.specs.declared.words.command.Question.{Question}
use Rattle.hs_compile.specs.declared.refusal.Refusal.{Refusal}
use Rattle.hs_compile.specs.Verdicts.{IsAccepted, IsRefused, script_limit}
use Rattle.conc_task.specs.declared.stop.Stop.{Stop}
use Rattle.conc_task.specs.declared.stop.Stop.TheVariants.{Words, Refused, Read, NoScript, Memory}
use Rattle.conc_task.specs.declared.task.Replay.{Replay}
use Rattle.conc_task.specs.declared.task.Search.{Search}
use Rattle.conc_task.specs.Documents.{IsLeft}
use Rattle.conc_task.specs.Commands.{IsInput, ReadsSource, source_limit, Traces}
use Rattle.conc_task.specs.Inputs.{HadBytes, HadScript, HadSome, TookFew}
use Rattle.conc_task.specs.Stops.{HadNone, HasNone, IsDenied, IsUnclear, RefusesInput, WasRead}
use Rattle.conc_task.specs.Tasks.{HadSearch, HadSought, HasChecked, HasClaims, HasProgram, HasReplay, HasSearch, HasTraced}
use Rattle.conc_task.proofs.Reading.{any_left}
use Rattle.conc_task.proofs.Documents.{script_of}

-- ---- a script to run or to check

run_program : (command : Option Command) (capabilities fuel : ℕ) (clock : ClockChoice) (before now : Option (List ℕ)) (code : Code) → command ≡ Some (Run capabilities fuel clock)
    → HadScript before now (body_of code).of.value → HasProgram command before now (record { code = code; capabilities = capabilities; fuel = fuel; clock = clock })
run_program command capabilities fuel clock before now code is had =
    subst (λ c. HasProgram c before now (record { code = code; capabilities = capabilities; fuel = fuel; clock = clock })) (sym is) here
  where
    here : HasProgram (Some (Run capabilities fuel clock)) before now (record { code = code; capabilities = capabilities; fuel = fuel; clock = clock })
    here = record { runs = (refl, refl); shared = refl; bytes = had.bytes; input = had.left; accepted = had.accepted; through = λ reads. had.through }

pub run_task : (command : Option Command) (capabilities fuel : ℕ) (clock : ClockChoice) (before now : Option (List ℕ)) (code : Code) → command ≡ Some (Run capabilities fuel clock)
    → HadScript before now (body_of code).of.value → HasProgram command before now (record { code = code; capabilities = capabilities; fuel = fuel; clock = clock }) × ¬ Traces command
run_task command capabilities fuel clock before now code is had = (run_program command capabilities fuel clock before now code is had, λ traces. subst Traces is traces)

pub checked : (command : Option Command) (before now : Option (List ℕ)) → command ≡ Some Check → HadSome before now → HasChecked command before now
checked command before now is (s, had) = subst (λ c. HasChecked c before now) (sym is) here
  where
    here : HasChecked (Some Check) before now
    here = record { checks = refl; bytes = had.bytes; input = had.left; accepted = (s, had.accepted); through = had.through }

ring_program : (command : Option Command) (threads capabilities fuel : ℕ) (before now : Option (List ℕ)) (code : Code) → command ≡ Some (Bench threads capabilities fuel)
    → IsAccepted (ring_text threads) (body_of code).of.value → HasProgram command before now (record { code = code; capabilities = capabilities; fuel = fuel; clock = Virtual })
ring_program command threads capabilities fuel before now code is accepted =
    subst (λ c. HasProgram c before now (record { code = code; capabilities = capabilities; fuel = fuel; clock = Virtual })) (sym is) here
  where
    here : HasProgram (Some (Bench threads capabilities fuel)) before now (record { code = code; capabilities = capabilities; fuel = fuel; clock = Virtual })
    here = record { runs = (refl, refl); shared = refl; bytes = ring_text threads; input = refl; accepted = accepted; through = λ reads. absurd reads }

pub ring_task : (command : Option Command) (threads capabilities fuel : ℕ) (before now : Option (List ℕ)) (code : Code) → command ≡ Some (Bench threads capabilities fuel)
    → IsAccepted (ring_text threads) (body_of code).of.value → HasProgram command before now (record { code = code; capabilities = capabilities; fuel = fuel; clock = Virtual }) × ¬ Traces command
ring_task command threads capabilities fuel before now code is accepted = (ring_program command threads capabilities fuel before now code is accepted, λ traces. subst Traces is traces)

pub traced_program : (command : Option Command) (capabilities fuel : ℕ) (clock : ClockChoice) (before now : Option (List ℕ)) (code : Code) (read : List ℕ) → command ≡ Some (Trace capabilities fuel clock)
    → HadBytes before now (body_of code).of.value read → HasTraced command before now (record { code = code; capabilities = capabilities; fuel = fuel; clock = clock }) read
traced_program command capabilities fuel clock before now code read is (had, same) =
    subst (λ c. HasTraced c before now (record { code = code; capabilities = capabilities; fuel = fuel; clock = clock }) read) (sym is) here
  where
    here : HasTraced (Some (Trace capabilities fuel clock)) before now (record { code = code; capabilities = capabilities; fuel = fuel; clock = clock }) read
    here = record {
      traces = tt;
      made = record { runs = (refl, refl); shared = refl; bytes = had.bytes; input = had.left; accepted = had.accepted; through = λ reads. had.through };
      read = same;
    }

pub sought_of : (before now : Option (List ℕ)) (sought : Search) → HadBytes before now (body_of sought.code).of.value sought.script.items → HadSought before now sought
sought_of before now sought (had, same) = record {
  input = subst (IsLeft before) same had.left;
  accepted = subst (λ bytes. IsAccepted bytes (body_of sought.code).of.value) same had.accepted;
  through = had.through;
}

pub searched : (command : Option Command) (clock : ClockChoice) (states fuel : ℕ) (witness : Option ℕ) (before now : Option (List ℕ)) (sought : Search)
    → command ≡ Some (Outcomes clock states fuel witness) → HadSearch clock states fuel before now sought → HasSearch command before now sought witness
searched command clock states fuel witness before now sought is (same_clock, same_states, same_fuel, had) =
    (is ∙ (λ i. Some (Outcomes (sym same_clock i) (sym same_states i) (sym same_fuel i) witness)), had)

pub claims_sought : (command : Option Command) (clock : ClockChoice) (states fuel : ℕ) (before now : Option (List ℕ)) (sought : Search)
    → command ≡ Some (Claims clock states fuel) → HadSearch clock states fuel before now sought → HasClaims command before now sought
claims_sought command clock states fuel before now sought is (same_clock, same_states, same_fuel, had) =
    (is ∙ (λ i. Some (Claims (sym same_clock i) (sym same_states i) (sym same_fuel i))), had)

pub replayed : (command : Option Command) (before now : Option (List ℕ)) (question : Question) (replay : Replay) → command ≡ Some (Ask question) → HasReplay (Some (Ask question)) before now question replay
    → HasReplay command before now question replay
replayed command before now question replay is has = subst (λ c. HasReplay c before now question replay) (sym is) has

pub replay_none : (command : Option Command) (question : Question) (fault : Type 0) (before now : Option (List ℕ)) (e : Stop) → command ≡ Some (Ask question) → HasNone (Some (Ask question)) fault before now e
    → HasNone command fault before now e
replay_none command question fault before now e is has = subst (λ c. HasNone c fault before now e) (sym is) has

-- ---- no script

-- the command reads a script from the source, and nothing else
abbrev pub ReadsScript : Command → Type 0
ReadsScript (Run capabilities fuel clock) = Unit {0}
ReadsScript Check = Unit {0}
ReadsScript (Bench threads capabilities fuel) = ⊥
ReadsScript (Trace capabilities fuel clock) = Unit {0}
ReadsScript (Outcomes clock states fuel witness) = Unit {0}
ReadsScript (Claims clock states fuel) = Unit {0}
ReadsScript Haskell = Unit {0}
ReadsScript (Ask question) = ⊥

reads_source : (c : Command) → ReadsScript c → ReadsSource (Some c)
reads_source (Run capabilities fuel clock) reads = tt
reads_source Check reads = tt
reads_source (Trace capabilities fuel clock) reads = tt
reads_source (Outcomes clock states fuel witness) reads = tt
reads_source (Claims clock states fuel) reads = tt
reads_source Haskell reads = tt
reads_source (Bench threads capabilities fuel) reads = absurd reads
reads_source (Ask question) reads = absurd reads

limit_is : (c : Command) → ReadsScript c → source_limit (Some c) ≡ script_limit
limit_is (Run capabilities fuel clock) reads = refl
limit_is Check reads = refl
limit_is (Trace capabilities fuel clock) reads = refl
limit_is (Outcomes clock states fuel witness) reads = refl
limit_is (Claims clock states fuel) reads = refl
limit_is Haskell reads = refl
limit_is (Bench threads capabilities fuel) reads = refl
limit_is (Ask question) reads = absurd reads

refused_input : (c : Command) (before : Option (List ℕ)) (bytes : List ℕ) (r : Refusal) → ReadsScript c → IsRefused r bytes → RefusesInput (Some c) before bytes r
refused_input (Run capabilities fuel clock) before bytes r reads why = why
refused_input Check before bytes r reads why = why
refused_input (Trace capabilities fuel clock) before bytes r reads why = why
refused_input (Outcomes clock states fuel witness) before bytes r reads why = why
refused_input (Claims clock states fuel) before bytes r reads why = why
refused_input Haskell before bytes r reads why = why
refused_input (Bench threads capabilities fuel) before bytes r reads why = why
refused_input (Ask question) before bytes r reads why = absurd reads

was_read : (c : Command) (e : Stop) (before now : Option (List ℕ)) → ReadsScript c → WasRead script_limit e before now → WasRead (source_limit (Some c)) e before now
was_read c e before now reads through = subst (λ n. WasRead n e before now) (sym (limit_is c reads)) through

left_input : (c : Command) (before : Option (List ℕ)) (bytes : List ℕ) → ReadsScript c → IsLeft before bytes → IsInput (Some c) before bytes
left_input (Run capabilities fuel clock) before bytes reads left = left
left_input Check before bytes reads left = left
left_input (Trace capabilities fuel clock) before bytes reads left = left
left_input (Outcomes clock states fuel witness) before bytes reads left = left
left_input (Claims clock states fuel) before bytes reads left = left
left_input Haskell before bytes reads left = left
left_input (Bench threads capabilities fuel) before bytes reads left = absurd reads
left_input (Ask question) before bytes reads left = absurd reads

none_of : (c : Command) (fault : Type 0) (before now : Option (List ℕ)) (e : Stop) → ReadsScript c → HadNone fault before now e → HasNone (Some c) fault before now e
none_of c fault before now (Refused r) reads (bytes, left, why, through) = record {
  bytes = bytes;
  input = left_input c before bytes reads left;
  stopped = (refl, refused_input c before bytes r reads why);
  through = λ any. was_read c (Refused r) before now reads through;
}
none_of c fault before now Read reads (rose, few) =
    let (bytes, left) = any_left before in
    record { bytes = bytes; input = left_input c before bytes reads left; stopped = (reads_source c reads, rose); through = λ any. was_read c Read before now reads few }
none_of c fault before now Memory reads few =
    let (bytes, left) = any_left before in
    record { bytes = bytes; input = left_input c before bytes reads left; stopped = tt; through = λ any. was_read c Memory before now reads few }
none_of c fault before now Words reads had = absurd had
none_of c fault before now NoScript reads had = absurd had

pub source_none : (command : Option Command) (c : Command) (fault : Type 0) (before now : Option (List ℕ)) (e : Stop) → command ≡ Some c → ReadsScript c → HadNone fault before now e
    → HasNone command fault before now e
source_none command c fault before now e is reads had = subst (λ k. HasNone k fault before now e) (sym is) (none_of c fault before now e reads had)

ring_denied : (threads capabilities fuel : ℕ) (fault : Type 0) (before now : Option (List ℕ)) (e : Stop) → IsDenied (ring_text threads) e
    → HasNone (Some (Bench threads capabilities fuel)) fault before now e
ring_denied threads capabilities fuel fault before now (Refused r) why =
    record { bytes = ring_text threads; input = refl; stopped = (refl, why); through = λ reads. absurd reads }
ring_denied threads capabilities fuel fault before now Memory why =
    record { bytes = ring_text threads; input = refl; stopped = tt; through = λ reads. absurd reads }
ring_denied threads capabilities fuel fault before now Words why = absurd why
ring_denied threads capabilities fuel fault before now Read why = absurd why
ring_denied threads capabilities fuel fault before now NoScript why = absurd why

pub ring_none : (command : Option Command) (threads capabilities fuel : ℕ) (fault : Type 0) (before now : Option (List ℕ)) (e : Stop) → command ≡ Some (Bench threads capabilities fuel)
    → IsDenied (ring_text threads) e → HasNone command fault before now e
ring_none command threads capabilities fuel fault before now e is why =
    subst (λ k. HasNone k fault before now e) (sym is) (ring_denied threads capabilities fuel fault before now e why)

words_none : (command : Option Command) (fault : Type 0) (before now : Option (List ℕ)) → command ≡ None → HasNone command fault before now Words
words_none command fault before now is = subst (λ k. HasNone k fault before now Words) (sym is) here
  where
    here : HasNone None fault before now Words
    here = record { bytes = []; input = tt; stopped = refl; through = λ reads. tt }

-- ---- want of memory before the words are understood

any_input : (command : Option Command) (before : Option (List ℕ)) → (bytes : List ℕ) × IsInput command before bytes
any_input None before = ([], tt)
any_input (Some (Run capabilities fuel clock)) before = any_left before
any_input (Some Check) before = any_left before
any_input (Some (Bench threads capabilities fuel)) before = (ring_text threads, refl)
any_input (Some (Trace capabilities fuel clock)) before = any_left before
any_input (Some (Outcomes clock states fuel witness)) before = any_left before
any_input (Some (Claims clock states fuel)) before = any_left before
any_input (Some Haskell) before = any_left before
any_input (Some (Ask question)) before =
    let (document, left) = any_left before in
    let (bytes, is) = script_of document in
    (bytes, (document, left, is))

none_taken : (limit : ℕ) (before now : Option (List ℕ)) → now ≡ before → TookFew limit before now
none_taken limit None now is = tt
none_taken limit (Some bytes) now is = (0, omega arith, is)

memory_none : (command : Option Command) (fault : Type 0) (before now : Option (List ℕ)) → now ≡ before → HasNone command fault before now Memory
memory_none command fault before now is =
    let (bytes, input) = any_input command before in
    record { bytes = bytes; input = input; stopped = tt; through = λ reads. none_taken (source_limit command) before now is }

pub unclear : (command : Option Command) (fault : Type 0) (before now : Option (List ℕ)) (e : Stop) → now ≡ before → IsUnclear command e → HasNone command fault before now e
unclear command fault before now Words same why = words_none command fault before now why
unclear command fault before now Memory same why = memory_none command fault before now same
unclear command fault before now (Refused r) same why = absurd why
unclear command fault before now Read same why = absurd why
unclear command fault before now NoScript same why = absurd why

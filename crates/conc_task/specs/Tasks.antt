-- What there is to do once the words and the input are read (own).
use Rattle.std.specs.Prelude.{◌≡◌, ◌≤◌, ℕ, List, Option, Some, length, ⊤}
use Rattle.rules_code.specs.Codes.{body_of}
use Rattle.conc_task.specs.declared.words.command.Command.{Command}
use Rattle.conc_task.specs.declared.words.command.Command.TheVariants.{Check, Outcomes, Claims, Haskell}
use Rattle.conc_task.specs.declared.words.command.Question.{Question}
use Rattle.conc_task.specs.words.Commands.{IsNumbered}
use Rattle.hs_base.specs.declared.clock_choice.ClockChoice.{ClockChoice}
use Rattle.hs_base.specs.declared.tree.script.Script.{Script}
use Rattle.hs_compile.specs.Verdicts.{IsAccepted, script_limit}
use Rattle.conc_task.specs.declared.task.Program.{Program}
use Rattle.conc_task.specs.declared.task.Replay.{Replay}
use Rattle.conc_task.specs.declared.task.Search.{Search}
use Rattle.conc_task.specs.declared.task.Task.{Task}
use Rattle.conc_task.specs.declared.task.Task.TheVariants.{Run, Accept, Trace, Show}
use Rattle.conc_task.specs.declared.task.Asked.{Asked}
use Rattle.conc_task.specs.declared.task.Asked.TheVariants as asked
use Rattle.conc_task.specs.Documents.{document_limit, HasDocument, IsLeft, IsParted}
use Rattle.conc_task.specs.Commands.{Asks, IsInput, ReadsSource, RunsOn, RunsWith, Traces}
use Rattle.conc_task.specs.Inputs.{HadScript, IsScript, ReadThrough}

-- the command runs its input, which is the script that this program was made of
pub record HasProgram (command : Option Command) (before now : Option (List ℕ)) (program : Program) : Type 0 where
  pub runs : RunsWith command program.fuel program.clock
  pub shared : RunsOn command program.capabilities
  pub bytes : List ℕ
  pub input : IsInput command before bytes
  pub accepted : IsAccepted bytes (body_of program.code).of.value
  pub through : ReadsSource command → ReadThrough script_limit before now

-- the command checks its input, which is an accepted script
pub record HasChecked (command : Option Command) (before now : Option (List ℕ)) : Type 0 where
  pub checks : command ≡ Some Check
  pub bytes : List ℕ
  pub input : IsInput command before bytes
  pub accepted : IsScript bytes
  pub through : ReadThrough script_limit before now

-- the command writes the history of its input, which is the script that this program was made of, in these bytes
pub record HasTraced (command : Option Command) (before now : Option (List ℕ)) (program : Program) (bytes : List ℕ) : Type 0 where
  pub traces : Traces command
  pub made : HasProgram command before now program
  pub read : made.bytes ≡ bytes

-- The source had the script that this code was made of, in these bytes, and was read through.
pub record HadSought (before now : Option (List ℕ)) (sought : Search) : Type 0 where
  pub input : IsLeft before sought.script.items
  pub accepted : IsAccepted sought.script.items (body_of sought.code).of.value
  pub through : ReadThrough script_limit before now

-- a search of the script that the source had, so far and in this timing
abbrev pub HadSearch : (clock : ClockChoice) (states fuel : ℕ) (before now : Option (List ℕ)) → Search → Type 0
HadSearch clock states fuel before now sought = (sought.clock ≡ clock) × (sought.states ≡ states) × (sought.fuel ≡ fuel) × HadSought before now sought

-- the command lists the outcomes of what is sought, or writes down a run that comes to one
abbrev pub HasSearch : Option Command → (before now : Option (List ℕ)) → Search → (witness : Option ℕ) → Type 0
HasSearch command before now sought witness = (command ≡ Some (Outcomes sought.clock sought.states sought.fuel witness)) × HadSought before now sought

-- the command judges the claims of what is sought
abbrev pub HasClaims : Option Command → (before now : Option (List ℕ)) → Search → Type 0
HasClaims command before now sought = (command ≡ Some (Claims sought.clock sought.states sought.fuel)) × HadSought before now sought

-- the command prints the script that the source had
abbrev pub HasModule : Option Command → (before now : Option (List ℕ)) → Script → Type 0
HasModule command before now script = (command ≡ Some Haskell) × HadScript before now script

-- The document is parted into the trace of the replay and the script that its code was made of, which is accepted.
pub record IsReplay (document : List ℕ) (replay : Replay) : Type 0 where
  pub short : length document ≤ document_limit
  pub bytes : List ℕ
  pub parted : IsParted document replay.trace.items bytes
  pub accepted : IsAccepted bytes (body_of replay.code).of.value

-- the command asks this of the document of this replay
pub record HasReplay (command : Option Command) (before now : Option (List ℕ)) (question : Question) (replay : Replay) : Type 0 where
  pub asks : Asks command question
  pub bytes : List ℕ
  pub document : HasDocument before replay.trace.items bytes
  pub accepted : IsAccepted bytes (body_of replay.code).of.value
  pub through : ReadThrough document_limit before now

-- what is shown without a run is that of the command
abbrev pub HasAsked : Option Command → (before now : Option (List ℕ)) → Asked → Type 0
HasAsked command before now (asked.Outcomes sought witness) = HasSearch command before now sought witness
HasAsked command before now (asked.Claims sought) = HasClaims command before now sought
HasAsked command before now (asked.Module script) = HasModule command before now script
HasAsked command before now (asked.Document question replay) = HasReplay command before now question replay

-- what the words and the input ask for
abbrev pub HasTask : Option Command → (before now : Option (List ℕ)) → Task → Type 0
HasTask command before now (Run program) = HasProgram command before now program × ¬ Traces command
HasTask command before now Accept = HasChecked command before now
HasTask command before now (Trace program read) = HasTraced command before now program read.items
HasTask command before now (Show it) = HasAsked command before now it

-- there is fuel for what is searched, and not more than any run may have
abbrev pub HasSearchFuel : Asked → Type 0
HasSearchFuel (asked.Outcomes sought witness) = (1 ≤ sought.fuel) × (sought.fuel ≤ 4000000)
HasSearchFuel (asked.Claims sought) = (1 ≤ sought.fuel) × (sought.fuel ≤ 4000000)
HasSearchFuel (asked.Module script) = ⊤
HasSearchFuel (asked.Document question replay) = ⊤

-- a search may keep a state, and not more of them than any search may
abbrev pub HasSearchStates : Asked → Type 0
HasSearchStates (asked.Outcomes sought witness) = (1 ≤ sought.states) × (sought.states ≤ 4000000)
HasSearchStates (asked.Claims sought) = (1 ≤ sought.states) × (sought.states ≤ 4000000)
HasSearchStates (asked.Module script) = ⊤
HasSearchStates (asked.Document question replay) = ⊤

-- the number of the outcome that is asked for, where one is, is from 1 on
abbrev pub NumbersOutcome : Asked → Type 0
NumbersOutcome (asked.Outcomes sought witness) = IsNumbered witness
NumbersOutcome (asked.Claims sought) = ⊤
NumbersOutcome (asked.Module script) = ⊤
NumbersOutcome (asked.Document question replay) = ⊤

-- there is fuel for what is run or searched, and not more than any run may have
abbrev pub HasFuel : Task → Type 0
HasFuel (Run program) = (1 ≤ program.fuel) × (program.fuel ≤ 4000000)
HasFuel Accept = ⊤
HasFuel (Trace program read) = (1 ≤ program.fuel) × (program.fuel ≤ 4000000)
HasFuel (Show it) = HasSearchFuel it

abbrev pub HasStates : Task → Type 0
HasStates (Run program) = ⊤
HasStates Accept = ⊤
HasStates (Trace program read) = ⊤
HasStates (Show it) = HasSearchStates it

abbrev pub HasNumber : Task → Type 0
HasNumber (Run program) = ⊤
HasNumber Accept = ⊤
HasNumber (Trace program read) = ⊤
HasNumber (Show it) = NumbersOutcome it

-- what is run has a capability, and not more of them than any run may have
abbrev pub HasCapabilities : Task → Type 0
HasCapabilities (Run program) = (1 ≤ program.capabilities) × (program.capabilities ≤ 16)
HasCapabilities Accept = ⊤
HasCapabilities (Trace program read) = (1 ≤ program.capabilities) × (program.capabilities ≤ 16)
HasCapabilities (Show it) = ⊤

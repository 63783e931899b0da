-- What each command reads, and what it runs with (own).
use Rattle.std.specs.Prelude.{◌≡◌, ◌⊎◌, ℕ, List, Option, Some, None, ⊤}
use Rattle.hs_base.specs.declared.clock_choice.ClockChoice.{ClockChoice}
use Rattle.hs_base.specs.declared.clock_choice.ClockChoice.TheVariants.{Virtual}
use Rattle.conc_task.specs.ring.Ring.{ring_text}
use Rattle.conc_task.specs.declared.words.command.Command.{Command}
use Rattle.conc_task.specs.declared.words.command.Command.TheVariants.{Run, Check, Bench, Trace, Outcomes, Claims, Haskell, Ask}
use Rattle.conc_task.specs.declared.words.command.Question.{Question}
use Rattle.hs_compile.specs.Verdicts.{script_limit}
use Rattle.conc_task.specs.Documents.{document_limit, IsLeft, IsScriptOf}

-- The command reads the source. No other words do.
abbrev pub ReadsSource : Option Command → Type 0
ReadsSource None = ⊥
ReadsSource (Some (Run capabilities fuel clock)) = ⊤
ReadsSource (Some Check) = ⊤
ReadsSource (Some (Bench threads capabilities fuel)) = ⊥
ReadsSource (Some (Trace capabilities fuel clock)) = ⊤
ReadsSource (Some (Outcomes clock states fuel witness)) = ⊤
ReadsSource (Some (Claims clock states fuel)) = ⊤
ReadsSource (Some Haskell) = ⊤
ReadsSource (Some (Ask question)) = ⊤

-- The most bytes of what the command reads from the source: a script, or a document where something is asked of one.
abbrev pub source_limit : Option Command → ℕ
source_limit None = script_limit
source_limit (Some (Run capabilities fuel clock)) = script_limit
source_limit (Some Check) = script_limit
source_limit (Some (Bench threads capabilities fuel)) = script_limit
source_limit (Some (Trace capabilities fuel clock)) = script_limit
source_limit (Some (Outcomes clock states fuel witness)) = script_limit
source_limit (Some (Claims clock states fuel)) = script_limit
source_limit (Some Haskell) = script_limit
source_limit (Some (Ask question)) = document_limit

-- These bytes are the input of the command: what the source had left, for `bench N` the text of the ring, and where
-- something is asked of a document, the script of the one that the source had left.
abbrev pub IsInput : Option Command → (left : Option (List ℕ)) → List ℕ → Type 0
IsInput None left bytes = ⊤
IsInput (Some (Run capabilities fuel clock)) left bytes = IsLeft left bytes
IsInput (Some Check) left bytes = IsLeft left bytes
IsInput (Some (Bench threads capabilities fuel)) left bytes = bytes ≡ ring_text threads
IsInput (Some (Trace capabilities fuel clock)) left bytes = IsLeft left bytes
IsInput (Some (Outcomes clock states fuel witness)) left bytes = IsLeft left bytes
IsInput (Some (Claims clock states fuel)) left bytes = IsLeft left bytes
IsInput (Some Haskell) left bytes = IsLeft left bytes
IsInput (Some (Ask question)) left bytes = (document : List ℕ) × IsLeft left document × IsScriptOf document bytes

-- The command runs its input with this fuel, by this clock.
abbrev pub RunsWith : Option Command → (fuel : ℕ) → ClockChoice → Type 0
RunsWith None most choice = ⊥
RunsWith (Some (Run capabilities fuel clock)) most choice = (most ≡ fuel) × (choice ≡ clock)
RunsWith (Some Check) most choice = ⊥
RunsWith (Some (Bench threads capabilities fuel)) most choice = (most ≡ fuel) × (choice ≡ Virtual)
RunsWith (Some (Trace capabilities fuel clock)) most choice = (most ≡ fuel) × (choice ≡ clock)
RunsWith (Some (Outcomes clock states fuel witness)) most choice = ⊥
RunsWith (Some (Claims clock states fuel)) most choice = ⊥
RunsWith (Some Haskell) most choice = ⊥
RunsWith (Some (Ask question)) most choice = ⊥

-- The command runs its input on so many capabilities.
abbrev pub RunsOn : Option Command → ℕ → Type 0
RunsOn None count = ⊥
RunsOn (Some (Run capabilities fuel clock)) count = count ≡ capabilities
RunsOn (Some Check) count = ⊥
RunsOn (Some (Bench threads capabilities fuel)) count = count ≡ capabilities
RunsOn (Some (Trace capabilities fuel clock)) count = count ≡ capabilities
RunsOn (Some (Outcomes clock states fuel witness)) count = ⊥
RunsOn (Some (Claims clock states fuel)) count = ⊥
RunsOn (Some Haskell) count = ⊥
RunsOn (Some (Ask question)) count = ⊥

-- The command writes the history of what it runs, in place of what that prints.
abbrev pub Traces : Option Command → Type 0
Traces None = ⊥
Traces (Some (Run capabilities fuel clock)) = ⊥
Traces (Some Check) = ⊥
Traces (Some (Bench threads capabilities fuel)) = ⊥
Traces (Some (Trace capabilities fuel clock)) = ⊤
Traces (Some (Outcomes clock states fuel witness)) = ⊥
Traces (Some (Claims clock states fuel)) = ⊥
Traces (Some Haskell) = ⊥
Traces (Some (Ask question)) = ⊥

-- The command lists the outcomes of its input, or writes down a run that comes to one. It runs nothing.
abbrev pub Lists : Option Command → Type 0
Lists None = ⊥
Lists (Some (Run capabilities fuel clock)) = ⊥
Lists (Some Check) = ⊥
Lists (Some (Bench threads capabilities fuel)) = ⊥
Lists (Some (Trace capabilities fuel clock)) = ⊥
Lists (Some (Outcomes clock states fuel witness)) = ⊤
Lists (Some (Claims clock states fuel)) = ⊥
Lists (Some Haskell) = ⊥
Lists (Some (Ask question)) = ⊥

-- the command asks this of a document
abbrev pub Asks : Option Command → Question → Type 0
Asks command question = command ≡ Some (Ask question)

-- it asks something of a document
abbrev pub AsksSomething : Option Command → Type 0
AsksSomething command = (question : Question) × Asks command question

-- the command runs its input
abbrev pub Runs : Option Command → Type 0
Runs command = (fuel : ℕ) × (choice : ClockChoice) × RunsWith command fuel choice

-- the choice of a clock is as it was, or that of the command
abbrev pub IsChosen : Option Command → (before now : Option ClockChoice) → Type 0
IsChosen command before now = (now ≡ before) ⊎ ((fuel : ℕ) × (choice : ClockChoice) × RunsWith command fuel choice × (now ≡ Some choice))

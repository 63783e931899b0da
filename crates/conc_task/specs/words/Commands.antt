-- Which command the words are (own).
use Rattle.std.specs.Prelude.{◌≡◌, ◌≤◌, ◌<◌, ◌⊎◌, ℕ, ◌^◌, ◌&&◌, List, String, Option, Some, None, codes, false, map, string_bytes, if◌then◌else◌, nat_lt, option_and_then, option_map}
use Rattle.std.specs.Str.{bytes_eq}
use Rattle.std.specs.Str.Parse.{digits_value, without_leading_plus}
use Rattle.clap.specs.ValueTests.{is_numeral}
use Rattle.clap.specs.Walk.{Row, Text, first_of, one_of}
use Rattle.clap.specs.Simple.{subcommand_of}
use Rattle.clap.specs.Takes.{takes}
use Rattle.hs_base.specs.declared.clock_choice.ClockChoice.{ClockChoice}
use Rattle.hs_base.specs.declared.clock_choice.ClockChoice.TheVariants.{Real, Virtual}
use Rattle.conc_task.specs.declared.words.command.Command.{Command}
use Rattle.conc_task.specs.declared.words.command.Command.TheVariants.{Run, Check, Bench, Trace, Outcomes, Claims, Haskell, Ask}
use Rattle.conc_task.specs.declared.words.command.Question.TheVariants.{Verify, Report, Picture}
use Rattle.conc_task.specs.declared.words.command.WordsFault.{WordsFault}
use Rattle.conc_task.specs.declared.words.command.WordsFault.TheVariants.{NotUnderstood, NoMemory}
use Rattle.conc_task.specs.words.Program.{program}

-- the number of so many bits that the text writes in decimal
abbrev pub written : ℕ → Text → Option ℕ
written bits text =
    let digits = without_leading_plus text in
    if is_numeral digits && nat_lt (digits_value 10 digits) (2 ^ bits) then Some (digits_value 10 digits) else None

-- the number that an entry has
abbrev pub number_of : ℕ → Text → List Row → Option ℕ
number_of bits id rows = option_and_then (written bits) (one_of id rows)

-- the clock that a text names
abbrev pub named_clock : Text → Option ClockChoice
named_clock text =
    if bytes_eq text (codes "real") then Some Real
    else if bytes_eq text (codes "virtual") then Some Virtual
    else None

-- the clock that the entries have
abbrev pub clock_of : List Row → Option ClockChoice
clock_of rows = option_and_then named_clock (first_of (codes "clock") rows)

-- a command that runs a script, by its entries
abbrev pub runner_of : (ℕ → ℕ → ClockChoice → Command) → List Row → Option Command
runner_of make rows =
    option_and_then (λ capabilities. option_and_then (λ fuel. option_map (λ clock. make capabilities fuel clock)
    (clock_of rows)) (number_of 32 (codes "fuel") rows)) (number_of 8 (codes "caps") rows)

-- `run`, by its entries
abbrev pub run_of : List Row → Option Command
run_of rows = runner_of Run rows

-- `trace`, by its entries, which are those of `run`
abbrev pub trace_of : List Row → Option Command
trace_of rows = runner_of Trace rows

-- `bench`, by its entries
abbrev pub bench_of : List Row → Option Command
bench_of rows =
    option_and_then (λ threads. option_and_then (λ capabilities. option_map (λ fuel. Bench threads capabilities fuel)
    (number_of 32 (codes "fuel") rows)) (number_of 8 (codes "caps") rows)) (number_of 32 (codes "threads") rows)

-- `outcomes`, by its entries. It has a witness where they have one
abbrev pub outcomes_of : List Row → Option Command
outcomes_of rows =
    option_and_then (λ clock. option_and_then (λ states. option_map (λ fuel. Outcomes clock states fuel (number_of 32 (codes "witness") rows))
    (number_of 32 (codes "fuel") rows)) (number_of 32 (codes "states") rows)) (clock_of rows)

-- `claims`, by its entries
abbrev pub claims_of : List Row → Option Command
claims_of rows =
    option_and_then (λ clock. option_and_then (λ states. option_map (λ fuel. Claims clock states fuel)
    (number_of 32 (codes "fuel") rows)) (number_of 32 (codes "states") rows)) (clock_of rows)

-- the command of a subcommand, by its name and its entries
abbrev pub named : Text × List Row → Option Command
named sub =
    if bytes_eq sub.0 (codes "run") then run_of sub.1
    else if bytes_eq sub.0 (codes "check") then Some Check
    else if bytes_eq sub.0 (codes "bench") then bench_of sub.1
    else if bytes_eq sub.0 (codes "trace") then trace_of sub.1
    else if bytes_eq sub.0 (codes "outcomes") then outcomes_of sub.1
    else if bytes_eq sub.0 (codes "claims") then claims_of sub.1
    else if bytes_eq sub.0 (codes "haskell") then Some Haskell
    else if bytes_eq sub.0 (codes "verify") then Some (Ask Verify)
    else if bytes_eq sub.0 (codes "report") then Some (Ask Report)
    else if bytes_eq sub.0 (codes "picture") then Some (Ask Picture)
    else None

abbrev pub command_in : Option (Text × List Row) → Option Command
command_in = option_and_then named

-- the command that the words are: the program takes them, and the subcommand that they name says which it is
abbrev pub command_of : List Text → Option Command
command_of words = if takes program words then command_in (subcommand_of program words) else None

-- the bytes of each word
abbrev pub texts_of : {Y : Type 0} → List (String Y) → List Text
texts_of words = map (λ word. string_bytes word) words

-- the command that strings are
abbrev pub command_by : {Y : Type 0} → List (String Y) → Option Command
command_by words = command_of (texts_of words)

-- P holds where the words were not understood. Want of memory alone is free
abbrev pub WhenNotUnderstood : Type 0 → WordsFault → Type 0
WhenNotUnderstood P NotUnderstood = P
WhenNotUnderstood P NoMemory = Unit {0}

-- the number of an outcome, where there is one, is from 1, and a number of 32 bits
abbrev pub IsNumbered : Option ℕ → Type 0
IsNumbered None = Unit {0}
IsNumbered (Some number) = (1 ≤ number) × (number < 2 ^ 32)

-- the numbers of a command lie in their ranges
abbrev pub IsWithin : Command → Type 0
IsWithin (Run capabilities fuel clock) = (1 ≤ capabilities) × (capabilities ≤ 16) × (1 ≤ fuel) × (fuel ≤ 4000000)
IsWithin Check = Unit {0}
IsWithin (Bench threads capabilities fuel) =
    (1 ≤ threads) × (threads ≤ 4000) × (1 ≤ capabilities) × (capabilities ≤ 16) × (1 ≤ fuel) × (fuel ≤ 4000000)
IsWithin (Trace capabilities fuel clock) = (1 ≤ capabilities) × (capabilities ≤ 16) × (1 ≤ fuel) × (fuel ≤ 4000000)
IsWithin (Outcomes clock states fuel witness) = (1 ≤ states) × (states ≤ 4000000) × (1 ≤ fuel) × (fuel ≤ 4000000) × IsNumbered witness
IsWithin (Claims clock states fuel) = (1 ≤ states) × (states ≤ 4000000) × (1 ≤ fuel) × (fuel ≤ 4000000)
IsWithin Haskell = Unit {0}
IsWithin (Ask question) = Unit {0}

-- a command of this name goes by a clock that its words choose
abbrev pub ChoosesClock : Text → Type 0
ChoosesClock name = (name ≡ codes "run") ⊎ (name ≡ codes "trace") ⊎ (name ≡ codes "outcomes") ⊎ (name ≡ codes "claims")

-- the words give `run`, `trace`, `outcomes` or `claims` a clock of another name
abbrev pub NamesOtherClock : List Text → Type 0
NamesOtherClock words =
    (name : Text) × (rows : List Row) × ChoosesClock name × (subcommand_of program words ≡ Some (name, rows)) × (clock_of rows ≡ None)

-- the words are refused: the program does not take them, or it does, and their clock has another name
abbrev pub IsRefused : List Text → Type 0
IsRefused words = (takes program words ≡ false) ⊎ NamesOtherClock words

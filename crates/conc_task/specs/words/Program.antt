-- The command line that the program takes (own): a table, in the words of the crate that reads it.
--     run      --caps N --fuel N --clock C
--     check
--     bench N  --caps N --fuel N
--     trace    --caps N --fuel N --clock C
--     outcomes --clock C --states N --fuel N --witness K
--     claims   --clock C --states N --fuel N
--     haskell
--     verify
--     report
--     picture
-- One of the ten has to stand. An option that is left out has its default; `--witness` has none.
use Rattle.std.specs.Prelude.{ℕ, List, [], ◌∷◌, Some, codes, pos, true}
use Rattle.clap.specs.Simple.{App, new_app, new_rule, on_top, with_rule, with_subcommand}
use Rattle.clap.specs.Walk.{Rule}
use Rattle.clap.specs.declared.builder.value_parser.ValueParser.{ValueParser}
use Rattle.clap.specs.declared.builder.value_parser.ValueParser.TheVariants as parser

-- a number from low to high
abbrev pub from_to : ℕ → ℕ → ValueParser
from_to low high = parser.Signed (pos low) (pos high)

-- `--caps N`
abbrev pub capabilities_option : Rule
capabilities_option = record (new_rule (codes "caps")) {
  long = Some (codes "caps");
  parser = Some (from_to 1 16);
  defaults = codes "1" ∷ [];
}

-- an option that says how many steps or states there may be, by its name
abbrev pub count_option : List ℕ → Rule
count_option name = record (new_rule name) {
  long = Some name;
  parser = Some (from_to 1 4000000);
  defaults = codes "1000000" ∷ [];
}

-- `--fuel N`
abbrev pub fuel_option : Rule
fuel_option = count_option (codes "fuel")

-- `--states N`
abbrev pub states_option : Rule
states_option = count_option (codes "states")

-- `--witness K`, which may be left out
abbrev pub witness_option : Rule
witness_option = record (new_rule (codes "witness")) {
  long = Some (codes "witness");
  parser = Some (from_to 1 4294967295);
}

-- `--clock C`. Which texts name a clock says `named_clock` in `Commands`
abbrev pub clock_option : Rule
clock_option = record (new_rule (codes "clock")) {
  long = Some (codes "clock");
  defaults = codes "real" ∷ [];
}

-- the `N` of `bench`, which has to stand
abbrev pub threads_place : Rule
threads_place = record (new_rule (codes "threads")) {
  parser = Some (from_to 1 4000);
  required = true;
}

-- a command that runs a script, by its name
abbrev pub runner : List ℕ → App
runner name = with_rule (with_rule (with_rule (new_app name) capabilities_option) fuel_option) clock_option

abbrev pub run : App
run = runner (codes "run")

abbrev pub check : App
check = new_app (codes "check")

abbrev pub bench : App
bench = with_rule (with_rule (with_rule (new_app (codes "bench")) threads_place) capabilities_option) fuel_option

abbrev pub trace : App
trace = runner (codes "trace")

-- a command that searches the outcomes of a script, by its name
abbrev pub searcher : List ℕ → App
searcher name = with_rule (with_rule (with_rule (new_app name) clock_option) states_option) fuel_option

abbrev pub outcomes : App
outcomes = with_rule (searcher (codes "outcomes")) witness_option

abbrev pub claims : App
claims = searcher (codes "claims")

abbrev pub haskell : App
haskell = new_app (codes "haskell")

abbrev pub verify : App
verify = new_app (codes "verify")

abbrev pub report : App
report = new_app (codes "report")

abbrev pub picture : App
picture = new_app (codes "picture")

-- the program before its subcommands: the words begin after its name, it has no help, and a subcommand has to stand
abbrev pub alone : App
alone = on_top (λ s. record s {
  no_binary_name = true;
  disable_help_flag = true;
  disable_help_subcommand = true;
  subcommand_required = true;
}) (new_app (codes "conc_run"))

-- the program with its subcommands
abbrev pub program : App
program =
    with_subcommand (with_subcommand (with_subcommand (with_subcommand (with_subcommand (with_subcommand (with_subcommand (with_subcommand (with_subcommand (with_subcommand alone run.top) check.top) bench.top) trace.top)
    outcomes.top) claims.top) haskell.top) verify.top) report.top) picture.top

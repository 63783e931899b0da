-- Words, and the commands that they are.
use Rattle.std.proofs.Common.{◌≡◌, [], ◌∷◌, Some, None, codes, refl}
use Rattle.clap.proofs.OnLiterals.{clap_on_literals}
use Rattle.hs_base.specs.declared.clock_choice.ClockChoice.TheVariants.{Real, Virtual}
use Rattle.conc_task.specs.declared.words.command.Command.TheVariants.{Run, Check, Bench, Trace, Outcomes, Claims, Haskell, Ask}
use Rattle.conc_task.specs.declared.words.command.Question.TheVariants.{Verify, Report, Picture}
use Rattle.conc_task.specs.words.Commands.{command_of}

pub run_alone : command_of (codes "run" ∷ []) ≡ Some (Run 1 1000000 Real)
unfolding clap_on_literals
run_alone = refl

pub run_virtual : command_of (codes "run" ∷ codes "--clock" ∷ codes "virtual" ∷ []) ≡ Some (Run 1 1000000 Virtual)
unfolding clap_on_literals
run_virtual = refl

pub run_virtual_attached : command_of (codes "run" ∷ codes "--clock=virtual" ∷ []) ≡ Some (Run 1 1000000 Virtual)
unfolding clap_on_literals
run_virtual_attached = refl

pub run_fuel : command_of (codes "run" ∷ codes "--fuel" ∷ codes "1000" ∷ []) ≡ Some (Run 1 1000 Real)
unfolding clap_on_literals
run_fuel = refl

pub run_all : command_of (codes "run" ∷ codes "--caps" ∷ codes "16" ∷ codes "--fuel" ∷ codes "4000000" ∷ codes "--clock" ∷ codes "real" ∷ []) ≡ Some (Run 16 4000000 Real)
unfolding clap_on_literals
run_all = refl

pub check_alone : command_of (codes "check" ∷ []) ≡ Some Check
unfolding clap_on_literals
check_alone = refl

pub bench_caps : command_of (codes "bench" ∷ codes "1000" ∷ codes "--caps" ∷ codes "4" ∷ []) ≡ Some (Bench 1000 4 1000000)
unfolding clap_on_literals
bench_caps = refl

pub bench_most : command_of (codes "bench" ∷ codes "4000" ∷ []) ≡ Some (Bench 4000 1 1000000)
unfolding clap_on_literals
bench_most = refl

pub trace_alone : command_of (codes "trace" ∷ []) ≡ Some (Trace 1 1000000 Real)
unfolding clap_on_literals
trace_alone = refl

pub trace_all : command_of (codes "trace" ∷ codes "--caps" ∷ codes "4" ∷ codes "--fuel" ∷ codes "1000" ∷ codes "--clock" ∷ codes "virtual" ∷ []) ≡ Some (Trace 4 1000 Virtual)
unfolding clap_on_literals
trace_all = refl

pub outcomes_alone : command_of (codes "outcomes" ∷ []) ≡ Some (Outcomes Real 1000000 1000000 None)
unfolding clap_on_literals
outcomes_alone = refl

pub outcomes_all : command_of (codes "outcomes" ∷ codes "--clock" ∷ codes "virtual" ∷ codes "--states" ∷ codes "4000000" ∷ codes "--fuel" ∷ codes "1000" ∷ codes "--witness" ∷ codes "3" ∷ []) ≡ Some (Outcomes Virtual 4000000 1000 (Some 3))
unfolding clap_on_literals
outcomes_all = refl

pub outcomes_last_witness : command_of (codes "outcomes" ∷ codes "--witness" ∷ codes "4294967295" ∷ []) ≡ Some (Outcomes Real 1000000 1000000 (Some 4294967295))
unfolding clap_on_literals
outcomes_last_witness = refl

pub verify_alone : command_of (codes "verify" ∷ []) ≡ Some (Ask Verify)
unfolding clap_on_literals
verify_alone = refl

pub report_alone : command_of (codes "report" ∷ []) ≡ Some (Ask Report)
unfolding clap_on_literals
report_alone = refl

pub claims_alone : command_of (codes "claims" ∷ []) ≡ Some (Claims Real 1000000 1000000)
unfolding clap_on_literals
claims_alone = refl

pub claims_witness : command_of (codes "claims" ∷ codes "--witness" ∷ codes "1" ∷ []) ≡ None
unfolding clap_on_literals
claims_witness = refl

pub haskell_alone : command_of (codes "haskell" ∷ []) ≡ Some Haskell
unfolding clap_on_literals
haskell_alone = refl

pub picture_alone : command_of (codes "picture" ∷ []) ≡ Some (Ask Picture)
unfolding clap_on_literals
picture_alone = refl

-- ---- words that are none

pub nothing : command_of [] ≡ None
unfolding clap_on_literals
nothing = refl

pub other_name : command_of (codes "walk" ∷ []) ≡ None
unfolding clap_on_literals
other_name = refl

pub help_asked : command_of (codes "--help" ∷ []) ≡ None
unfolding clap_on_literals
help_asked = refl

pub help_of_run : command_of (codes "run" ∷ codes "--help" ∷ []) ≡ None
unfolding clap_on_literals
help_of_run = refl

pub help_named : command_of (codes "help" ∷ []) ≡ None
unfolding clap_on_literals
help_named = refl

pub run_more : command_of (codes "run" ∷ codes "x" ∷ []) ≡ None
unfolding clap_on_literals
run_more = refl

pub run_17 : command_of (codes "run" ∷ codes "--caps" ∷ codes "17" ∷ []) ≡ None
unfolding clap_on_literals
run_17 = refl

pub run_no_fuel : command_of (codes "run" ∷ codes "--fuel" ∷ codes "0" ∷ []) ≡ None
unfolding clap_on_literals
run_no_fuel = refl

pub run_twice : command_of (codes "run" ∷ codes "--fuel" ∷ codes "5" ∷ codes "--fuel" ∷ codes "5" ∷ []) ≡ None
unfolding clap_on_literals
run_twice = refl

pub run_other_clock : command_of (codes "run" ∷ codes "--clock" ∷ codes "wall" ∷ []) ≡ None
unfolding clap_on_literals
run_other_clock = refl

pub trace_other_clock : command_of (codes "trace" ∷ codes "--clock" ∷ codes "wall" ∷ []) ≡ None
unfolding clap_on_literals
trace_other_clock = refl

pub outcomes_other_clock : command_of (codes "outcomes" ∷ codes "--clock" ∷ codes "wall" ∷ []) ≡ None
unfolding clap_on_literals
outcomes_other_clock = refl

pub outcomes_no_states : command_of (codes "outcomes" ∷ codes "--states" ∷ codes "0" ∷ []) ≡ None
unfolding clap_on_literals
outcomes_no_states = refl

pub outcomes_4000001_states : command_of (codes "outcomes" ∷ codes "--states" ∷ codes "4000001" ∷ []) ≡ None
unfolding clap_on_literals
outcomes_4000001_states = refl

pub outcomes_witness_0 : command_of (codes "outcomes" ∷ codes "--witness" ∷ codes "0" ∷ []) ≡ None
unfolding clap_on_literals
outcomes_witness_0 = refl

pub outcomes_witness_past_32_bits : command_of (codes "outcomes" ∷ codes "--witness" ∷ codes "4294967296" ∷ []) ≡ None
unfolding clap_on_literals
outcomes_witness_past_32_bits = refl

pub outcomes_caps : command_of (codes "outcomes" ∷ codes "--caps" ∷ codes "1" ∷ []) ≡ None
unfolding clap_on_literals
outcomes_caps = refl

pub verify_fuel : command_of (codes "verify" ∷ codes "--fuel" ∷ codes "5" ∷ []) ≡ None
unfolding clap_on_literals
verify_fuel = refl

pub report_fuel : command_of (codes "report" ∷ codes "--fuel" ∷ codes "5" ∷ []) ≡ None
unfolding clap_on_literals
report_fuel = refl

pub check_fuel : command_of (codes "check" ∷ codes "--fuel" ∷ codes "5" ∷ []) ≡ None
unfolding clap_on_literals
check_fuel = refl

pub bench_alone : command_of (codes "bench" ∷ []) ≡ None
unfolding clap_on_literals
bench_alone = refl

pub bench_0 : command_of (codes "bench" ∷ codes "0" ∷ []) ≡ None
unfolding clap_on_literals
bench_0 = refl

pub bench_4001 : command_of (codes "bench" ∷ codes "4001" ∷ []) ≡ None
unfolding clap_on_literals
bench_4001 = refl

-- What a desk keeps of its run, in one record (own).
use Rattle.std.specs.Prelude.{◌≡◌, ◌≤◌, ℕ, List, Option, false}
use Rattle.hs_rules.specs.declared.kept.Plan.{Plan}
use Rattle.hs_rules.specs.declared.entry.Entry.{Entry}
use Rattle.hs_rules.specs.State.{State}
use Rattle.hs_rules.specs.Histories.{steps_of}
use Rattle.hs_rules.specs.Runs.{IsRun}
use Rattle.rules_expansion.specs.trees.Programs.{Fn, script_of}
use Rattle.rules_typing.specs.TypingScripts.{Accepted}
use Rattle.hs_laws.specs.HistoryEndings.{StaysWithin}
use Rattle.run_course.specs.clocked.Clocks.{TicksKept}
use Rattle.run_course.specs.declared.ends.RunEnd.{RunEnd}
use Rattle.run_course.specs.Told.{is_write, ToldOf}
use Rattle.run_course.specs.Endings.{EndedBy}

-- the definitions of a plan's script
abbrev pub script : Plan → List Fn
script p = script_of p.body.of.value

-- what the sinks and the clock show: the bytes told and the faults counted, the last reading and the waits that ended early
pub record Shown : Type 0 where
  pub output : Option (List ℕ)
  pub errors : Option (List ℕ)
  pub out_faults : ℕ
  pub err_faults : ℕ
  pub last : ℕ
  pub early : ℕ

-- The history is a run of the plan's script, which the typing rules accept, within the plan's fuel and limits, and its clock is
-- none that the handed-in clock hadn't reached; Ticks stand where they may; the sinks were told what it prints since they were lent;
-- and the ending comes for its cause.
pub record IsRunOf (p : Plan) (final : Option RunEnd) (es : List Entry) (lent now : Shown) : Type 0 where
  pub accepted : Accepted p.body.of.value
  pub state : State
  pub run : IsRun (script p) es state
  pub clock : state.clock ≤ now.last
  pub within : steps_of es ≤ p.fuel
  pub limited : StaysWithin p.limits (script p) es
  pub ticks : TicksKept (script p) es lent.early now.early
  pub told : ToldOf final (script p) es lent.output now.output lent.errors now.errors
  pub ended : ∥ EndedBy final (script p) es p.fuel p.limits lent.out_faults lent.err_faults now.out_faults now.err_faults ∥₁
  -- no put failed, but where that is the ending
  pub calm : is_write final ≡ false → (now.out_faults ≡ lent.out_faults) × (now.err_faults ≡ lent.err_faults)

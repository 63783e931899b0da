-- What a desk keeps of its run, from what its parts keep.
use Rattle.std.proofs.Common.{◌≡◌, ◌≤◌, Option, false, arith}
use Rattle.std.proofs.Math.Logic.{∥∥₁_elim}
use Rattle.std.proofs.Props.{props}
use Rattle.hs_base.specs.declared.clock_choice.ClockChoice.{ClockChoice}
use Rattle.hs_laws.specs.HistoryEndings.{StaysWithin}
use Rattle.world_entries.specs.Worlds.{Live}
use Rattle.run_course.specs.declared.history.record.Record.{Record}
use Rattle.run_course.specs.history.Records.{script}
use Rattle.run_course.specs.clocked.Clocks.{TicksKept}
use Rattle.run_course.specs.declared.ends.RunEnd.{RunEnd}
use Rattle.run_course.specs.Told.{is_write, ToldOf}
use Rattle.run_course.specs.Endings.{EndedBy}
use Rattle.hs_rules.specs.declared.kept.Plan.{Plan}
use Rattle.conc_world.specs.Runs.{IsRunOf, Shown}

-- the plan of a record beside what was lent to it
abbrev pub plan_of : Record → Option ClockChoice → Shown → Plan
plan_of r choice lent = record {
  body = r.of.value;
  fuel = r.fuel;
  limits = r.limits;
  out_faults = lent.out_faults;
  err_faults = lent.err_faults;
  choice = choice;
  early = lent.early;
}

module _ (r : Record) (final : Option RunEnd) (choice : Option ClockChoice) (lent now : Shown) (time : r.world.clock ≤ now.last)
    (ended : ∥ EndedBy final (script r) r.history.list r.fuel r.limits lent.out_faults lent.err_faults now.out_faults now.err_faults ∥₁) where
  abbrev Calm : Type 0
  Calm = is_write final ≡ false → (now.out_faults ≡ lent.out_faults) × (now.err_faults ≡ lent.err_faults)

  run_with : Live r.of.value r.history.list r.world → StaysWithin r.limits (script r) r.history.list → TicksKept (script r) r.history.list lent.early now.early
      → ToldOf final (script r) r.history.list lent.output now.output lent.errors now.errors → Calm → IsRunOf (plan_of r choice lent) final r.history.list lent now
  run_with live limited ticks told calm =
      let same = live.represents.agrees.clock in
      record {
        accepted = live.accepted;
        state = live.state;
        run = live.run;
        clock = omega (arith, same, time);
        within = r.within;
        limited = limited;
        ticks = ticks;
        told = told;
        ended = ended;
        calm = calm;
      }

  pub run_of : ∥ TicksKept (script r) r.history.list lent.early now.early ∥₁ → ∥ ToldOf final (script r) r.history.list lent.output now.output lent.errors now.errors ∥₁ → ∥ Calm ∥₁
      → ∥ IsRunOf (plan_of r choice lent) final r.history.list lent now ∥₁
  run_of ticks told calm =
      ∥∥₁_elim r.after (hlevel props) (λ l. ∥∥₁_elim r.limited (hlevel props) (λ w. ∥∥₁_elim ticks (hlevel props) (λ k. ∥∥₁_elim told (hlevel props) (λ t. ∥∥₁_elim calm (hlevel props) (λ n. ∣ run_with l w k t n ∣₁)))))

-- Endings, and what each comes for (own).
use Rattle.std.specs.Prelude.{◌⊎◌, ◌<◌, ℕ, List, Option, Some, None}
use Rattle.hs_base.specs.declared.limits.Limits.{Limits}
use Rattle.hs_io.specs.Causes.{Rose}
use Rattle.hs_rules.specs.declared.entry.Entry.{Entry}
use Rattle.rules_expansion.specs.trees.Programs.{Fn}
use Rattle.hs_laws.specs.HistoryEndings.{HasEnding, HasLimit}
use Rattle.hs_rules.specs.Endings as endings
use Rattle.hs_rules.specs.Endings.{RunEnding}
use Rattle.hs_rules.specs.Histories.{steps_of}
use Rattle.world_entries.specs.Worlds.{Goes}
use Rattle.run_course.specs.declared.history.record.Record.{Record}
use Rattle.run_course.specs.history.Records.{EndsAs}
use Rattle.run_course.specs.declared.ends.RunEnd.{RunEnd}
use Rattle.run_course.specs.declared.ends.RunEnd.TheVariants as end

-- The cause of an ending of a history of this script, with so much fuel and these limits. The last numbers are the faults that
-- the sinks had counted as they were lent, and have now. Want of memory is free.
abbrev pub EndedBy : Option RunEnd → List Fn → List Entry → ℕ → Limits → (out_lent err_lent out_now err_now : ℕ) → Type 0
EndedBy None ds es fuel limits out_lent err_lent out_now err_now = Unit {0}
EndedBy (Some end.Done) ds es fuel limits out_lent err_lent out_now err_now = ∥ HasEnding endings.Done ds es fuel ∥₁
EndedBy (Some end.Uncaught) ds es fuel limits out_lent err_lent out_now err_now = ∥ HasEnding endings.Uncaught ds es fuel ∥₁
EndedBy (Some end.Deadlock) ds es fuel limits out_lent err_lent out_now err_now = ∥ HasEnding endings.Deadlock ds es fuel ∥₁
EndedBy (Some end.Fuel) ds es fuel limits out_lent err_lent out_now err_now = ∥ HasEnding endings.Fuel ds es fuel ∥₁
EndedBy (Some end.Memory) ds es fuel limits out_lent err_lent out_now err_now = Unit {0}
EndedBy (Some end.Write) ds es fuel limits out_lent err_lent out_now err_now = Rose out_lent out_now ⊎ Rose err_lent err_now
EndedBy (Some (end.Limit kind e)) ds es fuel limits out_lent err_lent out_now err_now = ∥ HasLimit kind e limits ds es fuel ∥₁

-- no ending holds: main goes, there is fuel, and something is legal or somebody sleeps
pub record IsOpen (r : Record) : Type 0 where
  pub goes : Goes r.world
  pub fuel : steps_of r.history.list < r.fuel
  pub none : (ending : RunEnding) → EndsAs ending r → ⊥

-- an ending that holds by what can be done next
abbrev pub EndsBy : RunEnd → Record → Type 0
EndsBy end.Done r = EndsAs endings.Done r
EndsBy end.Uncaught r = EndsAs endings.Uncaught r
EndsBy end.Deadlock r = EndsAs endings.Deadlock r
EndsBy end.Fuel r = EndsAs endings.Fuel r
EndsBy end.Memory r = ⊥
EndsBy end.Write r = ⊥
EndsBy (end.Limit kind e) r = ⊥

-- such an ending was set, or none holds
abbrev pub IsConcluded : Option RunEnd → Record → Type 0
IsConcluded None r = IsOpen r
IsConcluded (Some e) r = EndsBy e r

-- What a player of histories stands for (own).
use Rattle.std.specs.Prelude.{◌≡◌, List}
use Rattle.hs_rules.specs.declared.entry.Entry.{Entry}
use Rattle.hs_rules.specs.Endings.{IsDone, IsUncaught, IsDeadlock}
use Rattle.hs_rules.specs.Entries.{IsLegal}
use Rattle.hs_rules.specs.Runs.{IsRun}
use Rattle.hs_rules.specs.State.{State}
use Rattle.rules_meaning.specs.CoreMeaning.{Code, code_of}
use Rattle.rules_expansion.specs.trees.Programs.{Fn, script_of}
use Rattle.world_entries.specs.Worlds.{Live, SameState}
use Rattle.trace_checker.specs.declared.player.player.Player.{Player}
use Rattle.trace_checker.specs.declared.player.player.Reached.{Reached}
use Rattle.trace_checker.specs.declared.player.player.Reached.TheVariants as reached

-- the definitions of the script
abbrev pub script : Player → List Fn
script p = script_of p.of.value.of.value

-- these entries are a run of the script, and the player stands for the state that it leaves
abbrev pub Played : List Entry → Player → Type 0
Played es p = ∥ Live p.of.value es p.world ∥₁

-- the entry is legal in the state that these entries leave
abbrev pub CanFollow : List Entry → Entry → Player → Type 0
CanFollow es e p = (s : State) × IsRun (script p) es s × IsLegal (code_of (script p)) s e

-- the same but for room and for what lists hold that has nothing to do
pub record Unchanged (old new : Player) : Type 0 where
  pub of : new.of ≡ old.of
  pub world : SameState old.world new.world

-- What a state is: main has finished by a value or by an exception, or nothing but a Tick is legal and nobody sleeps, or none of
-- the three.
abbrev pub ReachedAs : Reached → Code → State → Type 0
ReachedAs reached.Done code s = IsDone s
ReachedAs reached.Uncaught code s = ¬ IsDone s × IsUncaught s
ReachedAs reached.Deadlock code s = ¬ IsDone s × ¬ IsUncaught s × IsDeadlock code s
ReachedAs reached.Open code s = ¬ IsDone s × ¬ IsUncaught s × ¬ IsDeadlock code s

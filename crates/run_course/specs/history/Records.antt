-- What can be done next, and what a record is after it (own).
use Rattle.std.specs.Prelude.{◌≡◌, ◌++◌, ◌+◌, ◌∷◌, [], ℕ, Bool, cond, List, Option, Some, MatchOption, length}
use Rattle.rules_code.specs.declared.code.CodeBody.{CodeBody}
use Rattle.hs_rules.specs.declared.entry.Entry.{Entry}
use Rattle.hs_rules.specs.declared.entry.Entry.TheVariants as entry
use Rattle.hs_rules.specs.declared.entry.LimitKind.{LimitKind}
use Rattle.hs_rules.specs.declared.entry.LimitKind.TheVariants as limit
use Rattle.hs_rules.specs.Endings.{RunEnding, IsDone, IsUncaught, IsWithin}
use Rattle.hs_rules.specs.Entries.{Leads}
use Rattle.rules_meaning.specs.CoreMeaning.{code_of}
use Rattle.slot_states.specs.Printing.{output_by, errors_by}
use Rattle.hs_rules.specs.Runs.{IsRun}
use Rattle.hs_rules.specs.State.{State}
use Rattle.hs_laws.specs.HistoryEndings.{HasEnding, HasLimit}
use Rattle.rules_expansion.specs.trees.Programs.{Fn, script_of}
use Rattle.rules_waiting.specs.Waiting.{first_awake, earliest}
use Rattle.slot_states.specs.Resting as rest
use Rattle.slot_states.specs.Resting.{NobodyActs}
use Rattle.frame_stack.specs.declared.sliced.Slice.{Slice}
use Rattle.thread_table.specs.Kinds.{IsKind}
use Rattle.thread_table.specs.declared.kinds.EntryKind.TheVariants as kind
use Rattle.world_entries.specs.declared.world.World.{World}
use Rattle.world_entries.specs.Worlds.{state_of, Goes, IsAtRest, SomeWaitOpen, SameState}
use Rattle.run_course.specs.declared.history.acts.NextEntry.{NextEntry}
use Rattle.run_course.specs.declared.history.acts.NextEntry.TheVariants as act
use Rattle.run_course.specs.declared.history.acts.Next.{Next}
use Rattle.run_course.specs.declared.history.acts.Next.TheVariants as next
use Rattle.run_course.specs.declared.history.record.Record.{Record}
use Rattle.run_course.specs.history.Acts.{entry_of}

-- the definitions of the script
abbrev pub script : Record → List Fn
script r = script_of r.of.value.of.value

-- the act is possible
abbrev pub Can : NextEntry → World → Type 0
Can (act.Op t) w = IsKind kind.Op t w.threads
Can (act.Finish t) w = IsKind kind.Finish t w.threads
Can (act.Local t) w = IsKind kind.Local t w.threads
Can (act.Receive t) w = IsKind kind.Receive t w.threads
Can (act.Wake t) w = first_awake w.clock w.sleepers.list ≡ Some t
Can act.Strand w = IsAtRest w × (w.sleepers.list ≡ []) × SomeWaitOpen w

-- main has finished in the state that the history leaves, by a value or by an exception
abbrev pub HasFinished : Bool → Record → Type 0
HasFinished value r = ∥ ((s : State) × IsRun (script r) r.history.list s × cond value (IsDone s) (IsUncaught s)) ∥₁

-- some thread is to do an action
abbrev pub SomeGoes : World → Type 0
SomeGoes w = (t : ℕ) × ((b : CodeBody) → rest.Goes (state_of b w) t)

-- what is next, where main hasn't finished, is what there is
abbrev pub IsNextOf : Next → World → Type 0
IsNextOf (next.Over value) w = ⊥
IsNextOf (next.Act a) w = Goes w × Can a w
IsNextOf next.Goes w = Goes w × ((b : CodeBody) → NobodyActs (state_of b w)) × SomeGoes w
IsNextOf (next.Sleeps due) w = Goes w × IsAtRest w × (earliest w.sleepers.list ≡ Some due)
IsNextOf next.Stuck w = Goes w × IsAtRest w × (w.sleepers.list ≡ [])
    × ((b : CodeBody) (t : ℕ) → ¬ rest.WaitsOpen (state_of b w) t)

abbrev pub IsNext : Next → Record → Type 0
IsNext (next.Over value) r = HasFinished value r
IsNext (next.Act a) r = IsNextOf (next.Act a) r.world
IsNext next.Goes r = IsNextOf next.Goes r.world
IsNext (next.Sleeps due) r = IsNextOf (next.Sleeps due) r.world
IsNext next.Stuck r = IsNextOf next.Stuck r.world

-- the same record, but for room and for what lists hold that has nothing to do
pub record Same (old new : Record) : Type 0 where
  pub history : new.history.list ≡ old.history.list
  pub world : SameState old.world new.world
  pub plan : (new.fuel ≡ old.fuel) × (new.limits ≡ old.limits) × (new.of ≡ old.of)

-- the entry was appended
pub record Appended (e : Entry) (old new : Record) : Type 0 where
  pub history : new.history.list ≡ old.history.list ++ e ∷ []
  pub plan : (new.fuel ≡ old.fuel) × (new.limits ≡ old.limits) × (new.of ≡ old.of)

-- the entry would exceed this limit, the first in their order
abbrev pub WouldExceed : LimitKind → Entry → Record → Type 0
WouldExceed kind e r = ∥ HasLimit kind e r.limits (script r) r.history.list r.fuel ∥₁

-- what comes of a slice: its local rules are one more entry, or nothing has changed, as they would exceed the limit of frames
abbrev pub IsAccepted : Slice → Option LimitKind → Record → Record → Type 0
IsAccepted slice over old new =
    MatchOption over (Appended (entry.Local slice.tid slice.steps) old new)
    (λ kind. (kind ≡ limit.Frames) × Same old new × WouldExceed kind (entry.Local slice.tid slice.steps) old)

-- the history has this ending
abbrev pub EndsAs : RunEnding → Record → Type 0
EndsAs ending r = ∥ HasEnding ending (script r) r.history.list r.fuel ∥₁

-- every state that the entry leaves is within the limits
abbrev pub Fits : Entry → Record → Type 0
Fits e r = (s u : State) → IsRun (script r) r.history.list s → Leads (code_of (script r)) s e u → IsWithin r.limits u

-- the act prints so many bytes in a world whose threads' actions are of this code
abbrev pub PrintsIn : CodeBody → ℕ → NextEntry → World → Type 0
PrintsIn b n a w = n ≡ length (output_by (state_of b w) (entry_of a)) + length (errors_by (state_of b w) (entry_of a))

abbrev pub Prints : ℕ → NextEntry → Record → Type 0
Prints n a r = PrintsIn r.of.value n a r.world

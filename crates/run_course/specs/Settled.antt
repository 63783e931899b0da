-- Where a settling stops, and what one entry does (own).
use Rattle.std.specs.Prelude.{◌≡◌, ◌⊎◌, ◌++◌, List, Option, Some, None, IsSome}
use Rattle.hs_rules.specs.declared.entry.Entry.{Entry}
use Rattle.hs_rules.specs.declared.entry.Entry.TheVariants as entry
use Rattle.hs_rules.specs.declared.entry.LimitKind.{LimitKind}
use Rattle.hs_rules.specs.declared.entry.LimitKind.TheVariants as limit
use Rattle.hs_rules.specs.State.{State}
use Rattle.hs_rules.specs.Entries.{IsLegal}
use Rattle.hs_rules.specs.Runs.{IsRun}
use Rattle.rules_meaning.specs.CoreMeaning.{code_of}
use Rattle.slot_states.specs.Resting.{IsLeft}
use Rattle.frame_stack.specs.declared.sliced.Slice.{Slice}
use Rattle.world_entries.specs.Worlds.{state_of}
use Rattle.run_course.specs.declared.history.acts.Next.{Next}
use Rattle.run_course.specs.declared.history.acts.Next.TheVariants as next
use Rattle.run_course.specs.declared.history.record.Record.{Record}
use Rattle.run_course.specs.history.Records.{script, Same, Appended, SomeGoes}
use Rattle.run_course.specs.declared.ends.RunEnd.{RunEnd}
use Rattle.run_course.specs.declared.ends.RunEnd.TheVariants as end
use Rattle.run_course.specs.Endings.{IsOpen, IsConcluded}

-- Nothing is legal but Ticks and local rules of threads that are to do an action, and there is such a thread.
pub record OnlyGoes (r : Record) : Type 0 where
  pub left : (s : State) → IsRun (script r) r.history.list s → (e : Entry) → IsLegal (code_of (script r)) s e → ∥ IsLeft (state_of r.of.value r.world) e ∥₁
  pub some : SomeGoes r.world

-- there is an ending, or none holds and nothing else is legal
abbrev pub IsAtRest : Option RunEnd → Record → Type 0
IsAtRest None r = OnlyGoes r × IsOpen r
IsAtRest (Some e) r = Unit {0}

-- The history begins with the one before, and is that where there was an ending, which stays.
pub record GoesOn (old_end : Option RunEnd) (old : List Entry) (new_end : Option RunEnd) (new : List Entry) : Type 0 where
  pub more : List Entry
  pub begins : new ≡ old ++ more
  pub ended : IsSome old_end → (new ≡ old) × (new_end ≡ old_end)

-- something can be done next: an act, local rules, or a wait for the first sleeper
abbrev pub GoesBy : Next → Type 0
GoesBy (next.Over value) = ⊥
GoesBy (next.Act a) = Unit {0}
GoesBy next.Goes = Unit {0}
GoesBy (next.Sleeps due) = Unit {0}
GoesBy next.Stuck = ⊥

-- the entry is the last one, and there is no ending but that its put failed; or it would exceed a limit, which is the ending
abbrev pub Acted : Entry → Option RunEnd → Record → Record → Type 0
Acted e ended old new = (Appended e old new × ((ended ≡ None) ⊎ (ended ≡ Some end.Write)))
    ⊎ (Same old new × ((kind : LimitKind) × (ended ≡ Some (end.Limit kind e))))

-- the local rules of the slice are the last entry, and there is the ending that then holds, if any; or they would exceed the
-- limit of frames, which is the ending
abbrev pub Accepted : Slice → Option RunEnd → Record → Record → Type 0
Accepted s ended old new = (Appended (entry.Local s.tid s.steps) old new × IsConcluded ended new)
    ⊎ (Same old new × (ended ≡ Some (end.Limit limit.Frames (entry.Local s.tid s.steps))))

abbrev pub Begins : List Entry → List Entry → Type 0
Begins old new = (more : List Entry) × (new ≡ old ++ more)

-- the same code, fuel and limits
pub record KeepsPlan (old new : Record) : Type 0 where
  pub fuel : new.fuel ≡ old.fuel
  pub limits : new.limits ≡ old.limits
  pub of : new.of ≡ old.of

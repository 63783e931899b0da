-- What a reading of the clock is for, and what Ticks are kept to (own).
use Rattle.std.specs.Prelude.{◌≡◌, ◌≢◌, ◌<◌, ◌≤◌, ◌+◌, ◌-◌, ◌^◌, ◌⊎◌, ℕ, Bool, true, false, Option, Some, None, IsSomeAnd, List, [], slice_get}
use Rattle.hs_rules.specs.declared.entry.Entry.{Entry}
use Rattle.hs_rules.specs.declared.entry.Entry.TheVariants as entry
use Rattle.hs_rules.specs.State.{State}
use Rattle.hs_rules.specs.Runs.{IsRun}
use Rattle.rules_expansion.specs.trees.Programs.{Fn}
use Rattle.hs_laws.specs.BracketPhases.{At}
use Rattle.hs_laws.specs.ClockLaw.{AsksClock, ClockKept}
use Rattle.frame_stack.specs.declared.control.Operation.TheVariants as operation
use Rattle.frame_stack.specs.declared.control.Control.{Control}
use Rattle.frame_stack.specs.declared.control.Control.TheVariants as control
use Rattle.run_course.specs.declared.history.acts.NextEntry.{NextEntry}
use Rattle.run_course.specs.declared.history.acts.NextEntry.TheVariants as act
use Rattle.run_course.specs.declared.history.acts.Next.{Next}
use Rattle.run_course.specs.declared.history.acts.Next.TheVariants as next
use Rattle.run_course.specs.declared.history.record.Record.{Record}
use Rattle.run_course.specs.history.Records.{script, Appended}

-- what is next where work is: an act, or local rules of threads that are to do an action
abbrev pub work : Option NextEntry → Next
work None = next.Goes
work (Some a) = next.Act a

-- an operation that reads the clock or waits for it
abbrev pub is_timed : Control → Bool
is_timed (control.Op (operation.ThreadDelay n)) = true
is_timed (control.Op operation.ClockMicros) = true
is_timed _ = false

-- the act performs such an operation: its thread stands at it in the state that the history leaves
abbrev pub Asks : NextEntry → Record → Type 0
Asks (act.Op t) r = ∥ ((s : State) × IsRun (script r) r.history.list s × At AsksClock (slice_get s.threads t)) ∥₁
Asks _ r = ⊥

-- the clock is to be read: such an act is next, or somebody sleeps and it wasn't read for them yet
abbrev pub IsWanted : Option NextEntry → Bool → Record → Type 0
IsWanted o read r = IsSomeAnd o (λ a. Asks a r) ⊎ ((read ≡ false) × (r.world.sleepers.list ≢ []))

-- a Tick to a later time was appended, or the record is as it was
abbrev pub Looked : Bool → Record → Record → Type 0
Looked true old new = (at : ℕ) × Appended (entry.Tick at) old new × (old.world.clock < at)
Looked false old new = new ≡ old

-- Each Tick of the history stands where it may, and at most as many are early as waits of the clock ended early since it was
-- lent, from the one count to the other. Where that count stands at the greatest number, nothing is said of how many.
pub record TicksKept (ds : List Fn) (es : List Entry) (lent now : ℕ) : Type 0 where
  pub early : ℕ
  pub kept : ClockKept ds es early
  pub few : (2 ^ 64 - 1 ≤ now) ⊎ (lent + early ≤ now)

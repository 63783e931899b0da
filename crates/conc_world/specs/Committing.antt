-- Slices that come back, and what becomes of them (own).
use Rattle.std.specs.Prelude.{◌≡◌, ◌<◌, ◌≤◌, ℕ, true, false, Option, Some, None, IsSome, slice_get}
use Rattle.hs_base.specs.declared.mask.Mask.TheVariants.{Unmasked}
use Rattle.local_steps.specs.Frames.{mask_inside}
use Rattle.frame_stack.specs.declared.sliced.Slice.{Slice}
use Rattle.thread_table.specs.declared.thread.Thread.{Thread}
use Rattle.world_entries.specs.Worlds.{Starts}
use Rattle.run_course.specs.declared.history.record.Record.{Record}
use Rattle.run_course.specs.history.Records.{Same}
use Rattle.run_course.specs.declared.ends.RunEnd.{RunEnd}
use Rattle.run_course.specs.declared.ends.RunEnd.TheVariants as end
use Rattle.run_course.specs.Settled.{Accepted}
use Rattle.conc_world.specs.declared.tickets.tickets.Tickets.{Tickets}
use Rattle.conc_world.specs.declared.answers.Why.{Why}
use Rattle.conc_world.specs.declared.answers.Why.TheVariants as why
use Rattle.conc_world.specs.declared.answers.Committed.{Committed}
use Rattle.conc_world.specs.declared.answers.Committed.TheVariants.{Taken, Stale, Short, Ended, NoMemory}
use Rattle.conc_world.specs.declared.answers.Made.{Made}
use Rattle.conc_world.specs.declared.answers.Made.TheVariants.{Before, Anew}
use Rattle.conc_world.specs.Jobs.{left, TakenBack, SameJobs}

-- thread t is there and hasn't finished, and this is true of it
pub record Unfinished (t : ℕ) (P : Thread → Type 0) (r : Record) : Type 0 where
  pub thread : Thread
  pub is : slice_get r.world.threads.list.items t ≡ Some thread
  pub unfinished : thread.finished ≡ false
  pub holds : P thread

abbrev pub Anything : Thread → Type 0
Anything th = Unit {0}

abbrev pub IsBlocked : Thread → Type 0
IsBlocked th = th.blocked ≡ true

-- it isn't blocked, and its control or its masking state is not the slice's start
abbrev pub Differs : Slice → Thread → Type 0
Differs s th = (th.blocked ≡ false) × ((th.stack.control ≡ s.start) × (mask_inside Unmasked th.stack.frames ≡ s.mask) → ⊥)

abbrev pub IsStale : Why → Slice → Record → Type 0
IsStale why.Finished s r = Unfinished s.tid Anything r → ⊥
IsStale why.Blocked s r = Unfinished s.tid IsBlocked r
IsStale why.Differs s r = Unfinished s.tid (Differs s) r

-- What became of a slice, and why. Each answer but the first and the last comes exactly where its condition holds and none
-- before it does.
abbrev pub IsCommitted : Committed → Slice → (old_end : Option RunEnd) (old : Record) (new_end : Option RunEnd) (new : Record) → Type 0
IsCommitted Ended s old_end old new_end new = IsSome old_end × (new ≡ old) × (new_end ≡ old_end)
IsCommitted (Stale w) s old_end old new_end new = (old_end ≡ None) × IsStale w s old × (new ≡ old) × (new_end ≡ None)
IsCommitted (Short n) s old_end old new_end new = (old_end ≡ None) × Starts s old.world × (n ≡ left old) × (n < s.steps) × (new ≡ old) × (new_end ≡ None)
IsCommitted Taken s old_end old new_end new = (old_end ≡ None) × Starts s old.world × (s.steps ≤ left old) × Accepted s new_end old new
IsCommitted NoMemory s old_end old new_end new = (old_end ≡ None) × Same old new × (new_end ≡ Some end.Memory)

-- why a slice is not taken: nothing changes
abbrev pub IsRefused : Committed → Slice → Option RunEnd → Record → Type 0
IsRefused why s end r = IsCommitted why s end r end r

-- it may be taken: it starts where its thread stands, and the fuel lets it
abbrev pub MayBeTaken : Slice → Option RunEnd → Record → Type 0
MayBeTaken s end r = (end ≡ None) × Starts s r.world × (s.steps ≤ left r)

-- It was taken, or memory was refused.
abbrev pub IsTakenOrRefused : Committed → Type 0
IsTakenOrRefused Ended = ⊥
IsTakenOrRefused (Stale w) = ⊥
IsTakenOrRefused (Short n) = ⊥
IsTakenOrRefused Taken = Unit {0}
IsTakenOrRefused NoMemory = Unit {0}

-- In the place of a late slice one was made anew, of the same thread, ticket and code, from where the thread stands, and it was taken.
pub record IsTakenAnew (late : Slice) (old_end : Option RunEnd) (old : Record) (new_end : Option RunEnd) (new : Record) : Type 0 where
  pub slice : Slice
  pub ticket : slice.ticket ≡ late.ticket
  pub tid : slice.tid ≡ late.tid
  pub code : slice.of.value ≡ late.of.value
  pub taken : IsCommitted Taken slice old_end old new_end new

-- What became of a slice of the same job that was made anew in its place: it was taken, or memory was refused. No other answer comes.
abbrev pub IsCommittedAnew : Committed → Slice → (old_end : Option RunEnd) (old : Record) (new_end : Option RunEnd) (new : Record) → Type 0
IsCommittedAnew Ended late old_end old new_end new = ⊥
IsCommittedAnew (Stale w) late old_end old new_end new = ⊥
IsCommittedAnew (Short n) late old_end old new_end new = ⊥
IsCommittedAnew Taken late old_end old new_end new = IsTakenAnew late old_end old new_end new
IsCommittedAnew NoMemory late old_end old new_end new = IsCommitted NoMemory late old_end old new_end new

-- What became of a slice, or of the one that was judged in its place.
abbrev pub IsCommittedBy : Made → Committed → Slice → (old_end : Option RunEnd) (old : Record) (new_end : Option RunEnd) (new : Record) → Type 0
IsCommittedBy Before c s old_end old new_end new = IsCommitted c s old_end old new_end new
IsCommittedBy Anew c s old_end old new_end new = IsCommittedAnew c s old_end old new_end new

-- every answer but Ended and NoMemory takes the ticket back where it is out
abbrev pub TicketBack : Committed → ℕ → Tickets → Tickets → Type 0
TicketBack Ended k old new = SameJobs old new
TicketBack (Stale w) k old new = TakenBack k old new
TicketBack (Short n) k old new = TakenBack k old new
TicketBack Taken k old new = TakenBack k old new
TicketBack NoMemory k old new = SameJobs old new

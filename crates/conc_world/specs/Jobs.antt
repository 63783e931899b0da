-- Jobs that are made, and exceptions that overtake them (own).
use Rattle.std.specs.Prelude.{◌≡◌, ◌≢◌, ◌<◌, ◌≤◌, ◌+◌, ◌-◌, ◌↔◌, ℕ, min, List, Some, None, IsSome, IsTrue, Contains, take, drop, length, slice_get}
use Rattle.hs_base.specs.declared.mask.Mask.TheVariants.{Unmasked}
use Rattle.hs_rules.specs.declared.entry.Entry.{Entry}
use Rattle.hs_rules.specs.declared.entry.Entry.TheVariants as entry
use Rattle.hs_rules.specs.Histories.{steps_of}
use Rattle.local_steps.specs.Frames.{mask_inside}
use Rattle.frame_stack.specs.declared.job.Job.{Job}
use Rattle.thread_table.specs.declared.thread.Thread.{Thread}
use Rattle.thread_table.specs.Listing.{Goes}
use Rattle.thread_table.specs.Table.{IsAt}
use Rattle.run_course.specs.declared.history.record.Record.{Record}
use Rattle.conc_world.specs.declared.tickets.tickets.Out.{Out}
use Rattle.conc_world.specs.declared.tickets.tickets.Tickets.{Tickets}
use Rattle.conc_world.specs.tickets.Out.{job, ticket_of, is_overtaken}

-- the fuel that is left
abbrev pub left : Record → ℕ
left r = r.fuel - steps_of r.history.list

-- a job of a thread that is to do an action, with its control and masking state, for as many rules as a slice may have and the
-- fuel lets
pub record IsJob (j : Job) (r : Record) : Type 0 where
  pub thread : Thread
  pub is : slice_get r.world.threads.list.items j.tid ≡ Some thread
  pub goes : Goes thread
  pub start : j.start ≡ thread.stack.control
  pub mask : j.mask ≡ mask_inside Unmasked thread.stack.frames
  pub budget : j.budget ≡ min (left r) 1024
  pub code : j.of.value ≡ r.of.value

-- each thread that is to do an action has a job out
abbrev pub AllOut : Tickets → Record → Type 0
AllOut s r = (t : ℕ) → IsAt t Goes r.world.threads.list.items → IsSome (ticket_of s t)

-- the ticket is out for this thread from now on, and neither was; all others are as they were
pub record Added (k t since : ℕ) (old new : Tickets) : Type 0 where
  pub fresh : job old k ≡ None
  pub free : ticket_of old t ≡ None
  pub out : job new k ≡ Some (record { thread = t; since = since })
  pub others : (j : ℕ) → j ≢ k → job new j ≡ job old j

-- a new job, of a record as it is now: it has the next ticket, which is out for its thread from now on
abbrev pub IsHandedOut : Job → Record → Record → ℕ → ℕ → Tickets → Tickets → Type 0
IsHandedOut j r s given now old new = IsJob j s × (j.ticket ≡ given + 1) × (now ≡ j.ticket) × Added j.ticket j.tid (length r.history.list) old new

-- the ticket isn't out; all others are as they were
pub record TakenBack (k : ℕ) (old new : Tickets) : Type 0 where
  pub out : job new k ≡ None
  pub others : (j : ℕ) → j ≢ k → job new j ≡ job old j

-- no job is out
abbrev pub NoneOut : Tickets → Type 0
NoneOut s = (k : ℕ) → job s k ≡ None

-- the same jobs are out
abbrev pub SameJobs : Tickets → Tickets → Type 0
SameJobs old new = (j : ℕ) → job new j ≡ job old j

-- ---- exceptions that overtake jobs

-- thread t received an exception among these entries
abbrev pub Received : ℕ → List Entry → Type 0
Received t es = Contains es (entry.Receive t)

-- the job of this ticket is out, and its thread received an exception since it was made
pub record IsOvertaken (k : ℕ) (s : Tickets) (es : List Entry) : Type 0 where
  pub made : Out
  pub out : job s k ≡ Some made
  pub received : Received made.thread (drop made.since es)

-- of the first entries the tickets know which jobs they overtook
pub record Knows (s : Tickets) (seen : ℕ) (es : List Entry) : Type 0 where
  pub within : seen ≤ length es
  pub made : (k : ℕ) (o : Out) → job s k ≡ Some o → o.since ≤ seen
  pub marked : (k : ℕ) (o : Out) → job s k ≡ Some o → IsTrue (is_overtaken s k) ↔ Received o.thread (drop o.since (take seen es))

-- the ticket was overtaken and is taken back, and no lower one was overtaken
abbrev pub IsFirstTakenBack : ℕ → List Entry → Tickets → Tickets → Type 0
IsFirstTakenBack k es old new = IsOvertaken k old es × ((j : ℕ) → j < k → IsOvertaken j old es → ⊥) × TakenBack k old new

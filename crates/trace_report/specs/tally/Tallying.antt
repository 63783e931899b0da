-- The counts of threads and cells, and what an entry adds to them by what can be seen of it (own).
use Rattle.std.specs.Prelude.{◌≡◌, ℕ, ◌+◌, ◌≤◌, ◌==◌, max, Bool, true, cond, List, length, Option, Some, None, slice_get}
use Rattle.hs_rules.specs.declared.entry.Entry.{Entry}
use Rattle.hs_rules.specs.declared.entry.Entry.TheVariants.{Local, Op, Receive}
use Rattle.rules_expansion.specs.trees.Programs.{Fn}
use Rattle.rules_waiting.specs.Waiting.{is_blocked}
use Rattle.hs_rules.specs.Histories.{cost_of, steps_of}
use Rattle.hs_rules.specs.State.{State}
use Rattle.hs_laws.specs.CellLaw.{outs}
use Rattle.trace_report.specs.declared.tally.counts.ThreadCounts.{ThreadCounts}
use Rattle.trace_report.specs.declared.tally.counts.CellCounts.{CellCounts}
use Rattle.trace_report.specs.declared.tally.counts.Seen.{Seen}
use Rattle.trace_report.specs.declared.tally.tally.Tally.{Tally}
use Rattle.trace_report.specs.tally.Reporting.{one_if, local_of, ops_of, receives_of, waits_of, cell_waits, line_length, longest}
use Rattle.trace_report.specs.tally.Touching.{thread_touch, is_on, waits_there, serves, full_in}

-- ---- counts by number

abbrev pub no_thread : ThreadCounts
no_thread = record { local = 0; ops = 0; waits = 0; receives = 0 }

abbrev pub no_cell : CellCounts
no_cell = record { out = 0; waits = 0; longest = 0 }

-- what there is, or else this
abbrev pub count_or : {A : Type 0} → A → Option A → A
count_or d None = d
count_or d (Some c) = c

-- the counts of thread t, who has done nothing where it isn't listed
abbrev pub thread_at : List ThreadCounts → ℕ → ThreadCounts
thread_at cs t = count_or no_thread (slice_get cs t)

abbrev pub cell_at : List CellCounts → ℕ → CellCounts
cell_at cs m = count_or no_cell (slice_get cs m)

-- by any way to look: number k has this now, and all others what they had
abbrev pub IsPut : {A B : Type 0} → (A → ℕ → B) → ℕ → B → A → A → Type 0
IsPut at k c old new = (n : ℕ) → at new n ≡ cond (k == n) c (at old n)

-- ---- what an entry adds

abbrev pub thread_after : Entry → Bool → ℕ → ThreadCounts → ThreadCounts
thread_after (Local k n) blocked t c = cond (k == t) (record c { local = c.local + n }) c
thread_after (Op k) blocked t c = cond (k == t) (record c { ops = c.ops + 1; waits = c.waits + one_if blocked }) c
thread_after (Receive k) blocked t c = cond (k == t) (record c { receives = c.receives + 1 }) c
thread_after _ blocked t c = c

abbrev pub touched : Seen → CellCounts → CellCounts
touched seen c = record {
  out = c.out + one_if (serves seen.touch seen.was_full seen.is_full);
  waits = c.waits + one_if (waits_there seen.touch seen.was_full);
  longest = max c.longest seen.line;
}

abbrev pub op_after : Seen → ℕ → CellCounts → CellCounts
op_after seen m c = cond (is_on m seen.touch) (touched seen c) c

abbrev pub cell_after : Entry → Seen → ℕ → CellCounts → CellCounts
cell_after (Op t) seen m c = op_after seen m c
cell_after _ seen m c = c

pub record IsCounted (e : Entry) (seen : Seen) (old new : Tally) : Type 0 where
  pub steps : new.steps ≡ old.steps + cost_of e
  pub threads : (t : ℕ) → thread_at new.threads.items t ≡ thread_after e seen.blocked t (thread_at old.threads.items t)
  pub cells : (m : ℕ) → cell_at new.cells.items m ≡ cell_after e seen m (cell_at old.cells.items m)

-- ---- no count is more than this

pub record ThreadWithin (n : ℕ) (c : ThreadCounts) : Type 0 where
  pub local : c.local ≤ n
  pub ops : c.ops ≤ n
  pub waits : c.waits ≤ n
  pub receives : c.receives ≤ n

pub record CellWithin (n : ℕ) (c : CellCounts) : Type 0 where
  pub out : c.out ≤ n
  pub waits : c.waits ≤ n

abbrev pub ThreadsWithin : ℕ → List ThreadCounts → Type 0
ThreadsWithin n cs = (t : ℕ) → ThreadWithin n (thread_at cs t)

abbrev pub CellsWithin : ℕ → List CellCounts → Type 0
CellsWithin n cs = (m : ℕ) → CellWithin n (cell_at cs m)

-- no count is more than all steps
pub record IsWithin (y : Tally) : Type 0 where
  pub threads : ThreadsWithin y.steps y.threads.items
  pub cells : CellsWithin y.steps y.cells.items

-- ---- what a tally stands for

-- the numbers of a history
pub record Tallies (ds : List Fn) (es : List Entry) (y : Tally) : Type 0 where
  pub steps : y.steps ≡ steps_of es
  pub threads : (t : ℕ) → thread_at y.threads.items t ≡ record { local = local_of t es; ops = ops_of t es; waits = waits_of ds t es; receives = receives_of t es }
  pub cells : (m : ℕ) → cell_at y.cells.items m ≡ record { out = length (outs ds es m); waits = cell_waits ds m es; longest = longest ds m es }

-- this is seen of an operation of thread t that leads from one state to another
pub record SeesOp (t : ℕ) (s u : State) (seen : Seen) : Type 0 where
  pub touch : seen.touch ≡ thread_touch (slice_get s.threads t)
  pub blocked : seen.blocked ≡ is_blocked t u.blocked
  pub was_full : (m : ℕ) → is_on m seen.touch ≡ true → seen.was_full ≡ full_in m s
  pub is_full : (m : ℕ) → is_on m seen.touch ≡ true → seen.is_full ≡ full_in m u
  pub line : (m : ℕ) → is_on m seen.touch ≡ true → seen.line ≡ line_length m u

abbrev pub Sees : Entry → State → State → Seen → Type 0
Sees (Op t) s u seen = SeesOp t s u seen
Sees _ s u seen = Unit {0}

-- Which threads have something to do, and that the lists have them (own).
use Rattle.std.specs.Prelude.{◌≡◌, ℕ, Bool, true, false, cond, not, ◌&&◌, is_some, List, [], ◌∷◌, ◌++◌, Option, Some, None, slice_get}
use Rattle.hs_base.specs.declared.mask.Mask.{Mask}
use Rattle.hs_base.specs.declared.mask.Mask.TheVariants.{Unmasked}
use Rattle.rules_waiting.specs.Waiting.{Flying, flying_to, first_thrown, has}
use Rattle.hs_rules.specs.Entries.{is_open, is_interruptible}
use Rattle.local_steps.specs.Frames.{mask_inside}
use Rattle.frame_stack.specs.declared.control.Operation.TheVariants as p
use Rattle.frame_stack.specs.declared.control.Control.{Control}
use Rattle.frame_stack.specs.declared.control.Control.TheVariants as c
use Rattle.thread_table.specs.declared.thread.Thread.{Thread}
use Rattle.thread_table.specs.Table.{sum_over}

abbrev pub mask_of : Thread → Mask
mask_of th = mask_inside Unmasked th.stack.frames

-- ---- an entry of its own, other than local rules of an action

abbrev pub is_doing : Control → Bool
is_doing (c.Doing i vs) = true
is_doing (c.Ret v) = false
is_doing (c.Throw e) = false
is_doing (c.Op q) = false

abbrev pub is_throw : Control → Bool
is_throw (c.Doing i vs) = false
is_throw (c.Ret v) = false
is_throw (c.Throw e) = true
is_throw (c.Op q) = false

abbrev pub has_own : Thread → Bool
has_own th = not th.blocked && not (is_doing th.stack.control)

-- ---- an exception to receive

abbrev pub is_receptive : Thread → Bool
is_receptive th = not (is_throw th.stack.control) && is_open th.blocked (mask_of th)

abbrev pub is_hit : ℕ → List Flying → Bool
is_hit t fs = is_some (first_thrown (flying_to t fs))

-- ---- the list of work

abbrev pub wanted : ℕ → Option Thread → List Flying → Bool
wanted t None fs = false
wanted t (Some th) fs = cond th.finished false (cond (has_own th) true (cond (is_receptive th) (is_hit t fs) false))

-- whether thread t has something to do
abbrev pub wants : ℕ → List Thread → List Flying → Bool
wants t ths fs = wanted t (slice_get ths t) fs

abbrev pub is_in : ℕ → List ℕ → Bool
is_in t work = has (λ (n : ℕ). n) t work

abbrev pub Listed : List Thread → List Flying → List ℕ → Type 0
Listed ths fs work = (t : ℕ) → wants t ths fs ≡ true → is_in t work ≡ true

abbrev pub NobodyWants : List Thread → List Flying → Type 0
NobodyWants ths fs = (t : ℕ) → wants t ths fs ≡ false

-- ---- those who say that they are in a list

-- whoever the test is true of says that it is in the list, and whoever says so is
pub record Flagged (test flag : Option Thread → Bool) (ths : List Thread) (list : List ℕ) : Type 0 where
  pub says : (t : ℕ) → test (slice_get ths t) ≡ true → flag (slice_get ths t) ≡ true
  pub has : (t : ℕ) → flag (slice_get ths t) ≡ true → is_in t list ≡ true

-- ---- those who are to do an action, and the list of the ready

-- it hasn't finished, isn't blocked, and is to do an action
abbrev pub goes : Thread → Bool
goes th = not th.finished && not th.blocked && is_doing th.stack.control

abbrev pub Goes : Thread → Type 0
Goes th = (th.finished ≡ false) × (th.blocked ≡ false) × (is_doing th.stack.control ≡ true)

-- the thread at a number, where there is one
abbrev pub goes_at : Option Thread → Bool
goes_at None = false
goes_at (Some th) = goes th

abbrev pub counted_going : Thread → ℕ
counted_going th = cond (goes th) 1 0

-- how many there are
abbrev pub going_over : List Thread → ℕ
going_over ths = sum_over counted_going ths

-- it says that it is in the list of the ready
abbrev pub is_queued : Option Thread → Bool
is_queued None = false
is_queued (Some th) = th.queued

-- the list after thread t joined it, which said whether it was there
abbrev pub queued_after : Bool → ℕ → List ℕ → List ℕ
queued_after said t ready = cond said ready (ready ++ t ∷ [])

-- whoever is to do an action is in the list of the ready
abbrev pub Queued : List Thread → List ℕ → Type 0
Queued ths ready = Flagged goes_at is_queued ths ready

-- ---- the list of those who may be stranded

-- an operation that waits at a cell
abbrev pub is_at_cell : Control → Bool
is_at_cell (c.Op (p.TakeMVar m)) = true
is_at_cell (c.Op (p.ReadMVar m)) = true
is_at_cell (c.Op (p.PutMVar m v)) = true
is_at_cell _ = false

-- an operation that waits at this cell
abbrev pub WaitsAtCell : ℕ → Control → Type 0
WaitsAtCell k (c.Op (p.TakeMVar m)) = m ≡ k
WaitsAtCell k (c.Op (p.ReadMVar m)) = m ≡ k
WaitsAtCell k (c.Op (p.PutMVar m v)) = m ≡ k
WaitsAtCell k _ = ⊥

abbrev pub waits_open : Option Thread → Bool
waits_open None = false
waits_open (Some th) = th.blocked && is_at_cell th.stack.control && is_interruptible (mask_of th)

abbrev pub is_listed : Option Thread → Bool
is_listed None = false
is_listed (Some th) = th.listed

-- whoever may be stranded is in the list of those
abbrev pub Kept : List Thread → List ℕ → Type 0
Kept ths stuck = Flagged waits_open is_listed ths stuck

-- The law of masks: what is true wherever a thread receives an exception ("Asynchronous Exceptions in Haskell"; the
-- documentation of `Control.Exception` on interruptible operations), and wherever threads are stranded (own).
use Rattle.std.specs.Prelude.{◌≡◌, ◌≢◌, ℕ, true, false, List, [], ◌∷◌, ◌++◌, Some, ◌⊎◌, ◌↔◌, slice_get}
use Rattle.hs_base.specs.declared.mask.Mask.TheVariants.{Unmasked, Uninterruptible}
use Rattle.hs_base.specs.declared.exn.Exn.{Exn}
use Rattle.hs_base.specs.declared.exn.Exn.TheVariants.{BlockedIndefinitely}
use Rattle.hs_rules.specs.declared.entry.Entry.{Entry}
use Rattle.hs_rules.specs.declared.entry.Entry.TheVariants as entry
use Rattle.rules_expansion.specs.trees.Programs.{Fn}
use Rattle.rules_meaning.specs.Values.{V, Exception}
use Rattle.rules_meaning.specs.Values as val
use Rattle.rules_expansion.specs.declared.primitive.Primitive.TheVariants.{ThrowTo}
use Rattle.rules_meaning.specs.CoreMeaning.{Code, code_of}
use Rattle.hs_rules.specs.Terms.{Calls, Throw, Performs, term, mask_at}
use Rattle.rules_waiting.specs.Waiting.{Reason, Throwing, is_blocked, reason_of, at_cell, flight_of, flying_to, first_thrown}
use Rattle.hs_rules.specs.State.{Thread, State}
use Rattle.hs_rules.specs.Entries.{next}
use Rattle.hs_rules.specs.Runs.{Run, first_of, after}

-- ---- at a Receive

-- from a state on, and through all these entries, thread w waits for this reason
abbrev pub WaitsThrough : Code → State → List Entry → ℕ → Reason V → Type 0
WaitsThrough code s [] w r = reason_of w s.blocked ≡ Some r
WaitsThrough code s (e ∷ es) w r = (reason_of w s.blocked ≡ Some r) × (e ≢ entry.Receive w) × ((m : State) → next code s e ≡ Some m → WaitsThrough code m es w r)

-- an Op of `throwTo t e` by thread w stands in the run and blocked w, which has waited for it to be received ever since
pub record ThrownBy (code : Code) (s : State) (es : List Entry) (w t : ℕ) (e : Exn) : Type 0 where
  pub front : List Entry
  pub back : List Entry
  pub split : es ≡ front ++ entry.Op w ∷ back
  pub state : State
  pub run : Run code s front state
  pub thread : Thread
  pub is : slice_get state.threads w ≡ Some thread
  pub part : thread.term.part ≡ Performs (Calls ThrowTo (val.Thread t ∷ Exception e ∷ []))
  pub through : (m : State) → next code state (entry.Op w) ≡ Some m → WaitsThrough code m back w (Throwing t e)

-- At a Receive of thread t in state u: t is blocked and not masked uninterruptibly, or it isn't blocked and not masked;
-- and the exception that it receives is the first in flight to it, and was thrown by a thread that waits for that ever since.
pub record Received (code : Code) (s : State) (es : List Entry) (u : State) (t : ℕ) : Type 0 where
  pub thread : Thread
  pub is : slice_get u.threads t ≡ Some thread
  pub open_now : ((is_blocked t u.blocked ≡ true) × (mask_at thread.term.frames ≢ Uninterruptible)) ⊎ ((is_blocked t u.blocked ≡ false) × (mask_at thread.term.frames ≡ Unmasked))
  pub w : ℕ
  pub e : Exn
  pub first : first_thrown (flying_to t (flight_of u.blocked)) ≡ Some (w, e)
  pub thrown : ThrownBy code s es w t e

-- the same after a history of a script
pub record ReceivedAfter (ds : List Fn) (es : List Entry) (u : State) (t : ℕ) : Type 0 where
  pub start : State
  pub begins : first_of ds ≡ Some start
  pub received : Received (code_of ds) start es u t

-- ---- at a Stranded

-- thread t waits at a cell and isn't masked uninterruptibly
pub record WaitsOpen (s : State) (t : ℕ) : Type 0 where
  pub thread : Thread
  pub is : slice_get s.threads t ≡ Some thread
  pub reason : Reason V
  pub waits : reason_of t s.blocked ≡ Some reason
  pub at : at_cell reason ≡ true
  pub open_now : mask_at thread.term.frames ≢ Uninterruptible

-- between two states thread t was removed from those that are blocked
abbrev pub WasRemoved : State → State → ℕ → Type 0
WasRemoved s u t = (is_blocked t s.blocked ≡ true) × (is_blocked t u.blocked ≡ false)

-- a thread throws `BlockedIndefinitely` where it stood
abbrev pub thrown_out : Thread → Thread
thrown_out th = record { term = term (Throw BlockedIndefinitely) th.term.frames; finished = th.finished }

-- The threads that a Stranded in state s, which leaves u, removed are exactly those that waited at a cell and weren't masked
-- uninterruptibly. Each of them throws where it stood, and nothing else became of any other thread.
pub record AreStranded (s u : State) : Type 0 where
  pub removed : (t : ℕ) → WasRemoved s u t ↔ WaitsOpen s t
  pub throw : (t : ℕ) (w : WaitsOpen s t) → slice_get u.threads t ≡ Some (thrown_out w.thread)
  pub others : (t : ℕ) → ¬ WaitsOpen s t → (slice_get u.threads t ≡ slice_get s.threads t) × (reason_of t u.blocked ≡ reason_of t s.blocked)

-- ---- the law

-- what holds at each Receive and each Stranded of a history
pub record MasksKept (ds : List Fn) (es : List Entry) : Type 0 where
  pub received : (front back : List Entry) (t : ℕ) (s : State) → es ≡ front ++ entry.Receive t ∷ back → after ds front ≡ Some s → ReceivedAfter ds front s t
  pub stranded : (front back : List Entry) (s u : State) → es ≡ front ++ entry.Stranded ∷ back → after ds front ≡ Some s → next (code_of ds) s entry.Stranded ≡ Some u → AreStranded s u

-- The entries of a run: where each is legal, and the state that it leaves.
--
-- "Asynchronous Exceptions in Haskell" and `Control.Exception`: an exception reaches a thread that isn't masked, or one
-- that is blocked in an interruptible operation and not masked uninterruptibly; it withdraws what that thread waited for.
-- A thread ends by its value or by an exception that nothing catches. A thread that waits at a cell which nothing can
-- serve any more gets `BlockedIndefinitely`; `base` decides that by reachability, this project by quiescence (own). That a
-- Local may hold many steps, and the lines for exceptions that nothing catches, are this project's own.
use Rattle.std.specs.Prelude.{◌≡◌, ℕ, zero, suc, nat_le, Bool, true, false, cond, not, ◌&&◌, List, [], ◌∷◌, ◌++◌, length, Option, Some, None, slice_get, slice_set, codes}
use Rattle.std.specs.Fmt.{decimal}
use Rattle.hs_base.specs.declared.mask.Mask.{Mask}
use Rattle.hs_base.specs.declared.mask.Mask.TheVariants.{Unmasked, Masked, Uninterruptible}
use Rattle.hs_base.specs.declared.exn.Exn.{Exn}
use Rattle.hs_base.specs.declared.exn.Exn.TheVariants.{ErrorCall, ThreadKilled, UserInterrupt, DivideByZero, Overflow, Timeout, TextLimit, BlockedIndefinitely}
use Rattle.hs_base.specs.ExceptionTexts.{text_of}
use Rattle.hs_rules.specs.declared.entry.Entry.{Entry}
use Rattle.hs_rules.specs.declared.entry.Entry.TheVariants as entry
use Rattle.rules_meaning.specs.Values.{V, UnitValue}
use Rattle.rules_meaning.specs.CoreMeaning.{Code}
use Rattle.hs_rules.specs.Terms.{Operation, Part, Ret, Throw, Do, Performs, Frame, Term, mask_at}
use Rattle.hs_rules.specs.LocalRules.{locals}
use Rattle.rules_waiting.specs.Waiting.{Reason, Taking, Reading, Putting, Throwing, Sleeping, Sleeper, Flying, is_blocked, reason_of, at_cell, flight_of, flying_to, sleepers_of}
use Rattle.hs_rules.specs.State.{Thread, State, move, resume, answer, resume_all}
use Rattle.hs_rules.specs.Primitives.{operated, line_feed}

-- ---- Local: k local rules in turn, at least one, of a thread that isn't blocked

abbrev pub moved : ℕ → State → Option Term → Option State
moved t s None = None
moved t s (Some u) = Some (move t u s)

abbrev pub local_entry : Code → ℕ → ℕ → Thread → State → Option State
local_entry code t zero th s = None
local_entry code t (suc k) th s = cond (is_blocked t s.blocked) None (moved t s (locals code (suc k) th.term))

-- ---- Op: the operation at the active part of a thread that isn't blocked

abbrev pub at_operation : Part → (Operation → Option State) → Option State
at_operation (Ret u) k = None
at_operation (Throw e) k = None
at_operation (Do a env) k = None
at_operation (Performs p) k = k p

abbrev pub op_entry : ℕ → Thread → State → Option State
op_entry t th s = cond (is_blocked t s.blocked) None (at_operation th.term.part (λ p. operated t (mask_at th.term.frames) p s))

-- ---- Receive: the first exception in flight to a receptive thread

abbrev pub is_throw : Part → Bool
is_throw (Throw e) = true
is_throw (Ret u) = false
is_throw (Do a env) = false
is_throw (Performs p) = false

abbrev pub is_unmasked : Mask → Bool
is_unmasked Unmasked = true
is_unmasked Masked = false
is_unmasked Uninterruptible = false

abbrev pub is_interruptible : Mask → Bool
is_interruptible Unmasked = true
is_interruptible Masked = true
is_interruptible Uninterruptible = false

-- a blocked thread can be interrupted unless it is masked uninterruptibly, and another one only where it isn't masked
abbrev pub is_open : Bool → Mask → Bool
is_open blocked m = cond blocked (is_interruptible m) (is_unmasked m)

-- whether a thread with this term, which hasn't finished, can receive an exception
abbrev pub is_receptive : ℕ → Term → State → Bool
is_receptive t u s = not (is_throw u.part) && is_open (is_blocked t s.blocked) (mask_at u.frames)

-- the first of these exceptions goes to thread t: its thrower is answered (), and t throws it where it stands and waits
-- for nothing any more
abbrev pub received : ℕ → List Flying → State → Option State
received t [] s = None
received t (f ∷ fs) s = Some (resume t (Throw f.exn) (answer f.thrower UnitValue s))

abbrev pub receive_entry : ℕ → Thread → State → Option State
receive_entry t th s = cond (is_receptive t th.term s) (received t (flying_to t (flight_of s.blocked)) s) None

-- ---- Wake: a sleeper whose time has come is answered ()

abbrev pub woken : ℕ → Option (Reason V) → State → Option State
woken t None s = None
woken t (Some (Taking m)) s = None
woken t (Some (Reading m)) s = None
woken t (Some (Putting m a)) s = None
woken t (Some (Throwing u e)) s = None
woken t (Some (Sleeping due)) s = cond (nat_le due s.clock) (Some (answer t UnitValue s)) None

-- ---- Finish: a thread whose whole term is a value or an exception

-- a thread other than the main one ends by it without a line
abbrev pub is_silent : Exn → Bool
is_silent ThreadKilled = true
is_silent BlockedIndefinitely = true
is_silent (ErrorCall x) = false
is_silent UserInterrupt = false
is_silent DivideByZero = false
is_silent Overflow = false
is_silent (Timeout n) = false
is_silent TextLimit = false

-- what error output says where thread t ends by an exception
abbrev pub uncaught_line : ℕ → Exn → List ℕ
uncaught_line zero e = codes "uncaught exception in main: " ++ text_of e ++ line_feed
uncaught_line (suc t) e = cond (is_silent e) [] (codes "uncaught exception in thread " ++ decimal (suc t) ++ codes ": " ++ text_of e ++ line_feed)

abbrev pub throwers : List Flying → List ℕ
throwers [] = []
throwers (f ∷ fs) = f.thrower ∷ throwers fs

-- thread t has finished, with this line on error output, and all that throw at it are answered ()
abbrev pub closed : ℕ → Thread → List ℕ → State → State
closed t th line s =
    resume_all (throwers (flying_to t (flight_of s.blocked))) (Ret UnitValue)
    (record s { threads = slice_set s.threads t (record { term = th.term; finished = true }); errors = s.errors ++ line })

abbrev pub finish_entry : ℕ → Thread → List Frame → Part → State → Option State
finish_entry t th [] (Ret u) s = Some (closed t th [] s)
finish_entry t th [] (Throw e) s = Some (closed t th (uncaught_line t e) s)
finish_entry t th [] (Do a env) s = None
finish_entry t th [] (Performs p) s = None
finish_entry t th (f ∷ fs) p s = None

-- ---- Stranded: where nobody sleeps, every thread that waits at a cell and can be interrupted, in order of number

-- the masking state at a thread's active part
abbrev pub mask_of : Option Thread → Mask
mask_of None = Uninterruptible
mask_of (Some th) = mask_at th.term.frames

-- whether a thread that waits for this is to be stranded
abbrev pub is_stranded : Option Thread → Option (Reason V) → Bool
is_stranded th None = false
is_stranded th (Some r) = at_cell r && is_interruptible (mask_of th)

-- of so many threads, by number, those that are to be stranded, in order
abbrev pub stranded_below : ℕ → State → List ℕ
stranded_below zero s = []
stranded_below (suc t) s = stranded_below t s ++ cond (is_stranded (slice_get s.threads t) (reason_of t s.blocked)) (t ∷ []) []

abbrev pub stranded : State → List ℕ
stranded s = stranded_below (length s.threads) s

-- all of them throw where they stand, and wait for nothing any more
abbrev pub strand : List ℕ → State → Option State
strand [] s = None
strand (t ∷ ts) s = Some (resume_all (t ∷ ts) (Throw BlockedIndefinitely) s)

abbrev pub strand_entry : List Sleeper → State → Option State
strand_entry [] s = strand (stranded s) s
strand_entry (r ∷ rs) s = None

-- ---- the table

-- on a thread that is there and hasn't finished
abbrev pub on_thread : Option Thread → (Thread → Option State) → Option State
on_thread None k = None
on_thread (Some th) k = cond th.finished None (k th)

abbrev pub entered : Code → State → Entry → Option State
entered code s (entry.Local t k) = on_thread (slice_get s.threads t) (λ th. local_entry code t k th s)
entered code s (entry.Op t) = on_thread (slice_get s.threads t) (λ th. op_entry t th s)
entered code s (entry.Receive t) = on_thread (slice_get s.threads t) (λ th. receive_entry t th s)
entered code s (entry.Wake t) = woken t (reason_of t s.blocked) s
entered code s (entry.Finish t) = on_thread (slice_get s.threads t) (λ th. finish_entry t th th.term.frames th.term.part s)
entered code s (entry.Tick at) = cond (nat_le s.clock at) (Some (record s { clock = at })) None
entered code s entry.Stranded = strand_entry (sleepers_of s.blocked) s

-- The state that an entry leaves, or nothing where it can't: after the main thread has finished nothing can be entered,
-- and the other threads stop without running their handlers.
abbrev pub next : Code → State → Entry → Option State
next code s e = on_thread (slice_get s.threads 0) (λ main. entered code s e)

-- an entry other than a Tick and a Stranded
abbrev pub IsWork : Entry → Type 0
IsWork (entry.Local t k) = Unit {0}
IsWork (entry.Op t) = Unit {0}
IsWork (entry.Receive t) = Unit {0}
IsWork (entry.Wake t) = Unit {0}
IsWork (entry.Finish t) = Unit {0}
IsWork (entry.Tick at) = ⊥
IsWork entry.Stranded = ⊥

-- there is no work
abbrev pub IsIdle : Code → State → Type 0
IsIdle code s = (e : Entry) → IsWork e → next code s e ≡ None

-- threads are stranded only where there is no work
abbrev pub IsTimely : Code → State → Entry → Type 0
IsTimely code s entry.Stranded = IsIdle code s
IsTimely code s _ = Unit {0}

-- An entry is legal in a state, and leaves that one.
abbrev pub Leads : Code → State → Entry → State → Type 0
Leads code s e u = (next code s e ≡ Some u) × IsTimely code s e

-- an entry is legal in a state
abbrev pub IsLegal : Code → State → Entry → Type 0
IsLegal code s e = (u : State) × Leads code s e u

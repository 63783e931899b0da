-- What an Op does: one primitive or fork of a thread, in the masking state at its active part.
--
-- Cells: `Control.Concurrent.MVar` (a blocked thread is served first in, first out, and the value goes straight to it;
-- `readMVar` is atomic, and blocked readers are served before takers, all at once).
-- Threads: `Control.Concurrent` (`forkIO` inherits the masking state) and `Control.Exception` (`throwTo` blocks until the
-- exception is received, `getMaskingState`). `putStr` is one step that can't be interrupted, `threadDelay` of no time
-- doesn't wait, `throwTo` to a finished thread returns at once without a chance to be interrupted, and `throwTo` to
-- oneself throws in every masking state (own).
use Rattle.std.specs.Prelude.{ℕ, suc, ℤ, pos, negsuc, ◌+◌, ◌==◌, min, true, false, cond, List, [], ◌∷◌, ◌++◌, length, Option, Some, None, slice_get, slice_set, codes}
use Rattle.hs_base.specs.declared.mask.Mask.{Mask}
use Rattle.hs_base.specs.declared.mask.Mask.TheVariants.{Unmasked, Masked, Uninterruptible}
use Rattle.hs_base.specs.declared.exn.Exn.{Exn}
use Rattle.hs_base.specs.declared.exn.Exn.TheVariants.{Timeout}
use Rattle.rules_meaning.specs.Values.{V, UnitValue, Int, Truth, Text, Nothing, Just, Cell, Exception, Restore, Inst, with_name}
use Rattle.rules_meaning.specs.Values as v
use Rattle.rules_expansion.specs.declared.primitive.Primitive.{Primitive}
use Rattle.rules_expansion.specs.declared.primitive.Primitive.TheVariants.{PutStr, PutStrLn, HPutStrLn, NewMVar, NewEmptyMVar, TakeMVar, PutMVar, ReadMVar, TryTakeMVar, TryPutMVar, MyThreadId, GetMaskingState, ClockMicros, ThreadDelay, ThrowTo, NewTimeout, Acquired, Release}
use Rattle.hs_rules.specs.Terms.{Operation, Calls, Forks, ForksUnmask, Ret, Throw, Do, MaskIn, term}
use Rattle.rules_waiting.specs.OneCell.{first_put, first_take, readers}
use Rattle.rules_waiting.specs.Waiting.{Taking, Reading, Putting, Throwing, Sleeping, line_of}
use Rattle.hs_rules.specs.State.{Thread, State, AcquiredBy, ReleasedBy, resume, resume_all, answer, block, spawn}

-- ---- the values of a primitive, of the sorts that it needs

abbrev pub on_none : List V → Option State → Option State
on_none [] s = s
on_none (a ∷ vs) s = None

abbrev pub on_one : List V → (V → Option State) → Option State
on_one [] k = None
on_one (a ∷ vs) k = elim vs [ [] ↦ k a | w ∷ ws ↦ None ]

abbrev pub on_two : List V → (V → V → Option State) → Option State
on_two [] k = None
on_two (a ∷ vs) k = on_one vs (k a)

abbrev pub as_text : V → (List ℕ → Option State) → Option State
as_text (Text x) k = k x
as_text _ k = None

abbrev pub as_number : V → (ℤ → Option State) → Option State
as_number (Int n) k = k n
as_number _ k = None

abbrev pub as_cell : V → (ℕ → Option State) → Option State
as_cell (Cell m) k = k m
as_cell _ k = None

abbrev pub as_thread : V → (ℕ → Option State) → Option State
as_thread (v.Thread u) k = k u
as_thread _ k = None

abbrev pub as_exn : V → (Exn → Option State) → Option State
as_exn (Exception e) k = k e
as_exn _ k = None

abbrev pub as_instance : V → (ℕ → Option State) → Option State
as_instance (Inst i) k = k i
as_instance _ k = None

-- ---- cells

-- the content of cell m was taken: the value of the first that waits to put moves in and its thread is answered (), or
-- else the cell is empty
abbrev pub moves_in : ℕ → Option (ℕ × V) → State → State
moves_in m None s = record s { cells = slice_set s.cells m None }
moves_in m (Some w) s = answer w.0 UnitValue (record s { cells = slice_set s.cells m (Some w.1) })

abbrev pub taken : ℕ → State → State
taken m s = moves_in m (first_put (line_of m s.blocked)) s

-- a value comes to the empty cell m, where nobody waits to read: the first that waits to take is answered it and the cell
-- stays empty, or else it is the content
abbrev pub goes_in : ℕ → V → Option ℕ → State → State
goes_in m a None s = record s { cells = slice_set s.cells m (Some a) }
goes_in m a (Some t) s = answer t a s

abbrev pub goes_on : ℕ → V → State → State
goes_on m a s = goes_in m a (first_take (line_of m s.blocked)) s

-- all that wait to read cell m are answered its value, in order
abbrev pub read_by_all : ℕ → V → State → State
read_by_all m a s = resume_all (readers (line_of m s.blocked)) (Ret a) s

-- a value comes to the empty cell m: to all that wait to read, and then on
abbrev pub given : ℕ → V → State → State
given m a s = goes_on m a (read_by_all m a s)

-- takeMVar m of thread t, by the content
abbrev pub take : ℕ → ℕ → Option (Option V) → State → Option State
take t m None s = None
take t m (Some None) s = Some (block t (Taking m) s)
take t m (Some (Some a)) s = Some (taken m (answer t a s))

-- readMVar m: an empty cell is waited for, and a full one stays as it is
abbrev pub read : ℕ → ℕ → Option (Option V) → State → Option State
read t m None s = None
read t m (Some None) s = Some (block t (Reading m) s)
read t m (Some (Some a)) s = Some (answer t a s)

abbrev pub put : ℕ → ℕ → V → Option (Option V) → State → Option State
put t m a None s = None
put t m a (Some (Some b)) s = Some (block t (Putting m a) s)
put t m a (Some None) s = Some (given m a (answer t UnitValue s))

abbrev pub try_take : ℕ → ℕ → Option (Option V) → State → Option State
try_take t m None s = None
try_take t m (Some None) s = Some (answer t Nothing s)
try_take t m (Some (Some a)) s = Some (taken m (answer t (Just a) s))

abbrev pub try_put : ℕ → ℕ → V → Option (Option V) → State → Option State
try_put t m a None s = None
try_put t m a (Some (Some b)) s = Some (answer t (Truth false) s)
try_put t m a (Some None) s = Some (given m a (answer t (Truth true) s))

-- ---- threads and time

-- throwTo u e of thread t, by thread u
abbrev pub throw_at : ℕ → ℕ → Exn → Option Thread → State → Option State
throw_at t u e None s = None
throw_at t u e (Some th) s = cond (u == t) (Some (resume t (Throw e) s)) (cond th.finished (Some (answer t UnitValue s)) (Some (block t (Throwing u e) s)))

-- a moment n microseconds from now, at most the greatest of 64 bits
abbrev pub due_in : ℕ → State → ℕ
due_in n s = min (s.clock + n) 18446744073709551615

abbrev pub delay : ℕ → ℤ → State → Option State
delay t (pos n) s = cond (n == 0) (Some (answer t UnitValue s)) (Some (block t (Sleeping (due_in n s)) s))
delay t (negsuc n) s = Some (answer t UnitValue s)

-- the clock as a number of the script, at most the greatest
abbrev pub clock_value : State → V
clock_value s = Int (pos (min s.clock 9223372036854775807))

abbrev pub masking_text : Mask → List ℕ
masking_text Unmasked = codes "Unmasked"
masking_text Masked = codes "MaskedInterruptible"
masking_text Uninterruptible = codes "MaskedUninterruptible"

abbrev pub line_feed : List ℕ
line_feed = 10 ∷ []

-- ---- the table: thread t performs a primitive in masking state m

abbrev pub performed : ℕ → Mask → Primitive → List V → State → Option State
performed t m PutStr vs s = on_one vs (λ a. as_text a (λ x. Some (answer t UnitValue (record s { output = s.output ++ x }))))
performed t m PutStrLn vs s = on_one vs (λ a. as_text a (λ x. Some (answer t UnitValue (record s { output = s.output ++ x ++ line_feed }))))
performed t m HPutStrLn vs s = on_one vs (λ a. as_text a (λ x. Some (answer t UnitValue (record s { errors = s.errors ++ x ++ line_feed }))))
performed t m NewMVar vs s = on_one vs (λ a. Some (answer t (Cell (length s.cells)) (record s { cells = s.cells ++ Some a ∷ [] })))
performed t m NewEmptyMVar vs s = on_none vs (Some (answer t (Cell (length s.cells)) (record s { cells = s.cells ++ None ∷ [] })))
performed t m TakeMVar vs s = on_one vs (λ a. as_cell a (λ c. take t c (slice_get s.cells c) s))
performed t m PutMVar vs s = on_two vs (λ a b. as_cell a (λ c. put t c b (slice_get s.cells c) s))
performed t m ReadMVar vs s = on_one vs (λ a. as_cell a (λ c. read t c (slice_get s.cells c) s))
performed t m TryTakeMVar vs s = on_one vs (λ a. as_cell a (λ c. try_take t c (slice_get s.cells c) s))
performed t m TryPutMVar vs s = on_two vs (λ a b. as_cell a (λ c. try_put t c b (slice_get s.cells c) s))
performed t m MyThreadId vs s = on_none vs (Some (answer t (v.Thread t) s))
performed t m GetMaskingState vs s = on_none vs (Some (answer t (Text (masking_text m)) s))
performed t m ClockMicros vs s = on_none vs (Some (answer t (clock_value s) s))
performed t m ThreadDelay vs s = on_one vs (λ a. as_number a (λ n. delay t n s))
performed t m ThrowTo vs s = on_two vs (λ a b. as_thread a (λ u. as_exn b (λ e. throw_at t u e (slice_get s.threads u) s)))
performed t m NewTimeout vs s =
    on_none vs (Some (answer t (Exception (Timeout s.next_timeout)) (record s { next_timeout = suc s.next_timeout })))
performed t m Acquired vs s =
    on_none vs (Some (answer t (Inst s.next_instance) (record s { marks = AcquiredBy s.next_instance t ∷ s.marks; next_instance = suc s.next_instance })))
performed t m Release vs s =
    on_one vs (λ a. as_instance a (λ i. Some (answer t UnitValue (record s { marks = ReleasedBy i t ∷ s.marks }))))

-- A fork: the new thread begins in its parent's masking state, with `restore` to Unmasked where it has a name for that.
abbrev pub operated : ℕ → Mask → Operation → State → Option State
operated t m (Calls p vs) s = performed t m p vs s
operated t m (Forks a env) s = Some (spawn (term (Do a env) (MaskIn m ∷ [])) (answer t (v.Thread (length s.threads)) s))
operated t m (ForksUnmask r a env) s =
    Some (spawn (term (Do a (with_name r (Restore Unmasked) env)) (MaskIn m ∷ [])) (answer t (v.Thread (length s.threads)) s))

-- The rows of the rules by name: one case for each way in which an operation is performed, and in which an entry goes on,
-- with what it needs on lines of its own and the state that it leaves.
--
-- The rules and their sources are those of `Primitives` and `Entries` in `hs_rules`; the cases are proved to be exactly
-- these (own).
use Rattle.std.specs.Prelude.{◌≡◌, ◌≢◌, ◌<◌, ◌≤◌, ℕ, suc, pos, negsuc, true, false, List, [], ◌∷◌, ◌++◌, length, Option, Some, None, slice_get, slice_set, codes}
use Rattle.std.specs.Fmt.{decimal}
use Rattle.hs_base.specs.declared.mask.Mask.{Mask}
use Rattle.hs_base.specs.declared.mask.Mask.TheVariants.{Unmasked, Uninterruptible}
use Rattle.hs_base.specs.declared.exn.Exn.{Exn}
use Rattle.hs_base.specs.declared.exn.Exn.TheVariants.{Timeout, BlockedIndefinitely}
use Rattle.hs_base.specs.ExceptionTexts.{text_of}
use Rattle.rules_expansion.specs.Names.{Name}
use Rattle.rules_expansion.specs.Core.{Core}
use Rattle.rules_expansion.specs.declared.primitive.Primitive.TheVariants.{PutStr, PutStrLn, HPutStrLn, NewMVar, NewEmptyMVar, TakeMVar, PutMVar, ReadMVar, TryTakeMVar, TryPutMVar, MyThreadId, GetMaskingState, ClockMicros, ThreadDelay, ThrowTo, NewTimeout, Acquired, Release}
use Rattle.rules_meaning.specs.Values.{V, Env, UnitValue, Int, Truth, Text, Nothing, Just, Cell, Exception, Restore, Inst, with_name}
use Rattle.rules_meaning.specs.Values as v
use Rattle.rules_meaning.specs.CoreMeaning.{Code}
use Rattle.rules_waiting.specs.OneCell.{first_put, first_take, readers}
use Rattle.rules_waiting.specs.Waiting.{Reason, Taking, Reading, Putting, Throwing, Sleeping, Flying, is_blocked, reason_of, at_cell, line_of, flight_of, flying_to, sleepers_of}
use Rattle.hs_rules.specs.declared.entry.Entry.{Entry}
use Rattle.hs_rules.specs.declared.entry.Entry.TheVariants as entry
use Rattle.hs_rules.specs.Terms.{Operation, Calls, Forks, ForksUnmask, Ret, Throw, Do, MaskIn, Term, term, mask_at}
use Rattle.hs_rules.specs.Terms as part
use Rattle.hs_rules.specs.LocalRules.{locals}
use Rattle.hs_rules.specs.State.{Thread, State, AcquiredBy, ReleasedBy, move, resume, resume_all, answer, block, spawn}
use Rattle.hs_rules.specs.Primitives.{due_in, clock_value, masking_text, line_feed}
use Rattle.hs_rules.specs.Entries.{is_throw, is_silent, throwers}

-- ---- what the cases leave and look for

-- cell c has this content
abbrev pub holding : ℕ → Option V → State → State
holding c o s = record s { cells = slice_set s.cells c o }

-- a new cell with this content, the last by number
abbrev pub with_cell : Option V → State → State
with_cell o s = record s { cells = s.cells ++ o ∷ [] }

-- these bytes were written to standard output
abbrev pub printed : List ℕ → State → State
printed x s = record s { output = s.output ++ x }

-- these bytes were written to standard error
abbrev pub told : List ℕ → State → State
told x s = record s { errors = s.errors ++ x }

-- who waits first to put to cell c, and what
abbrev pub putter : ℕ → State → Option (ℕ × V)
putter c s = first_put (line_of c s.blocked)

-- who waits first to take from cell c
abbrev pub taker : ℕ → State → Option ℕ
taker c s = first_take (line_of c s.blocked)

-- all that wait to read cell c were answered this value, in order
abbrev pub read_there : ℕ → V → State → State
read_there c a s = resume_all (readers (line_of c s.blocked)) (Ret a) s

-- ---- an operation

-- Thread t, in masking state m, performs an operation in a state and leaves that one.
pub data Performs (t : ℕ) (m : Mask) : Operation → State → State → Type 0 where
  -- putStr, putStrLn, hPutStrLn stderr
  prints :
      {x : List ℕ} {s : State} →
      Performs t m (Calls PutStr (Text x ∷ [])) s (answer t UnitValue (printed x s))
  prints_a_line :
      {x : List ℕ} {s : State} →
      Performs t m (Calls PutStrLn (Text x ∷ [])) s (answer t UnitValue (printed line_feed (printed x s)))
  tells_a_line :
      {x : List ℕ} {s : State} →
      Performs t m (Calls HPutStrLn (Text x ∷ [])) s (answer t UnitValue (told line_feed (told x s)))
  -- newMVar, newEmptyMVar
  makes_a_full_cell :
      {a : V} {s : State} →
      Performs t m (Calls NewMVar (a ∷ [])) s (answer t (Cell (length s.cells)) (with_cell (Some a) s))
  makes_an_empty_cell :
      {s : State} →
      Performs t m (Calls NewEmptyMVar []) s (answer t (Cell (length s.cells)) (with_cell None s))
  -- takeMVar
  take_waits :
      {c : ℕ} {s : State} →
      slice_get s.cells c ≡ Some None →
      Performs t m (Calls TakeMVar (Cell c ∷ [])) s (block t (Taking c) s)
  takes_and_empties :
      {c : ℕ} {a : V} {s : State} →
      slice_get s.cells c ≡ Some (Some a) →
      putter c (answer t a s) ≡ None →
      Performs t m (Calls TakeMVar (Cell c ∷ [])) s (holding c None (answer t a s))
  takes_and_serves :
      {c w : ℕ} {a b : V} {s : State} →
      slice_get s.cells c ≡ Some (Some a) →
      putter c (answer t a s) ≡ Some (w, b) →
      Performs t m (Calls TakeMVar (Cell c ∷ [])) s (answer w UnitValue (holding c (Some b) (answer t a s)))
  -- readMVar
  read_waits :
      {c : ℕ} {s : State} →
      slice_get s.cells c ≡ Some None →
      Performs t m (Calls ReadMVar (Cell c ∷ [])) s (block t (Reading c) s)
  reads :
      {c : ℕ} {a : V} {s : State} →
      slice_get s.cells c ≡ Some (Some a) →
      Performs t m (Calls ReadMVar (Cell c ∷ [])) s (answer t a s)
  -- putMVar
  put_waits :
      {c : ℕ} {a b : V} {s : State} →
      slice_get s.cells c ≡ Some (Some b) →
      Performs t m (Calls PutMVar (Cell c ∷ a ∷ [])) s (block t (Putting c a) s)
  puts_and_fills :
      {c : ℕ} {a : V} {s : State} →
      slice_get s.cells c ≡ Some None →
      taker c (read_there c a (answer t UnitValue s)) ≡ None →
      Performs t m (Calls PutMVar (Cell c ∷ a ∷ [])) s (holding c (Some a) (read_there c a (answer t UnitValue s)))
  puts_and_serves :
      {c w : ℕ} {a : V} {s : State} →
      slice_get s.cells c ≡ Some None →
      taker c (read_there c a (answer t UnitValue s)) ≡ Some w →
      Performs t m (Calls PutMVar (Cell c ∷ a ∷ [])) s (answer w a (read_there c a (answer t UnitValue s)))
  -- tryTakeMVar
  try_take_finds_nothing :
      {c : ℕ} {s : State} →
      slice_get s.cells c ≡ Some None →
      Performs t m (Calls TryTakeMVar (Cell c ∷ [])) s (answer t Nothing s)
  try_takes_and_empties :
      {c : ℕ} {a : V} {s : State} →
      slice_get s.cells c ≡ Some (Some a) →
      putter c (answer t (Just a) s) ≡ None →
      Performs t m (Calls TryTakeMVar (Cell c ∷ [])) s (holding c None (answer t (Just a) s))
  try_takes_and_serves :
      {c w : ℕ} {a b : V} {s : State} →
      slice_get s.cells c ≡ Some (Some a) →
      putter c (answer t (Just a) s) ≡ Some (w, b) →
      Performs t m (Calls TryTakeMVar (Cell c ∷ [])) s (answer w UnitValue (holding c (Some b) (answer t (Just a) s)))
  -- tryPutMVar
  try_put_finds_a_value :
      {c : ℕ} {a b : V} {s : State} →
      slice_get s.cells c ≡ Some (Some b) →
      Performs t m (Calls TryPutMVar (Cell c ∷ a ∷ [])) s (answer t (Truth false) s)
  try_puts_and_fills :
      {c : ℕ} {a : V} {s : State} →
      slice_get s.cells c ≡ Some None →
      taker c (read_there c a (answer t (Truth true) s)) ≡ None →
      Performs t m (Calls TryPutMVar (Cell c ∷ a ∷ [])) s (holding c (Some a) (read_there c a (answer t (Truth true) s)))
  try_puts_and_serves :
      {c w : ℕ} {a : V} {s : State} →
      slice_get s.cells c ≡ Some None →
      taker c (read_there c a (answer t (Truth true) s)) ≡ Some w →
      Performs t m (Calls TryPutMVar (Cell c ∷ a ∷ [])) s (answer w a (read_there c a (answer t (Truth true) s)))
  -- myThreadId, getMaskingState, clockMicros
  names_itself :
      {s : State} →
      Performs t m (Calls MyThreadId []) s (answer t (v.Thread t) s)
  names_its_masking :
      {s : State} →
      Performs t m (Calls GetMaskingState []) s (answer t (Text (masking_text m)) s)
  reads_the_clock :
      {s : State} →
      Performs t m (Calls ClockMicros []) s (answer t (clock_value s) s)
  -- threadDelay
  sleeps :
      {n : ℕ} {s : State} →
      0 < n →
      Performs t m (Calls ThreadDelay (Int (pos n) ∷ [])) s (block t (Sleeping (due_in n s)) s)
  sleep_of_nothing :
      {s : State} →
      Performs t m (Calls ThreadDelay (Int (pos 0) ∷ [])) s (answer t UnitValue s)
  sleep_of_less :
      {n : ℕ} {s : State} →
      Performs t m (Calls ThreadDelay (Int (negsuc n) ∷ [])) s (answer t UnitValue s)
  -- throwTo
  throws_at_itself :
      {th : Thread} {e : Exn} {s : State} →
      slice_get s.threads t ≡ Some th →
      Performs t m (Calls ThrowTo (v.Thread t ∷ Exception e ∷ [])) s (resume t (Throw e) s)
  throws_at_finished :
      {u : ℕ} {th : Thread} {e : Exn} {s : State} →
      u ≢ t →
      slice_get s.threads u ≡ Some th →
      th.finished ≡ true →
      Performs t m (Calls ThrowTo (v.Thread u ∷ Exception e ∷ [])) s (answer t UnitValue s)
  throw_waits :
      {u : ℕ} {th : Thread} {e : Exn} {s : State} →
      u ≢ t →
      slice_get s.threads u ≡ Some th →
      th.finished ≡ false →
      Performs t m (Calls ThrowTo (v.Thread u ∷ Exception e ∷ [])) s (block t (Throwing u e) s)
  -- what only expansions call
  makes_a_timeout :
      {s : State} →
      Performs t m (Calls NewTimeout []) s (answer t (Exception (Timeout s.next_timeout)) (record s { next_timeout = suc s.next_timeout }))
  acquires :
      {s : State} →
      Performs t m (Calls Acquired []) s (answer t (Inst s.next_instance) (record s { marks = AcquiredBy s.next_instance t ∷ s.marks; next_instance = suc s.next_instance }))
  releases :
      {i : ℕ} {s : State} →
      Performs t m (Calls Release (Inst i ∷ [])) s (answer t UnitValue (record s { marks = ReleasedBy i t ∷ s.marks }))
  -- forkIO, forkIOWithUnmask
  forks :
      {a : Core} {env : Env} {s : State} →
      Performs t m (Forks a env) s (spawn (term (Do a env) (MaskIn m ∷ [])) (answer t (v.Thread (length s.threads)) s))
  forks_unmasked :
      {r : Name} {a : Core} {env : Env} {s : State} →
      Performs t m (ForksUnmask r a env) s
      (spawn (term (Do a (with_name r (Restore Unmasked) env)) (MaskIn m ∷ [])) (answer t (v.Thread (length s.threads)) s))

-- ---- an entry

-- thread t is this one, and hasn't finished
abbrev pub Unfinished : ℕ → Thread → State → Type 0
Unfinished t th s = (slice_get s.threads t ≡ Some th) × (th.finished ≡ false)

-- the main thread hasn't finished
abbrev pub MainRuns : State → Type 0
MainRuns s = (main : Thread) × Unfinished 0 main s

-- thread t has finished, and all that throw at it were answered ()
abbrev pub finished : ℕ → Thread → State → State
finished t th s =
    resume_all (throwers (flying_to t (flight_of s.blocked))) (Ret UnitValue)
    (record s { threads = slice_set s.threads t (record { term = th.term; finished = true }) })

-- thread t waits at a cell and isn't masked uninterruptibly
pub record WaitsAtCell (s : State) (t : ℕ) : Type 0 where
  pub thread : Thread
  pub is : slice_get s.threads t ≡ Some thread
  pub reason : Reason V
  pub waits : reason_of t s.blocked ≡ Some reason
  pub there : at_cell reason ≡ true
  pub open_now : mask_at thread.term.frames ≢ Uninterruptible

-- of so many threads, by number, exactly these wait so, in order
pub data AllThatWait (s : State) : ℕ → List ℕ → Type 0 where
  of_none : AllThatWait s 0 []
  waits_too :
      {n : ℕ} {ts : List ℕ} →
      AllThatWait s n ts →
      WaitsAtCell s n →
      AllThatWait s (suc n) (ts ++ n ∷ [])
  waits_not :
      {n : ℕ} {ts : List ℕ} →
      AllThatWait s n ts →
      ¬ WaitsAtCell s n →
      AllThatWait s (suc n) ts

-- An entry goes on from a state and leaves that one. That a Stranded also comes in time stands in `Leads`.
pub data Enters (code : Code) : State → Entry → State → Type 0 where
  local :
      {t k : ℕ} {th : Thread} {x : Term} {s : State} →
      MainRuns s →
      Unfinished t th s →
      is_blocked t s.blocked ≡ false →
      locals code (suc k) th.term ≡ Some x →
      Enters code s (entry.Local t (suc k)) (move t x s)
  operation :
      {t : ℕ} {th : Thread} {p : Operation} {s u : State} →
      MainRuns s →
      Unfinished t th s →
      is_blocked t s.blocked ≡ false →
      th.term.part ≡ part.Performs p →
      Performs t (mask_at th.term.frames) p s u →
      Enters code s (entry.Op t) u
  receives_while_it_runs :
      {t : ℕ} {th : Thread} {f : Flying} {fs : List Flying} {s : State} →
      MainRuns s →
      Unfinished t th s →
      is_throw th.term.part ≡ false →
      is_blocked t s.blocked ≡ false →
      mask_at th.term.frames ≡ Unmasked →
      flying_to t (flight_of s.blocked) ≡ f ∷ fs →
      Enters code s (entry.Receive t) (resume t (Throw f.exn) (answer f.thrower UnitValue s))
  receives_while_it_waits :
      {t : ℕ} {th : Thread} {f : Flying} {fs : List Flying} {s : State} →
      MainRuns s →
      Unfinished t th s →
      is_throw th.term.part ≡ false →
      is_blocked t s.blocked ≡ true →
      mask_at th.term.frames ≢ Uninterruptible →
      flying_to t (flight_of s.blocked) ≡ f ∷ fs →
      Enters code s (entry.Receive t) (resume t (Throw f.exn) (answer f.thrower UnitValue s))
  wakes :
      {t due : ℕ} {s : State} →
      MainRuns s →
      reason_of t s.blocked ≡ Some (Sleeping due) →
      due ≤ s.clock →
      Enters code s (entry.Wake t) (answer t UnitValue s)
  finishes_by_a_value :
      {t : ℕ} {th : Thread} {a : V} {s : State} →
      MainRuns s →
      Unfinished t th s →
      th.term.frames ≡ [] →
      th.term.part ≡ Ret a →
      Enters code s (entry.Finish t) (finished t th s)
  main_finishes_by_an_exception :
      {th : Thread} {e : Exn} {s : State} →
      Unfinished 0 th s →
      th.term.frames ≡ [] →
      th.term.part ≡ Throw e →
      Enters code s (entry.Finish 0) (finished 0 th (told (codes "uncaught exception in main: " ++ text_of e ++ line_feed) s))
  finishes_silently :
      {t : ℕ} {th : Thread} {e : Exn} {s : State} →
      MainRuns s →
      Unfinished (suc t) th s →
      th.term.frames ≡ [] →
      th.term.part ≡ Throw e →
      is_silent e ≡ true →
      Enters code s (entry.Finish (suc t)) (finished (suc t) th s)
  finishes_with_a_line :
      {t : ℕ} {th : Thread} {e : Exn} {s : State} →
      MainRuns s →
      Unfinished (suc t) th s →
      th.term.frames ≡ [] →
      th.term.part ≡ Throw e →
      is_silent e ≡ false →
      Enters code s (entry.Finish (suc t))
      (finished (suc t) th (told (codes "uncaught exception in thread " ++ decimal (suc t) ++ codes ": " ++ text_of e ++ line_feed) s))
  ticks :
      {at : ℕ} {s : State} →
      MainRuns s →
      s.clock ≤ at →
      Enters code s (entry.Tick at) (record s { clock = at })
  strands :
      {t : ℕ} {ts : List ℕ} {s : State} →
      MainRuns s →
      sleepers_of s.blocked ≡ [] →
      AllThatWait s (length s.threads) (t ∷ ts) →
      Enters code s entry.Stranded (resume_all (t ∷ ts) (Throw BlockedIndefinitely) s)

-- The state with slots that an entry makes of one, where it is legal (own): for each kind of entry what `hs_rules/specs/Entries`
-- says of the states of the rules, said of what whoever keeps a run has in hand.
use Rattle.std.specs.Prelude.{ℕ, zero, suc, nat_le, Bool, true, false, cond, not, ◌&&◌, ◌||◌, List, [], ◌∷◌, length, Option, Some, None, slice_get}
use Rattle.hs_base.specs.declared.mask.Mask.TheVariants.{Unmasked}
use Rattle.hs_base.specs.declared.exn.Exn.{Exn}
use Rattle.hs_rules.specs.declared.entry.Entry.{Entry}
use Rattle.hs_rules.specs.declared.entry.Entry.TheVariants as entry
use Rattle.rules_meaning.specs.Values as val
use Rattle.rules_meaning.specs.Values.{V}
use Rattle.rules_expansion.specs.declared.primitive.Primitive.{Primitive}
use Rattle.rules_expansion.specs.declared.primitive.Primitive.TheVariants.{TakeMVar, PutMVar, ReadMVar}
use Rattle.rules_code.specs.CodeTrees.{SlottedFunction}
use Rattle.rules_waiting.specs.Waiting.{Flying, Sleeper, flying_to, first_thrown}
use Rattle.exn_flight.specs.Asleep.{due_of}
use Rattle.hs_rules.specs.Entries.{is_interruptible, uncaught_line}
use Rattle.slot_laws.specs.SlotRules.{calls, forks, forks_unmask, SlotPart, ret, throw, doing, performs, SlotFrame, SlotTerm, mask_from, locals}
use Rattle.slot_states.specs.SlotStates.{SlotThread, SlotState, moves, receives, wakes, finishes, strands, ticks}
use Rattle.slot_states.specs.Resting.{is_receptive}
use Rattle.slot_states.specs.entering.Operating.{operated}

-- ---- a Local: so many local rules in turn, at least one, of a thread that isn't blocked

abbrev pub moved : ℕ → Option SlotTerm → SlotState → Option SlotState
moved t None x = None
moved t (Some st) x = Some (moves t st x)

abbrev pub local_entry : List SlottedFunction → ℕ → ℕ → SlotThread → SlotState → Option SlotState
local_entry funs t zero th x = None
local_entry funs t (suc k) th x = cond th.blocked None (moved t (locals funs Unmasked (suc k) th.term) x)

-- ---- an Op: the operation that a thread which isn't blocked stands at

abbrev pub operates : ℕ → List SlotFrame → SlotPart → SlotState → Option SlotState
operates t fs (ret v) x = None
operates t fs (throw e) x = None
operates t fs (doing a vs) x = None
operates t fs (performs p) x = operated t (mask_from Unmasked fs) p x

abbrev pub op_entry : ℕ → SlotThread → SlotState → Option SlotState
op_entry t th x = cond th.blocked None (operates t th.term.frames th.term.part x)

-- ---- a Receive: the first exception in flight to a receptive thread

abbrev pub received : ℕ → Option (ℕ × Exn) → SlotState → Option SlotState
received t None x = None
received t (Some f) x = Some (receives t f.0 f.1 x)

abbrev pub receive_entry : ℕ → SlotThread → SlotState → Option SlotState
receive_entry t th x = cond (is_receptive th) (received t (first_thrown (flying_to t x.flight)) x) None

-- ---- a Wake: a sleeper that is due

abbrev pub woken : ℕ → Option ℕ → SlotState → Option SlotState
woken t None x = None
woken t (Some due) x = cond (nat_le due x.clock) (Some (wakes t x)) None

-- ---- a Finish: a thread that isn't blocked, and whose whole term is a value or an exception

abbrev pub ended : ℕ → List SlotFrame → SlotPart → SlotState → Option SlotState
ended t [] (ret v) x = Some (finishes t 0 x)
ended t [] (throw e) x = Some (finishes t (length (uncaught_line t e)) x)
ended t [] (doing a vs) x = None
ended t [] (performs p) x = None
ended t (f ∷ fs) p x = None

abbrev pub finish_entry : ℕ → SlotThread → SlotState → Option SlotState
finish_entry t th x = cond th.blocked None (ended t th.term.frames th.term.part x)

-- ---- a Stranded: where all rest and nobody sleeps, all that wait at a cell and can be interrupted, in order of number

abbrev pub is_empty : List Flying → Bool
is_empty [] = true
is_empty (f ∷ fs) = false

-- thread t has finished, or is blocked and can receive no exception that is in flight to it
abbrev pub rests : List Flying → ℕ → SlotThread → Bool
rests fs t th = th.finished || (th.blocked && (not (is_receptive th) || is_empty (flying_to t fs)))

-- so does each of these threads, which are numbered from t
abbrev pub rest_from : List Flying → ℕ → List SlotThread → Bool
rest_from fs t [] = true
rest_from fs t (th ∷ ths) = rests fs t th && rest_from fs (suc t) ths

abbrev pub waits_to : Primitive → List V → Bool
waits_to TakeMVar (val.Cell m ∷ []) = true
waits_to ReadMVar (val.Cell m ∷ []) = true
waits_to PutMVar (val.Cell m ∷ v ∷ []) = true
waits_to _ _ = false

-- whether a blocked thread with this part waits at a cell
abbrev pub waits_at_cell : SlotPart → Bool
waits_at_cell (ret v) = false
waits_at_cell (throw e) = false
waits_at_cell (doing a vs) = false
waits_at_cell (performs (calls p vs)) = waits_to p vs
waits_at_cell (performs (forks tree vs)) = false
waits_at_cell (performs (forks_unmask tree vs)) = false

abbrev pub waits_open : SlotThread → Bool
waits_open th = th.blocked && (waits_at_cell th.term.part && is_interruptible (mask_from Unmasked th.term.frames))

-- of these threads, which are numbered from t, those that wait so
abbrev pub waiting_from : ℕ → List SlotThread → List ℕ
waiting_from t [] = []
waiting_from t (th ∷ ths) = cond (waits_open th) (t ∷ waiting_from (suc t) ths) (waiting_from (suc t) ths)

abbrev pub stranded : List ℕ → SlotState → Option SlotState
stranded [] x = None
stranded (t ∷ ts) x = Some (strands (t ∷ ts) x)

abbrev pub strand_entry : List Sleeper → SlotState → Option SlotState
strand_entry [] x = cond (rest_from x.flight 0 x.threads) (stranded (waiting_from 0 x.threads) x) None
strand_entry (r ∷ rs) x = None

-- ---- the table

-- on a thread that is there and hasn't finished
abbrev pub on_thread : Option SlotThread → (SlotThread → Option SlotState) → Option SlotState
on_thread None k = None
on_thread (Some th) k = cond th.finished None (k th)

abbrev pub entered : List SlottedFunction → SlotState → Entry → Option SlotState
entered funs x (entry.Local t k) = on_thread (slice_get x.threads t) (λ th. local_entry funs t k th x)
entered funs x (entry.Op t) = on_thread (slice_get x.threads t) (λ th. op_entry t th x)
entered funs x (entry.Receive t) = on_thread (slice_get x.threads t) (λ th. receive_entry t th x)
entered funs x (entry.Wake t) = woken t (due_of t x.sleepers) x
entered funs x (entry.Finish t) = on_thread (slice_get x.threads t) (λ th. finish_entry t th x)
entered funs x (entry.Tick at) = cond (nat_le x.clock at) (Some (ticks at x)) None
entered funs x entry.Stranded = strand_entry x.sleepers x

-- the state that an entry leaves, or nothing where it can't: after the main thread has finished nothing can be entered
abbrev pub next : List SlottedFunction → SlotState → Entry → Option SlotState
next funs x e = on_thread (slice_get x.threads 0) (λ main. entered funs x e)

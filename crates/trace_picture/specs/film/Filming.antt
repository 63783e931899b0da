-- What a picture shows of a history of a script (own): one frame for the first state, and one for each entry and the state that it
-- leaves. An entry is shown by what its thread stands at, and a state by what each thread does and whether each cell is full.
use Rattle.std.specs.Prelude.{ℕ, ◌+◌, Bool, true, false, cond, is_some, List, [], ◌∷◌, length, map, Option, Some, None, slice_get}
use Rattle.hs_base.specs.declared.exn.Exn.{Exn}
use Rattle.hs_rules.specs.declared.entry.Entry.{Entry}
use Rattle.hs_rules.specs.declared.entry.Entry.TheVariants as entry
use Rattle.rules_expansion.specs.trees.Programs.{Fn}
use Rattle.rules_meaning.specs.Values.{V}
use Rattle.rules_meaning.specs.Values as val
use Rattle.rules_meaning.specs.CoreMeaning.{Code, code_of}
use Rattle.rules_expansion.specs.declared.primitive.Primitive.{Primitive}
use Rattle.rules_expansion.specs.declared.primitive.Primitive.TheVariants.{PutStr, PutStrLn, HPutStrLn, NewMVar, NewEmptyMVar, TakeMVar, PutMVar, ReadMVar, TryTakeMVar, TryPutMVar, MyThreadId, GetMaskingState, ClockMicros, ThreadDelay, ThrowTo, NewTimeout, Acquired, Release}
use Rattle.rules_waiting.specs.Waiting.{Reason, Taking, Reading, Putting, Throwing, Sleeping, reason_of, flight_of, flying_to, first_thrown}
use Rattle.hs_rules.specs.Terms.{Operation, Calls, Forks, ForksUnmask, Part, Ret, Throw, Do, Performs, mask_at}
use Rattle.hs_rules.specs.State.{Thread, State}
use Rattle.hs_rules.specs.Entries.{next}
use Rattle.hs_rules.specs.Runs.{first_of}
use Rattle.lane_picture.specs.declared.film.Deed.{Deed}
use Rattle.lane_picture.specs.declared.film.Deed.TheVariants as deed
use Rattle.lane_picture.specs.declared.film.Doing.{Doing}
use Rattle.lane_picture.specs.declared.film.Doing.TheVariants as doing
use Rattle.lane_picture.specs.declared.film.Ending.{Ending}
use Rattle.lane_picture.specs.declared.film.Event.{Event}
use Rattle.lane_picture.specs.declared.film.Event.TheVariants as event
use Rattle.lane_picture.specs.declared.film.Frame.{Frame}
use Rattle.lane_picture.specs.declared.film.Pose.{Pose}
use Rattle.lane_picture.specs.Drawing.{picture}

-- ---- a state

-- what a thread does that waits for this, or for nothing
abbrev pub doing_for : Option (Reason V) → Doing
doing_for None = doing.Running
doing_for (Some (Taking m)) = doing.Taking m
doing_for (Some (Reading m)) = doing.Reading m
doing_for (Some (Putting m a)) = doing.Putting m
doing_for (Some (Throwing u e)) = doing.Throwing u
doing_for (Some (Sleeping due)) = doing.Sleeping due

-- what thread t, which is this one, does, and its masking state; nothing once it has finished
abbrev pub pose_of : State → ℕ → Thread → Option Pose
pose_of s t th = cond th.finished None (Some (record { doing = doing_for (reason_of t s.blocked); mask = mask_at th.term.frames }))

-- of threads by number, from this one on
abbrev pub poses_from : State → ℕ → List Thread → List (Option Pose)
poses_from s t [] = []
poses_from s t (th ∷ ths) = pose_of s t th ∷ poses_from s (t + 1) ths

abbrev pub poses_of : State → List (Option Pose)
poses_of s = poses_from s 0 s.threads

-- whether each cell is full
abbrev pub fulls_of : List (Option V) → List Bool
fulls_of [] = []
fulls_of (o ∷ os) = is_some o ∷ fulls_of os

-- ---- an entry

abbrev pub on_text : (List ℕ → Deed) → List V → Deed
on_text f (val.Text x ∷ vs) = f x
on_text f _ = deed.Asks

abbrev pub on_cell : (ℕ → Deed) → List V → Deed
on_cell f (val.Cell m ∷ vs) = f m
on_cell f _ = deed.Asks

abbrev pub on_exn : (Exn → Deed) → List V → Deed
on_exn f (val.Exception e ∷ vs) = f e
on_exn f _ = deed.Asks

abbrev pub on_throw : List V → Deed
on_throw (val.Thread u ∷ vs) = on_exn (λ e. deed.Throws u e) vs
on_throw _ = deed.Asks

-- Each is named, so that a new one is shown as somebody decided.
abbrev pub primitive_deed : Primitive → List V → Deed
primitive_deed PutStr vs = on_text (λ x. deed.Prints x) vs
primitive_deed PutStrLn vs = on_text (λ x. deed.Prints x) vs
primitive_deed HPutStrLn vs = on_text (λ x. deed.Reports x) vs
primitive_deed NewMVar vs = deed.MakesCell
primitive_deed NewEmptyMVar vs = deed.MakesCell
primitive_deed TakeMVar vs = on_cell (λ m. deed.Takes m) vs
primitive_deed PutMVar vs = on_cell (λ m. deed.Puts m) vs
primitive_deed ReadMVar vs = on_cell (λ m. deed.Reads m) vs
primitive_deed TryTakeMVar vs = on_cell (λ m. deed.TriesToTake m) vs
primitive_deed TryPutMVar vs = on_cell (λ m. deed.TriesToPut m) vs
primitive_deed MyThreadId vs = deed.Asks
primitive_deed GetMaskingState vs = deed.Asks
primitive_deed ClockMicros vs = deed.Asks
primitive_deed NewTimeout vs = deed.Asks
primitive_deed ThreadDelay vs = deed.Delays
primitive_deed ThrowTo vs = on_throw vs
primitive_deed Acquired vs = deed.Acquires
primitive_deed Release vs = deed.Releases

abbrev pub deed_of : Operation → Deed
deed_of (Calls p vs) = primitive_deed p vs
deed_of (Forks a env) = deed.Forks
deed_of (ForksUnmask r a env) = deed.Forks

-- an Op of thread t, by the part at which it stands
abbrev pub operation_event : ℕ → Part → Event
operation_event t (Performs op) = event.Does t (deed_of op)
operation_event t (Ret v) = event.Nothing
operation_event t (Throw e) = event.Nothing
operation_event t (Do a env) = event.Nothing

-- its end by its part
abbrev pub end_event : ℕ → Part → Event
end_event t (Performs op) = event.Nothing
end_event t (Ret v) = event.Returns t
end_event t (Throw e) = event.Fails t e
end_event t (Do a env) = event.Nothing

abbrev pub by_part : (Part → Event) → Option Thread → Event
by_part f None = event.Nothing
by_part f (Some th) = f th.term.part

-- what thread t receives: the first exception that was thrown at it
abbrev pub receive_event : ℕ → Option (ℕ × Exn) → Event
receive_event t None = event.Nothing
receive_event t (Some w) = event.Receives t w.0 w.1

-- what an entry does in a state
abbrev pub event_of : Entry → State → Event
event_of (entry.Local t k) s = event.Steps t k
event_of (entry.Op t) s = by_part (operation_event t) (slice_get s.threads t)
event_of (entry.Receive t) s = receive_event t (first_thrown (flying_to t (flight_of s.blocked)))
event_of (entry.Wake t) s = event.Wakes t
event_of (entry.Finish t) s = by_part (end_event t) (slice_get s.threads t)
event_of (entry.Tick moment) s = event.Ticks moment
event_of entry.Stranded s = event.Strands

-- ---- a history

abbrev pub frame_with : Event → State → Frame
frame_with e s = record { event = e; poses = poses_of s; cells = fulls_of s.cells }

-- the frame of the first state
abbrev pub first_frame : State → Frame
first_frame s = frame_with event.Nothing s

-- the frame of an entry that leads from one state to another
abbrev pub frame_of : Entry → State → State → Frame
frame_of e s u = frame_with (event_of e s) u

-- the frames of the entries from a state on
abbrev pub frames_from : Code → State → List Entry → List Frame
frames_from code s [] = []
frames_from code s (e ∷ es) = elim (next code s e) [ None ↦ [] | Some u ↦ frame_of e s u ∷ frames_from code u es ]

abbrev pub film_after : Code → Option State → List Entry → List Frame
film_after code None es = []
film_after code (Some s) es = first_frame s ∷ frames_from code s es

-- the film of a history of a script
abbrev pub film_of : List Fn → List Entry → List Frame
film_of ds es = film_after (code_of ds) (first_of ds) es

-- The picture of a history that leaves this state and has come to this.
abbrev pub picture_of : List Fn → List Entry → State → Ending → List ℕ
picture_of ds es s e = picture (film_of ds es) (length s.threads) (length s.cells) e

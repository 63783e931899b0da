-- What can be seen of a world of what a picture shows of a state (own).
use Rattle.std.specs.Prelude.{ℕ, ◌+◌, Bool, cond, is_some, List, [], ◌∷◌, Option, Some, None, slice_get}
use Rattle.hs_base.specs.declared.value.Value.{Value}
use Rattle.hs_base.specs.declared.mask.Mask.TheVariants.{Unmasked}
use Rattle.rules_waiting.specs.OneCell.{Cell}
use Rattle.rules_waiting.specs.Waiting.{flying_to, first_thrown}
use Rattle.exn_flight.specs.Asleep.{due_of}
use Rattle.local_steps.specs.Frames.{mask_inside}
use Rattle.frame_stack.specs.declared.control.Control.{Control}
use Rattle.frame_stack.specs.declared.control.Control.TheVariants as c
use Rattle.frame_stack.specs.declared.control.Operation.{Operation}
use Rattle.frame_stack.specs.declared.control.Operation.TheVariants as o
use Rattle.thread_table.specs.declared.thread.Thread.{Thread}
use Rattle.hs_rules.specs.declared.entry.Entry.{Entry}
use Rattle.hs_rules.specs.declared.entry.Entry.TheVariants as entry
use Rattle.world_entries.specs.declared.world.World.{World}
use Rattle.lane_picture.specs.declared.film.Deed.{Deed}
use Rattle.lane_picture.specs.declared.film.Deed.TheVariants as deed
use Rattle.lane_picture.specs.declared.film.Doing.{Doing}
use Rattle.lane_picture.specs.declared.film.Doing.TheVariants as doing
use Rattle.lane_picture.specs.declared.film.Event.{Event}
use Rattle.lane_picture.specs.declared.film.Event.TheVariants as event
use Rattle.lane_picture.specs.declared.film.Frame.{Frame}
use Rattle.lane_picture.specs.declared.film.Pose.{Pose}
use Rattle.trace_picture.specs.film.Filming.{receive_event}

-- ---- threads

abbrev pub asleep_until : Option ℕ → Doing
asleep_until None = doing.Running
asleep_until (Some due) = doing.Sleeping due

-- what a blocked thread waits for that stands at this operation, and that sleeps until then if it sleeps
abbrev pub operation_doing : Option ℕ → Operation → Doing
operation_doing due (o.TakeMVar m) = doing.Taking m
operation_doing due (o.ReadMVar m) = doing.Reading m
operation_doing due (o.PutMVar m v) = doing.Putting m
operation_doing due (o.ThrowTo u e) = doing.Throwing u
operation_doing due (o.ThreadDelay n) = asleep_until due
operation_doing due _ = doing.Running

abbrev pub control_doing : Option ℕ → Control → Doing
control_doing due (c.Op p) = operation_doing due p
control_doing due _ = doing.Running

abbrev pub thread_doing : World → ℕ → Thread → Doing
thread_doing w t th = cond th.blocked (control_doing (due_of t w.sleepers.list) th.stack.control) doing.Running

abbrev pub pose_at : World → ℕ → Thread → Option Pose
pose_at w t th = cond th.finished None (Some (record { doing = thread_doing w t th; mask = mask_inside Unmasked th.stack.frames }))

abbrev pub poses_at : World → ℕ → List Thread → List (Option Pose)
poses_at w t [] = []
poses_at w t (th ∷ ths) = pose_at w t th ∷ poses_at w (t + 1) ths

abbrev pub fulls_at : List (Cell Value) → List Bool
fulls_at [] = []
fulls_at (k ∷ ks) = is_some k.content ∷ fulls_at ks

-- ---- an entry

-- what only asks isn't named here
abbrev pub operation_deed : Operation → Deed
operation_deed (o.PutStr x) = deed.Prints x
operation_deed (o.PutStrLn x) = deed.Prints x
operation_deed (o.HPutStrLn x) = deed.Reports x
operation_deed (o.NewMVar v) = deed.MakesCell
operation_deed o.NewEmptyMVar = deed.MakesCell
operation_deed (o.TakeMVar m) = deed.Takes m
operation_deed (o.PutMVar m v) = deed.Puts m
operation_deed (o.ReadMVar m) = deed.Reads m
operation_deed (o.TryTakeMVar m) = deed.TriesToTake m
operation_deed (o.TryPutMVar m v) = deed.TriesToPut m
operation_deed (o.ThreadDelay n) = deed.Delays
operation_deed (o.ThrowTo u e) = deed.Throws u e
operation_deed o.Acquired = deed.Acquires
operation_deed (o.Release i) = deed.Releases
operation_deed (o.Fork a vs) = deed.Forks
operation_deed (o.ForkUnmask a vs) = deed.Forks
operation_deed _ = deed.Asks

abbrev pub operates : ℕ → Control → Event
operates t (c.Op p) = event.Does t (operation_deed p)
operates t (c.Doing a vs) = event.Nothing
operates t (c.Ret v) = event.Nothing
operates t (c.Throw e) = event.Nothing

abbrev pub ends : ℕ → Control → Event
ends t (c.Op p) = event.Nothing
ends t (c.Doing a vs) = event.Nothing
ends t (c.Ret v) = event.Returns t
ends t (c.Throw e) = event.Fails t e

abbrev pub by_control : (Control → Event) → Option Thread → Event
by_control f None = event.Nothing
by_control f (Some th) = f th.stack.control

-- what an entry is about to do in this world
abbrev pub event_at : Entry → World → Event
event_at (entry.Local t k) w = event.Steps t k
event_at (entry.Op t) w = by_control (operates t) (slice_get w.threads.list.items t)
event_at (entry.Receive t) w = receive_event t (first_thrown (flying_to t w.threads.flight.list))
event_at (entry.Wake t) w = event.Wakes t
event_at (entry.Finish t) w = by_control (ends t) (slice_get w.threads.list.items t)
event_at (entry.Tick moment) w = event.Ticks moment
event_at entry.Stranded w = event.Strands

-- ---- a frame

abbrev pub frame_at : Event → World → Frame
frame_at e w = record { event = e; poses = poses_at w 0 w.threads.list.items; cells = fulls_at w.cells.cells }

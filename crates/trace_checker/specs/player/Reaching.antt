-- What a run has come to, by its main thread and by what can be done next (own).
use Rattle.frame_stack.specs.declared.control.Control.{Control}
use Rattle.frame_stack.specs.declared.control.Control.TheVariants as c
use Rattle.run_course.specs.declared.history.acts.Next.{Next}
use Rattle.run_course.specs.declared.history.acts.Next.TheVariants as next
use Rattle.trace_checker.specs.declared.player.player.Reached.{Reached}
use Rattle.trace_checker.specs.declared.player.player.Reached.TheVariants as reached

-- where main has finished by this
abbrev pub ended_as : Control → Reached
ended_as (c.Doing i vs) = reached.Uncaught
ended_as (c.Ret v) = reached.Done
ended_as (c.Throw e) = reached.Uncaught
ended_as (c.Op p) = reached.Uncaught

-- where main hasn't finished
abbrev pub going_as : Next → Reached
going_as next.Stuck = reached.Deadlock
going_as _ = reached.Open

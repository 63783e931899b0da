use Rattle.std.proofs.Common.{◌≡◌, drop}
use Rattle.exn_flight.specs.Asleep.{due_of}
use Rattle.number_states.specs.waits.Sleeping.{sleepers}
use Rattle.number_states.proofs.waits.sleepers.due_of.Given as goal

-- the due of what is left is that of all
abbrev pub invariant-loop-sleeper : goal.invariant-loop-sleeper
invariant-loop-sleeper l = due_of l.thread (sleepers (drop l.sleeper-index l.list)) ≡ due_of l.thread (sleepers l.list)

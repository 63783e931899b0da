use Rattle.std.proofs.Common.{◌≡◌, ◌++◌, take, drop}
use Rattle.number_states.specs.waits.Sleeping.{sleepers, undue}
use Rattle.number_states.proofs.waits.sleepers.wake_all.Given as goal

-- those that may wake at 0, and what is left as it will be, are all as they will be
abbrev pub invariant-loop-sleeper : goal.invariant-loop-sleeper
invariant-loop-sleeper l = sleepers (take l.sleeper-index l.list) ++ undue (sleepers (drop l.sleeper-index l.list)) ≡ undue (sleepers l.fn.list)

use Rattle.std.proofs.Common.{◌≡◌, ◌++◌, take, drop}
use Rattle.rules_waiting.specs.Waiting.{sleeper_added}
use Rattle.number_states.specs.waits.Sleeping.{sleeper_of, sleepers}
use Rattle.number_states.proofs.waits.sleepers.place_of.Given as goal

-- the place is not among the first
abbrev pub invariant-loop-place : goal.invariant-loop-place
invariant-loop-place l = sleeper_added (sleeper_of l.sleeper) (sleepers l.list) ≡ sleepers (take l.place l.list) ++ sleeper_added (sleeper_of l.sleeper) (sleepers (drop l.place l.list))

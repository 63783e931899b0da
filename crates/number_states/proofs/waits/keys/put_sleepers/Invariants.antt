use Rattle.std.proofs.Common.{◌≡◌, ◌++◌, drop}
use Rattle.number_states.specs.waits.Keys.{sleepers_key}
use Rattle.number_states.proofs.waits.keys.put_sleepers.Given as goal

-- what was put, and the key of what is left, are the key of all
abbrev pub invariant-loop-sleeper : goal.invariant-loop-sleeper
invariant-loop-sleeper l = l.out.items ++ sleepers_key (drop l.sleeper-index l.list) ≡ l.fn.out.items ++ sleepers_key l.list

use Rattle.std.proofs.Common.{◌≡◌, ◌++◌, drop}
use Rattle.number_states.specs.waits.Keys.{flight_key}
use Rattle.number_states.proofs.waits.keys.put_flight.Given as goal

-- what was put, and the key of what is left, are the key of all
abbrev pub invariant-loop-thrown : goal.invariant-loop-thrown
invariant-loop-thrown l = l.out.items ++ flight_key (drop l.thrown-index l.list) ≡ l.fn.out.items ++ flight_key l.list

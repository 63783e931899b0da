use Rattle.std.proofs.Common.{◌≡◌, ◌++◌, drop}
use Rattle.number_states.specs.waits.Throwing.{thrown_to, throwers_of}
use Rattle.number_states.proofs.waits.flight.throwers_to.Given as goal

-- those found so far, and those of what is left, are all
abbrev pub invariant-loop-thrown : goal.invariant-loop-thrown
invariant-loop-thrown l = l.throwers.items ++ throwers_of (thrown_to l.target (drop l.thrown-index l.list)) ≡ throwers_of (thrown_to l.target l.list)

use Rattle.std.proofs.Common.{◌≡◌, drop}
use Rattle.number_states.specs.waits.Throwing.{thrown_to, first_of}
use Rattle.number_states.proofs.waits.flight.first_to.Given as goal

-- the first of what is left is the first of all
abbrev pub invariant-loop-thrown : goal.invariant-loop-thrown
invariant-loop-thrown l = first_of (thrown_to l.target (drop l.thrown-index l.list)) ≡ first_of (thrown_to l.target l.list)

use Rattle.std.proofs.Common.{◌≡◌, drop}
use Rattle.rules_waiting.specs.OneCell.{first_take}
use Rattle.number_states.specs.waits.Places.{places}
use Rattle.number_states.proofs.waits.lines.first_take.Given as goal

-- the first of what is left is the first of all
abbrev pub invariant-loop-place : goal.invariant-loop-place
invariant-loop-place l = first_take (places (drop l.place-index l.line)) ≡ first_take (places l.line)

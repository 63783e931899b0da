use Rattle.std.proofs.Common.{◌≡◌, ◌++◌, drop}
use Rattle.number_states.specs.waits.Places.{places}
use Rattle.number_states.specs.waits.Keys.{line_key}
use Rattle.number_states.proofs.waits.keys.put_line.Given as goal

-- what was put, and the key of what is left, are the key of all
abbrev pub invariant-loop-place : goal.invariant-loop-place
invariant-loop-place l = l.out.items ++ line_key (places (drop l.place-index l.line)) ≡ l.fn.out.items ++ line_key (places l.line)

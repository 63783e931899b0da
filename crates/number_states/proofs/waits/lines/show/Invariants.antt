use Rattle.std.proofs.Common.{◌≡◌, ◌++◌, drop}
use Rattle.rules_waiting.specs.OneCell.{readers, shown}
use Rattle.number_states.specs.waits.Places.{places, answers}
use Rattle.number_states.proofs.waits.lines.show.Given as goal

-- what was answered, and the answers to the readers of what is left, are all
abbrev pub invariant-loop-place : goal.invariant-loop-place
invariant-loop-place l = answers l.replies.items ++ shown l.value (readers (places (drop l.place-index l.line))) ≡ answers l.fn.replies.items ++ shown l.value (readers (places l.line))

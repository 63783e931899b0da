use Rattle.std.proofs.Common.{◌≡◌, drop}
use Rattle.rules_waiting.specs.OneCell.{leave_line}
use Rattle.number_states.specs.waits.Places.{places, threads_of}
use Rattle.number_states.proofs.waits.lines.leave_all.Given as goal

-- once those that are left have left the line, all have
abbrev pub invariant-loop-reply : goal.invariant-loop-reply
invariant-loop-reply l = leave_line (threads_of (drop l.reply-index l.answered)) (places l.line.items) ≡ leave_line (threads_of l.answered) (places l.fn.line.items)

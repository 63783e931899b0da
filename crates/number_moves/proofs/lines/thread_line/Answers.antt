use Rattle.std.proofs.Common.{append_assoc, ◌∙◌}
use Rattle.number_moves.proofs.lines.thread_line.Goals as goal

-- src/lines.rt
pub returns : goal.returns
returns c = c.in_ok-line.ensures.ok ∙ simp append_assoc

use Rattle.std.proofs.Common.{append_assoc, ◌∙◌}
use Rattle.world_entries.proofs.lines.thread_line.Goals as goal

pub returns : goal.returns
returns c = c.in_ok-line.ensures.ok ∙ simp append_assoc

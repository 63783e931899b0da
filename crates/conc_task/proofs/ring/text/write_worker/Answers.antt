use Rattle.std.proofs.Common.{append_assoc}
use Rattle.conc_task.specs.ring.Ring.{worker_line}
use Rattle.conc_task.proofs.ring.text.write_worker.Goals as goal

pub returns : goal.returns
unfolding worker_line
returns c = simp append_assoc c.write.ensures.bytes

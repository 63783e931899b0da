use Rattle.std.proofs.Common.{append_assoc}
use Rattle.lane_picture.proofs.words.write_thread_stranded.Goals as goal

pub returns : goal.returns
returns c = simp append_assoc c.write.ensures.bytes

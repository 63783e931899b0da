use Rattle.std.proofs.Common.{append_assoc}
use Rattle.lane_picture.specs.Pieces.{text_start}
use Rattle.lane_picture.proofs.pieces.write_text_start.Goals as goal

pub returns : goal.returns
unfolding text_start
returns c = simp append_assoc c.write.ensures.bytes

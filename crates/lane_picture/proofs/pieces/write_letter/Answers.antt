use Rattle.std.proofs.Common.{append_assoc}
use Rattle.lane_picture.specs.Pieces.{letter}
use Rattle.lane_picture.proofs.pieces.write_letter.Goals as goal

pub returns : goal.returns
unfolding letter
returns c = simp append_assoc c.write.ensures.bytes

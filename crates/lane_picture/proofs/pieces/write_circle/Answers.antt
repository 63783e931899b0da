use Rattle.std.proofs.Common.{append_assoc}
use Rattle.lane_picture.specs.Pieces.{circle}
use Rattle.lane_picture.proofs.pieces.write_circle.Goals as goal

pub returns : goal.returns
unfolding circle
returns c = simp append_assoc c.write.ensures.bytes

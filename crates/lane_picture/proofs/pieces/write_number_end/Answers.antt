use Rattle.std.proofs.Common.{append_assoc}
use Rattle.lane_picture.specs.Pieces.{number_end}
use Rattle.lane_picture.proofs.pieces.write_number_end.Goals as goal

pub returns : goal.returns
unfolding number_end
returns c = simp append_assoc c.write.ensures.bytes

use Rattle.std.proofs.Common.{append_assoc}
use Rattle.lane_picture.specs.Pieces.{lozenge}
use Rattle.lane_picture.proofs.pieces.write_lozenge.Goals as goal

pub returns : goal.returns
unfolding lozenge
returns c = simp append_assoc c.write.ensures.bytes

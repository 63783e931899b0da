use Rattle.std.proofs.Common.{append_assoc}
use Rattle.lane_picture.specs.Pieces.{turn}
use Rattle.lane_picture.proofs.pieces.write_turn.Goals as goal

pub returns : goal.returns
unfolding turn
returns c = simp append_assoc c.write.ensures.bytes

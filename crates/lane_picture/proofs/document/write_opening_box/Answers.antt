use Rattle.std.proofs.Common.{append_assoc}
use Rattle.lane_picture.specs.Drawing.{opening_box}
use Rattle.lane_picture.proofs.document.write_opening_box.Goals as goal

pub returns : goal.returns
unfolding opening_box
returns c = simp append_assoc c.write.ensures.bytes

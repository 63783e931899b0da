use Rattle.slot_laws.proofs.SlotFraming.{framed}
use Rattle.slot_laws.proofs.framing.slices_fit_frames.Goals as goal

pub returns : goal.returns
returns c funs s below k t u e = framed funs s below k t u e

use Rattle.slot_laws.proofs.NamedFraming.{framed_names}
use Rattle.slot_laws.proofs.framing.rules_fit_frames.Goals as goal

pub returns : goal.returns
returns c code m below k p q ps qs is e = framed_names code m below k p q ps qs is e

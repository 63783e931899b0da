use Rattle.claim_lines.proofs.Parts.{standing}
use Rattle.claim_lines.proofs.meeting.has.Goals as goal

pub returns : goal.returns
returns c = standing c.contains.result c.args.whole.now c.args.part.now c.contains.ensures.cases

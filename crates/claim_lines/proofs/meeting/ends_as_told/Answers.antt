use Rattle.claim_lines.specs.Meaning.{told_line}
use Rattle.claim_lines.proofs.Parts.{ending}
use Rattle.claim_lines.proofs.meeting.ends_as_told.Goals as goal

pub returns : goal.returns
returns c = ending c.ends_with.result c.args.errors.now told_line c.ends_with.ensures.cases

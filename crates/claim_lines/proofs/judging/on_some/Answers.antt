use Rattle.outcome_listing.specs.Finals.{outcomes_of}
use Rattle.claim_lines.proofs.Firsts.{some_meets}
use Rattle.claim_lines.proofs.judging.on_some.Goals as goal

pub returns-in-Some : goal.returns-in-Some
returns-in-Some c = some_meets c.args.parts.now (outcomes_of c.args.explored.now.outcomes) c.in-Some.field-0 (rw c.as_slice.ensures at c.in-Some.ensures)

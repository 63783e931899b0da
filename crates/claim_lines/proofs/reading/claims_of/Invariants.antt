use Rattle.std.proofs.Common.{length}
use Rattle.claim_lines.proofs.Numbered.{AreReadTo}
use Rattle.claim_lines.proofs.reading.claims_of.Given as goal

abbrev pub invariant-lines : goal.invariant-lines
invariant-lines l = AreReadTo l.text l.claims l.number l.rest

abbrev pub decreases-lines : goal.decreases-lines
decreases-lines l = length l.rest

use Rattle.std.proofs.Common.{length}
use Rattle.claim_lines.proofs.Pieces.{IsReadTo}
use Rattle.claim_lines.proofs.lines.read_body.Given as goal

abbrev pub invariant-words : goal.invariant-words
invariant-words l = IsReadTo l.body l.draft l.behind

abbrev pub decreases-words : goal.decreases-words
decreases-words l = length l.behind

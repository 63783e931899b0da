use Rattle.std.proofs.Common.{length}
use Rattle.std.specs.String.{string_bytes}
use Rattle.claim_lines.proofs.Closings.{IsMeantTo}
use Rattle.claim_lines.proofs.literal.literal.Given as goal

abbrev pub invariant-parts : goal.invariant-parts
invariant-parts l = IsMeantTo l.inside l.rest (string_bytes l.text)

abbrev pub decreases-parts : goal.decreases-parts
decreases-parts l = length l.rest

use Rattle.std.proofs.Common.{not}
use Rattle.std.specs.List.{AllWithin}
use Rattle.outcome_listing.specs.Finals.{outcome_of}
use Rattle.claim_lines.specs.Meaning.{MetIs}
use Rattle.claim_lines.proofs.meeting.first_that.Given as goal

abbrev pub invariant-loop-place : goal.invariant-loop-place
invariant-loop-place l = AllWithin (λ o. MetIs l.parts (not l.met) (outcome_of o)) l.outcomes 0 l.place

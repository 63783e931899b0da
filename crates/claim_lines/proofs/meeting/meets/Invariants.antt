use Rattle.std.specs.List.{AllWithin}
use Rattle.outcome_listing.specs.Finals.{outcome_of}
use Rattle.claim_lines.specs.Meaning.{MeetsPart}
use Rattle.claim_lines.proofs.meeting.meets.Given as goal

abbrev pub invariant-loop-part : goal.invariant-loop-part
invariant-loop-part l = AllWithin (MeetsPart (outcome_of l.outcome)) l.parts 0 l.part-index

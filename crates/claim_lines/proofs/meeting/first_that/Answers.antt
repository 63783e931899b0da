use Rattle.std.proofs.Common.{not, arith}
use Rattle.std.proofs.lemmas.List.Elements.{at_read}
use Rattle.outcome_listing.specs.Finals.{outcome_of}
use Rattle.claim_lines.specs.Meaning.{MetIs}
use Rattle.claim_lines.proofs.Parts.{met_same}
use Rattle.claim_lines.proofs.Firsts.{first_found, none_found}
use Rattle.claim_lines.proofs.meeting.first_that.Goals as goal

pub returns-then-meets-met : goal.returns-then-meets-met
returns-then-meets-met c =
    let parts = c.args.parts.now in
    let met = c.args.met in
    let found = c.index-outcomes-place.result in
    let here : MetIs parts met (outcome_of found) = met_same parts (outcome_of found) c.meets.result met c.if-meets-met.true c.meets.ensures in
    first_found (MetIs parts (not met)) (MetIs parts met) c.args.outcomes.now c.loop-place.place c.loop-place-test.true c.loop-place.invariant
    (at_read c.args.outcomes.now (λ o. MetIs parts met (outcome_of o)) c.loop-place.place found c.loop-place-test.true c.index-outcomes-place.is here)

pub returns : goal.returns
returns c = none_found (MetIs c.args.parts.now (not c.args.met)) c.args.outcomes.now c.loop-place.place (omega arith) c.loop-place.invariant

use Rattle.std.proofs.Common.{MatchResult, ◌∙◌, subst, arith}
use Rattle.claim_lines.specs.Reading.{HasClaims, IsFault}
use Rattle.claim_lines.proofs.Numbered.{few_chars}
use Rattle.claim_lines.proofs.reading.read_claims.Goals as goal

pub claims_of-requires : goal.claims_of-requires
claims_of-requires c = omega (arith, few_chars c.args.text.now c.as_slice.result.now c.utf8.text (c.as_slice.ensures.value ∙ c.in_ok-all.ensures), c.requires.small)

pub returns : goal.returns
returns c = subst (λ z. MatchResult c.claims_of.result (HasClaims z) (IsFault z)) (c.as_slice.ensures.value ∙ c.in_ok-all.ensures) c.claims_of.ensures

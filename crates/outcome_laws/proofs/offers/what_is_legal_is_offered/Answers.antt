use Rattle.outcome_laws.proofs.offers_lemmas.Offering.{offered}
use Rattle.outcome_laws.proofs.offers.what_is_legal_is_offered.Goals as goal

pub returns : goal.returns
returns c = offered

use Rattle.outcome_laws.proofs.offers_lemmas.Offering.{any_wakes}
use Rattle.outcome_laws.proofs.offers.any_due_sleeper_wakes.Goals as goal

pub returns : goal.returns
returns c = any_wakes

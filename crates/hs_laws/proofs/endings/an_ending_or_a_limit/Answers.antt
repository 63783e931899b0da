use Rattle.hs_laws.proofs.HowItEnds.{not_both}
use Rattle.hs_laws.proofs.endings.an_ending_or_a_limit.Goals as goal

pub returns : goal.returns
returns c = not_both

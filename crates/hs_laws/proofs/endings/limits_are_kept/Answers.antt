use Rattle.hs_laws.proofs.HowItEnds.{within_begins, within_more}
use Rattle.hs_laws.proofs.endings.limits_are_kept.Goals as goal

pub returns-clause-begins : goal.returns-clause-begins
returns-clause-begins c = within_begins

pub returns-clause-more : goal.returns-clause-more
returns-clause-more c = within_more

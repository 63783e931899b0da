use Rattle.hs_laws.proofs.Later.{followed_is_early, ticks_apart}
use Rattle.hs_laws.proofs.clock.ticks_stand_apart.Goals as goal

pub returns-clause-early : goal.returns-clause-early
returns-clause-early c = followed_is_early

pub returns-clause-punctual : goal.returns-clause-punctual
returns-clause-punctual c = ticks_apart

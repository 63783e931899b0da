use Rattle.hs_laws.proofs.Later.{first_asleep}
use Rattle.hs_laws.proofs.clock.the_first_due_sleeps.Goals as goal

pub returns : goal.returns
returns c = first_asleep

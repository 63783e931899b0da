use Rattle.outcome_laws.proofs.Clocked.{witness, virtual_kept}
use Rattle.outcome_laws.proofs.witnesses_keep_the_clock.Goals as goal

pub returns-clause-real_timing : goal.returns-clause-real_timing
returns-clause-real_timing c = witness

pub returns-clause-virtual_timing : goal.returns-clause-virtual_timing
returns-clause-virtual_timing c = virtual_kept

use Rattle.outcome_laws.proofs.timing_lemmas.Timing.{run_forth, run_back}
use Rattle.outcome_laws.proofs.timing.time_decides_nothing.Goals as goal

pub returns-clause-forth : goal.returns-clause-forth
returns-clause-forth c = run_forth

pub returns-clause-back : goal.returns-clause-back
returns-clause-back c = run_back

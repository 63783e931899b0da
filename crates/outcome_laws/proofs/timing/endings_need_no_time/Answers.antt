use Rattle.outcome_laws.proofs.timing_lemmas.Timing.{deadlock_either, idle_either}
use Rattle.outcome_laws.proofs.timing.endings_need_no_time.Goals as goal

pub returns-clause-done : goal.returns-clause-done
returns-clause-done c = λ s. (λ h. h, λ h. h)

pub returns-clause-uncaught : goal.returns-clause-uncaught
returns-clause-uncaught c = λ s. (λ h. h, λ h. h)

pub returns-clause-deadlock : goal.returns-clause-deadlock
returns-clause-deadlock c = deadlock_either

pub returns-clause-idle : goal.returns-clause-idle
returns-clause-idle c = idle_either

use Rattle.hs_progress.proofs.Quiet.{idle_exactly, quiet_exactly, deadlock_exactly}
use Rattle.hs_progress.proofs.waiting.waiting_is_exact.Goals as goal

pub returns-clause-idle : goal.returns-clause-idle
returns-clause-idle a = idle_exactly

pub returns-clause-quiet : goal.returns-clause-quiet
returns-clause-quiet a = quiet_exactly

pub returns-clause-deadlock : goal.returns-clause-deadlock
returns-clause-deadlock a = deadlock_exactly

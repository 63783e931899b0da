use Rattle.hs_progress.proofs.Quiet.{stranded_exactly}
use Rattle.hs_progress.proofs.waiting.stranding_is_exact.Goals as goal

pub returns : goal.returns
returns a = stranded_exactly

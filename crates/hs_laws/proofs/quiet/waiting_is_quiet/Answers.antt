use Rattle.hs_laws.proofs.Expanded.{quiet_of}
use Rattle.hs_laws.proofs.quiet.waiting_is_quiet.Goals as goal

pub returns : goal.returns
returns c = quiet_of

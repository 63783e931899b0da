use Rattle.hs_laws.proofs.Expanded.{idle_of, strands_of}
use Rattle.hs_laws.proofs.quiet.waiting_is_idle.Goals as goal

pub returns-clause-idle : goal.returns-clause-idle
returns-clause-idle c = idle_of

pub returns-clause-strands : goal.returns-clause-strands
returns-clause-strands c = strands_of

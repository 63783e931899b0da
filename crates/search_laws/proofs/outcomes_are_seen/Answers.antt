use Rattle.search_laws.proofs.Complete.{seen}
use Rattle.search_laws.proofs.outcomes_are_seen.Goals as goal

pub returns : goal.returns
returns c = seen

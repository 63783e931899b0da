use Rattle.search_laws.proofs.ends_lemmas.Bounds.{bounded, not_endless}
use Rattle.search_laws.proofs.ends.ranks_bound_runs.Goals as goal

pub returns-clause-bound : goal.returns-clause-bound
returns-clause-bound c = bounded

pub returns-clause-ends : goal.returns-clause-ends
returns-clause-ends c = not_endless

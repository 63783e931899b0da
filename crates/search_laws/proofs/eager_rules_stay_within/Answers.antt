use Rattle.search_laws.proofs.Walking.{used_moved}
use Rattle.search_laws.proofs.eager_rules_stay_within.Goals as goal

pub returns : goal.returns
returns c = used_moved

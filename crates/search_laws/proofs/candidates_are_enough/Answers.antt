use Rattle.search_laws.proofs.Candidates.{all_still, all_gone}
use Rattle.search_laws.proofs.candidates_are_enough.Goals as goal

pub returns-clause-still : goal.returns-clause-still
returns-clause-still c = all_still

pub returns-clause-gone : goal.returns-clause-gone
returns-clause-gone c = all_gone

use Rattle.search_laws.proofs.time_lemmas.Untimed.{twice}
use Rattle.search_laws.proofs.time.time_is_taken_away.Goals as goal

pub returns-clause-twice : goal.returns-clause-twice
returns-clause-twice c = twice

use Rattle.search_laws.proofs.time_lemmas.Standing.{untimed_stands, reads_alike}
use Rattle.search_laws.proofs.time.untimed_states_stand.Goals as goal

pub returns-clause-stands : goal.returns-clause-stands
returns-clause-stands c = untimed_stands

pub returns-clause-reads : goal.returns-clause-reads
returns-clause-reads c = reads_alike

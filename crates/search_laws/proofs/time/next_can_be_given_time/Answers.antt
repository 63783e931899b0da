use Rattle.search_laws.proofs.time_lemmas.Waking.{next_back, or_ticks}
use Rattle.search_laws.proofs.time.next_can_be_given_time.Goals as goal

pub returns-clause-entry : goal.returns-clause-entry
returns-clause-entry c = next_back

pub returns-clause-tick : goal.returns-clause-tick
returns-clause-tick c = or_ticks

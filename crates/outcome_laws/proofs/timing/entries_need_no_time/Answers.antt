use Rattle.outcome_laws.proofs.timing_lemmas.Timing.{tick_alike, entry_forth, legal_forth}
use Rattle.outcome_laws.proofs.timing.entries_need_no_time.Goals as goal

pub returns-clause-tick : goal.returns-clause-tick
returns-clause-tick c = λ code s u at h. tick_alike code s u at h

pub returns-clause-entry : goal.returns-clause-entry
returns-clause-entry c = entry_forth

pub returns-clause-legal : goal.returns-clause-legal
returns-clause-legal c = legal_forth

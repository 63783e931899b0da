use Rattle.outcome_laws.proofs.reduction_lemmas.Meeting.{names_a_thread}
use Rattle.outcome_laws.proofs.reduction.few_entries_lead_on.Goals as goal

pub returns : goal.returns
returns c = names_a_thread

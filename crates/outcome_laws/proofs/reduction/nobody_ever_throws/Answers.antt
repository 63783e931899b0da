use Rattle.outcome_laws.proofs.reduction_lemmas.NobodyThrows.{nobody_throws_kept, none_receives, first_throws_none}
use Rattle.outcome_laws.proofs.reduction.nobody_ever_throws.Goals as goal

pub returns-clause-begins : goal.returns-clause-begins
returns-clause-begins c = first_throws_none

pub returns-clause-kept : goal.returns-clause-kept
returns-clause-kept c = nobody_throws_kept

pub returns-clause-receives : goal.returns-clause-receives
returns-clause-receives c = none_receives

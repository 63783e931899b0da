use Rattle.outcome_laws.proofs.reduction_lemmas.Meeting.{others_commute, receive_commutes, itself_alone, performs_nothing, finishes_not}
use Rattle.outcome_laws.proofs.reduction.eager_rules_commute.Goals as goal

pub returns-clause-others : goal.returns-clause-others
returns-clause-others c = others_commute

pub returns-clause-receives : goal.returns-clause-receives
returns-clause-receives c = receive_commutes

pub returns-clause-itself : goal.returns-clause-itself
returns-clause-itself c = itself_alone

pub returns-clause-performs : goal.returns-clause-performs
returns-clause-performs c = performs_nothing

pub returns-clause-finishes : goal.returns-clause-finishes
returns-clause-finishes c = finishes_not

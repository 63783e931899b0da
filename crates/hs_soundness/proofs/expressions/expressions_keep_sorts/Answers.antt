use Rattle.rules_sorts.specs.TypedMeaning.{any_cell}
use Rattle.hs_soundness.proofs.CoreExpressions.{accepted_good}
use Rattle.hs_soundness.proofs.CoreSlots.{core_slots}
use Rattle.hs_soundness.proofs.expressions.expressions_keep_sorts.Goals as goal

pub returns-clause-value : goal.returns-clause-value
returns-clause-value a = accepted_good any_cell

pub returns-clause-slots : goal.returns-clause-slots
returns-clause-slots a = core_slots any_cell

use Rattle.std.proofs.Common.{◌∙◌}
use Rattle.number_moves.proofs.operations_lemmas.Operates.{asked_performs}
use Rattle.number_moves.proofs.operations.operating.operation_of.Goals as goal

-- src/operating.rt
pub returns-in_ok-copy_values-in-Asks : goal.returns-in_ok-copy_values-in-Asks
returns-in_ok-copy_values-in-Asks c = λ b.
    asked_performs b c.args.part.now c.in-Asks.primitive c.in-Asks.values c.in_ok-copy_values-in-Asks.field-0 c.asked.result c.in-Asks.is (c.in_ok-copy_values-in-Asks.ensures ∙ c.as_slice.ensures) c.asked.ensures

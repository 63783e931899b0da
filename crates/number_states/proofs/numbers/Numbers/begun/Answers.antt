use Rattle.number_states.proofs.Stacked.{both_ok}
use Rattle.number_states.proofs.numbers.Numbers.begun.Goals as goal

-- src/terms.rt
pub returns-clause-there : goal.returns-clause-there
returns-clause-there c = both_ok _ _ _ (λ n is t. record { there = t; term = λ b. (_, is b) }) c.first.result c.first.ensures.is c.first.ensures.there

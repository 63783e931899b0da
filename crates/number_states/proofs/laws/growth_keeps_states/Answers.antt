use Rattle.number_states.specs.States.{contents}
use Rattle.number_states.proofs.Growth.{slots_of_on, all_in_on, text_at_on}
use Rattle.number_states.proofs.laws.growth_keeps_states.Goals as goal

-- src/laws.rt
pub returns-clause-slots : goal.returns-clause-slots
returns-clause-slots c = λ g h x t k b. slots_of_on g h k b (contents x) t

pub returns-clause-there : goal.returns-clause-there
returns-clause-there c = λ g h x t k. all_in_on g h k (contents x) t

pub returns-clause-output : goal.returns-clause-output
returns-clause-output c = λ g h x t k. text_at_on g h k x.output t.output

pub returns-clause-errors : goal.returns-clause-errors
returns-clause-errors c = λ g h x t k. text_at_on g h k x.errors t.errors

use Rattle.number_states.specs.States.{contents}
use Rattle.number_states.proofs.Exact.{exact_contents}
use Rattle.number_states.proofs.laws.keys_are_exact.Goals as goal

-- src/laws.rt
pub returns : goal.returns
returns c = λ x y e. exact_contents (contents x) (contents y) e

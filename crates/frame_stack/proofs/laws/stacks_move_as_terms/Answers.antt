use Rattle.frame_stack.proofs.Terms.{moves_as_term}
use Rattle.frame_stack.proofs.laws.stacks_move_as_terms.Goals as goal

pub returns : goal.returns
returns c = moves_as_term

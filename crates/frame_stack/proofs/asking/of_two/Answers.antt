use Rattle.rules_meaning.specs.Values.{value_of}
use Rattle.frame_stack.proofs.Forms.{not_two}
use Rattle.frame_stack.proofs.asking.of_two.Goals as goal

pub returns-in_default : goal.returns-in_default
returns-in_default c = not_two c.args.primitive (value_of c.args.first) (value_of c.args.second) c.in_default.not-PutMVar c.in_default.not-TryPutMVar c.in_default.not-ThrowTo

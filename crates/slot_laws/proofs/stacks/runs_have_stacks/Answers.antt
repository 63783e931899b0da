use Rattle.slot_laws.proofs.Building as stacks
use Rattle.slot_laws.proofs.stacks.runs_have_stacks.Goals as goal

pub returns : goal.returns
returns c = stacks.runs_have_stacks

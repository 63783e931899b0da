use Rattle.slot_states.proofs.Spawning.{fork_enters, fork_unmasked_enters}
use Rattle.slot_states.proofs.operations.forks_are_entered.Goals as goal

pub returns-clause-fork : goal.returns-clause-fork
returns-clause-fork c = fork_enters

pub returns-clause-unmasked : goal.returns-clause-unmasked
returns-clause-unmasked c = fork_unmasked_enters

use Rattle.slot_laws.proofs.Forking.{forks_stand, forks_unmask_stand, main_stands}
use Rattle.slot_laws.proofs.StacksStand.{locals_stand, entries_stand, stranded_stand}
use Rattle.slot_laws.proofs.stacks.stacks_stand.Goals as goal

pub returns-clause-locals : goal.returns-clause-locals
returns-clause-locals c = locals_stand

pub returns-clause-entries : goal.returns-clause-entries
returns-clause-entries c = entries_stand

pub returns-clause-forks : goal.returns-clause-forks
returns-clause-forks c = forks_stand

pub returns-clause-unmasks : goal.returns-clause-unmasks
returns-clause-unmasks c = forks_unmask_stand

pub returns-clause-first : goal.returns-clause-first
returns-clause-first c = main_stands

pub returns-clause-stranded : goal.returns-clause-stranded
returns-clause-stranded c = stranded_stand
